-- `recordbytes::send` meets its contract. Assumes nothing.
use Rattle.recordbytes.specs.Numbers.{side_of}
use mathlib.Core.Path.{sym, ◌∙◌}
use Rattle.recordbytes.proofs.Acts.{send-not, send-no-ordinary, send-unfit, send-many, send-more}
use Rattle.recordbytes.proofs.send.Goals as goal

pub returns-then-row-at-ne3 : goal.returns-then-row-at-ne3
returns-then-row-at-ne3 c =
    let a = c.args in
    send-not a.row.now a.at (side_of a.side) c.state_place-n.ensures.0 a.tunnel a.signal a.code c.if-row-at-ne3.true

pub returns-then-not-is_ordinary : goal.returns-then-not-is_ordinary
returns-then-not-is_ordinary c =
    let a = c.args in
    send-no-ordinary a.row.now a.at (side_of a.side) c.state_place-n.ensures.0 a.tunnel a.signal a.code c.if-row-at-ne3.false (sym c.is_ordinary.ensures ∙ c.if-not-is_ordinary.true)

pub returns-then-not-fits : goal.returns-then-not-fits
returns-then-not-fits c =
    let a = c.args in
    send-unfit a.row.now a.at (side_of a.side) c.state_place-n.ensures.0 a.tunnel a.signal a.code c.if-row-at-ne3.false (sym c.is_ordinary.ensures ∙ c.if-not-is_ordinary.false) c.tunnel_place.ensures.2 c.tunnel_place.ensures.0 c.next_channel-next.ensures _ (sym c.fits.ensures ∙ c.if-not-fits.true) c.forbidden.ensures

pub returns-then-row-q-gt13 : goal.returns-then-row-q-gt13
returns-then-row-q-gt13 c =
    let a = c.args in
    send-many a.row.now a.at (side_of a.side) c.state_place-n.ensures.0 a.tunnel a.signal a.code c.if-row-at-ne3.false (sym c.is_ordinary.ensures ∙ c.if-not-is_ordinary.false) c.tunnel_place.ensures.2 c.tunnel_place.ensures.0 c.next_channel-next.ensures c.queue_from.ensures.0 (sym c.fits.ensures ∙ c.if-not-fits.false) c.if-row-q-gt13.true

pub returns : goal.returns
returns c =
    let a = c.args in
    send-more a.row.now a.at (side_of a.side) c.state_place-n.ensures.0 a.tunnel a.signal a.code c.if-row-at-ne3.false (sym c.is_ordinary.ensures ∙ c.if-not-is_ordinary.false) c.tunnel_place.ensures.2 c.tunnel_place.ensures.0 c.next_channel-next.ensures c.queue_from.ensures.0 (sym c.fits.ensures ∙ c.if-not-fits.false) c.if-row-q-gt13.false c.touch.ensures (rw (← c.kept_code.ensures) c.push.ensures)
