-- `recordbytes::deliver_ordinary` meets its contract. Assumes nothing.
use native.Mathlib.Omega.{arith}
use Prim.Native.Nat.{ℕ, ◌+◌}
use lib.ListN.{length-set}
use Rattle.recordbytes.specs.Numbers.{side_of}
use lib.ListN.{get_or}
use mathlib.Core.Path.{◌≡◌, refl, sym, ap, ◌∙◌}
use Rattle.ends.specs.declared.Signal.TheVariants.{Ordinary}
use Rattle.signalbytes.specs.Numbers.{status_said}
use Rattle.recordbytes.specs.Records.{queue_place}
use Rattle.recordbytes.proofs.Numbers.{state-no-count, channel-no-count, settled-channel, next-still}
use Rattle.recordbytes.proofs.Acts.{ordinary-refused, not-ordinary, unfit, ordinary-handed, own-count-of}
use Rattle.recordbytes.proofs.deliver_ordinary.Goals as goal

pub returns-then-state-lt3 : goal.returns-then-state-lt3
returns-then-state-lt3 c =
    let a = c.args in
    let q = a.at + queue_place (side_of a.side) in
    ordinary-refused a.row.now a.at (side_of a.side) c.requires.1 c.requires.2 c.state_place-n.ensures.0 (get_or a.row.now (q + 1) 0) (get_or a.row.now (q + 2) 0) (get_or a.row.now (q + 3) 0) c.requires.3 c.if-state-lt3.true

pub returns-then-not-is_ordinary : goal.returns-then-not-is_ordinary
returns-then-not-is_ordinary c =
    let a = c.args in
    let heads : Ordinary (get_or a.row.now (a.at + queue_place (side_of a.side) + 2) 0) (status_said (get_or a.row.now (a.at + queue_place (side_of a.side) + 1) 0) (get_or a.row.now (a.at + queue_place (side_of a.side) + 3) 0)) ≡ Ordinary (get_or a.row.now (a.at + c.queue_to.result + 2) 0) (status_said (get_or a.row.now (a.at + c.queue_to.result + 1) 0) (get_or a.row.now (a.at + c.queue_to.result + 3) 0)) = ap (λ (q : ℕ). Ordinary (get_or a.row.now (a.at + q + 2) 0) (status_said (get_or a.row.now (a.at + q + 1) 0) (get_or a.row.now (a.at + q + 3) 0))) (sym c.queue_to.ensures.0) in
    not-ordinary a.row.now a.at (side_of a.side) c.requires.1 c.requires.2 c.state_place-n.ensures.0 (get_or a.row.now (a.at + c.queue_to.result + 1) 0) (get_or a.row.now (a.at + c.queue_to.result + 2) 0) (get_or a.row.now (a.at + c.queue_to.result + 3) 0) (c.requires.3 ∙ heads) c.if-state-lt3.false (sym c.is_ordinary.ensures ∙ c.if-not-is_ordinary.true)

pub returns-then-not-fits : goal.returns-then-not-fits
returns-then-not-fits c =
    let a = c.args in
    let heads : Ordinary (get_or a.row.now (a.at + queue_place (side_of a.side) + 2) 0) (status_said (get_or a.row.now (a.at + queue_place (side_of a.side) + 1) 0) (get_or a.row.now (a.at + queue_place (side_of a.side) + 3) 0)) ≡ Ordinary (get_or a.row.now (a.at + c.queue_to.result + 2) 0) (status_said (get_or a.row.now (a.at + c.queue_to.result + 1) 0) (get_or a.row.now (a.at + c.queue_to.result + 3) 0)) = ap (λ (q : ℕ). Ordinary (get_or a.row.now (a.at + q + 2) 0) (status_said (get_or a.row.now (a.at + q + 1) 0) (get_or a.row.now (a.at + q + 3) 0))) (sym c.queue_to.ensures.0) in
    unfit a.row.now a.at (side_of a.side) c.requires.1 c.requires.2 c.state_place-n.ensures.0 (get_or a.row.now (a.at + c.queue_to.result + 1) 0) (get_or a.row.now (a.at + c.queue_to.result + 2) 0) (get_or a.row.now (a.at + c.queue_to.result + 3) 0) (c.requires.3 ∙ heads) c.if-state-lt3.false (sym c.is_ordinary.ensures ∙ c.if-not-is_ordinary.false) c.tunnel_place.ensures.2 c.tunnel_place.ensures.0 c.next_channel-next.ensures (sym c.fits.ensures ∙ c.if-not-fits.true)

pub pop-requires : goal.pop-requires
pop-requires c =
    let a = c.args in
    let kept = state-no-count a.row.now a.at (side_of a.side) (side_of a.side) c.stays.result c.state_place-n.ensures.0 c.queue_to.ensures.0 in
    let count = own-count-of a.row.now a.at (side_of a.side) c.queue_to.ensures.0 in
    let beside = channel-no-count _ a.at (side_of a.side) (side_of a.side) _ _ c.tunnel_place.ensures.0 c.queue_to.ensures.0 c.touch.ensures in
    omega (arith, c.requires.0, c.requires.1, c.queue_to.ensures.1, kept, count, beside, c.touch.auto.row, length-set a.row.now (a.at + c.state_place-n.result) c.stays.result)

pub returns : goal.returns
returns c =
    let a = c.args in
    let heads : Ordinary (get_or a.row.now (a.at + queue_place (side_of a.side) + 2) 0) (status_said (get_or a.row.now (a.at + queue_place (side_of a.side) + 1) 0) (get_or a.row.now (a.at + queue_place (side_of a.side) + 3) 0)) ≡ Ordinary (get_or a.row.now (a.at + c.queue_to.result + 2) 0) (status_said (get_or a.row.now (a.at + c.queue_to.result + 1) 0) (get_or a.row.now (a.at + c.queue_to.result + 3) 0)) = ap (λ (q : ℕ). Ordinary (get_or a.row.now (a.at + q + 2) 0) (status_said (get_or a.row.now (a.at + q + 1) 0) (get_or a.row.now (a.at + q + 3) 0))) (sym c.queue_to.ensures.0) in
    let still = settled-channel a.row.now a.at (side_of a.side) (get_or a.row.now (a.at + c.queue_to.result + 2) 0) c.stays.result c.state_place-n.ensures.0 c.tunnel_place.ensures.0 refl in
    ordinary-handed a.row.now a.at (side_of a.side) c.requires.1 c.requires.2 c.state_place-n.ensures.0 (get_or a.row.now (a.at + c.queue_to.result + 1) 0) (get_or a.row.now (a.at + c.queue_to.result + 2) 0) (get_or a.row.now (a.at + c.queue_to.result + 3) 0) (c.requires.3 ∙ heads) c.if-state-lt3.false (sym c.is_ordinary.ensures ∙ c.if-not-is_ordinary.false) c.tunnel_place.ensures.2 c.tunnel_place.ensures.0 c.next_channel-next.ensures _ c.queue_to.ensures.0 (sym c.fits.ensures ∙ c.if-not-fits.false) c.stays.ensures refl (next-still (side_of a.side) (get_or a.row.now (a.at + c.queue_to.result + 2) 0) (get_or a.row.now (a.at + c.queue_to.result + 1) 0) (sym still) c.next_channel-next.ensures) c.touch.ensures c.pop.ensures (rw (← c.kept_code.ensures) c.handed.ensures)
