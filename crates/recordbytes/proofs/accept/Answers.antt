-- `recordbytes::accept` meets its contract. Assumes nothing.
use Rattle.recordbytes.proofs.Acts.{accept-not, accept-full, accept-more}
use Rattle.recordbytes.proofs.accept.Goals as goal

pub returns-then-row-at-ne2 : goal.returns-then-row-at-ne2
returns-then-row-at-ne2 c =
    let a = c.args in
    accept-not a.row.now a.at c.if-row-at-ne2.true

pub returns-then-row-at-gt15 : goal.returns-then-row-at-gt15
returns-then-row-at-gt15 c =
    let a = c.args in
    accept-full a.row.now a.at c.if-row-at-ne2.false c.if-row-at-gt15.true

pub returns : goal.returns
returns c =
    let a = c.args in
    accept-more a.row.now a.at c.if-row-at-ne2.false c.if-row-at-gt15.false c.push.ensures
