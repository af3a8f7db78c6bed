-- `recordbytes::teardown` meets its contract. Assumes nothing.
use Rattle.recordbytes.specs.Numbers.{side_of}
use Rattle.recordbytes.proofs.Acts.{teardown-not, teardown-full, teardown-more}
use Rattle.recordbytes.proofs.teardown.Goals as goal

pub returns-then-row-at-ne3 : goal.returns-then-row-at-ne3
returns-then-row-at-ne3 c =
    let a = c.args in
    teardown-not a.row.now a.at (side_of a.side) c.state_place-n.ensures.0 c.if-row-at-ne3.true

pub returns-then-row-q-gt15 : goal.returns-then-row-q-gt15
returns-then-row-q-gt15 c =
    let a = c.args in
    teardown-full a.row.now a.at (side_of a.side) c.state_place-n.ensures.0 c.queue_from.ensures.0 c.if-row-at-ne3.false c.if-row-q-gt15.true

pub returns : goal.returns
returns c =
    let a = c.args in
    teardown-more a.row.now a.at (side_of a.side) c.state_place-n.ensures.0 c.queue_from.ensures.0 c.if-row-at-ne3.false c.if-row-q-gt15.false c.push.ensures
