-- `recordbytes::deliver_upack` meets its contract. Assumes nothing.
use native.Mathlib.Omega.{arith}
use lib.ListN.{length-set}
use Rattle.recordbytes.specs.Numbers.{side_of}
use Rattle.recordbytes.proofs.Numbers.{state-no-count}
use Rattle.recordbytes.proofs.Acts.{upack-not, upack-handed, own-count-of}
use Rattle.recordbytes.proofs.deliver_upack.Goals as goal

pub returns-then-row-at-ne1 : goal.returns-then-row-at-ne1
returns-then-row-at-ne1 c =
    let a = c.args in
    upack-not a.row.now a.at (side_of a.side) c.requires.1 c.requires.2 c.state_place-n.ensures.0 c.requires.3 c.if-row-at-ne1.true

pub pop-requires : goal.pop-requires
pop-requires c =
    let a = c.args in
    let kept = state-no-count a.row.now a.at (side_of a.side) (side_of a.side) 3 c.state_place-n.ensures.0 c.queue_to.ensures.0 in
    let count = own-count-of a.row.now a.at (side_of a.side) c.queue_to.ensures.0 in
    simp length-set (omega (arith, c.requires.0, c.requires.1, c.queue_to.ensures.1, kept, count))

pub returns : goal.returns
returns c =
    let a = c.args in
    upack-handed a.row.now a.at (side_of a.side) c.requires.1 c.requires.2 c.state_place-n.ensures.0 _ c.queue_to.ensures.0 c.requires.3 c.if-row-at-ne1.false c.pop.ensures c.handed.ensures
