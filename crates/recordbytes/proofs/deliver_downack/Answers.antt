-- `recordbytes::deliver_downack` meets its contract. Assumes nothing.
use native.Mathlib.Omega.{arith}
use lib.ListN.{length-set}
use Rattle.recordbytes.specs.Numbers.{side_of}
use Rattle.recordbytes.proofs.Numbers.{state-no-count}
use Rattle.recordbytes.proofs.Acts.{downack-not, downack-handed, own-count-of}
use Rattle.recordbytes.proofs.deliver_downack.Goals as goal

pub returns-then-row-at-lt4 : goal.returns-then-row-at-lt4
returns-then-row-at-lt4 c =
    let a = c.args in
    downack-not a.row.now a.at (side_of a.side) c.requires.1 c.requires.2 c.state_place-n.ensures.0 c.requires.3 c.if-row-at-lt4.true

pub pop-requires : goal.pop-requires
pop-requires c =
    let a = c.args in
    let kept = state-no-count a.row.now a.at (side_of a.side) (side_of a.side) 0 c.state_place-n.ensures.0 c.queue_to.ensures.0 in
    let count = own-count-of a.row.now a.at (side_of a.side) c.queue_to.ensures.0 in
    simp length-set (omega (arith, c.requires.0, c.requires.1, c.queue_to.ensures.1, kept, count))

pub returns : goal.returns
returns c =
    let a = c.args in
    downack-handed a.row.now a.at (side_of a.side) c.requires.1 c.requires.2 c.state_place-n.ensures.0 _ c.queue_to.ensures.0 c.requires.3 c.if-row-at-lt4.false c.pop.ensures c.handed.ensures
