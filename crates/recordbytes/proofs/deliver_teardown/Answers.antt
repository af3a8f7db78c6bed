-- `recordbytes::deliver_teardown` meets its contract. Assumes nothing.
use native.Mathlib.Omega.{arith}
use Prim.Native.Nat.{◌+◌}
use lib.ListN.{length-set}
use Rattle.recordbytes.specs.Numbers.{side_of}
use Rattle.call.specs.Protocol.{other}
use Rattle.recordbytes.proofs.Numbers.{state-no-count, pop-no-count}
use Rattle.recordbytes.proofs.Acts.{teardown-refused, no_room, teardown-handed, own-count-of}
use Rattle.recordbytes.proofs.deliver_teardown.Goals as goal

pub returns-then-state-lt3 : goal.returns-then-state-lt3
returns-then-state-lt3 c =
    let a = c.args in
    teardown-refused a.row.now a.at (side_of a.side) c.requires.1 c.requires.2 c.state_place-n.ensures.0 c.requires.3 c.if-state-lt3.true

pub returns-then-row-f-gt15 : goal.returns-then-row-f-gt15
returns-then-row-f-gt15 c =
    let a = c.args in
    no_room a.row.now a.at (side_of a.side) c.requires.1 c.requires.2 c.state_place-n.ensures.0 c.requires.3 c.queue_from.ensures.0 c.if-state-lt3.false c.if-row-f-gt15.true

pub pop-requires : goal.pop-requires
pop-requires c =
    let a = c.args in
    let kept = state-no-count a.row.now a.at (side_of a.side) (side_of a.side) c.torn.result c.state_place-n.ensures.0 c.queue_to.ensures.0 in
    let count = own-count-of a.row.now a.at (side_of a.side) c.queue_to.ensures.0 in
    simp length-set (omega (arith, c.requires.0, c.requires.1, c.queue_to.ensures.1, kept, count))

pub push-requires : goal.push-requires
push-requires c =
    let a = c.args in
    let kept = state-no-count a.row.now a.at (side_of a.side) (other (side_of a.side)) c.torn.result c.state_place-n.ensures.0 c.queue_from.ensures.0 in
    let beside = pop-no-count _ a.at (side_of a.side) (simp length-set c.requires.0) c.queue_to.ensures.0 c.queue_from.ensures.0 c.pop.ensures in
    omega (arith, c.requires.0, c.if-row-f-gt15.false, c.queue_from.ensures.1, kept, beside, c.pop.auto.row, length-set a.row.now (a.at + c.state_place-n.result) c.torn.result)

pub returns : goal.returns
returns c =
    let a = c.args in
    teardown-handed a.row.now a.at (side_of a.side) c.requires.1 c.requires.2 c.state_place-n.ensures.0 c.requires.3 _ c.queue_to.ensures.0 c.queue_from.ensures.0 c.if-state-lt3.false c.if-row-f-gt15.false c.torn.ensures c.pop.ensures c.push.ensures c.handed.ensures
