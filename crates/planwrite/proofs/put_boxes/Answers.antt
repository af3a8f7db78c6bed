-- `planwrite::put_boxes` meets its contract. Assumes nothing.
use mathlib.Core.Path.{refl, sym, ap, ◌∙◌}
use native.Mathlib.Omega.{arith}
use borrow.Author.Rules.{rules}
use Prim.Native.Nat.{◌≤◌, ◌<◌, ◌+◌, ◌*◌}
use lib.ListN.{length, take, length-take}
use lib.Seq.{length-sets}
use Rattle.planwrite.proofs.Puts.{row-all, row_put, row-end}
use Rattle.planwrite.proofs.put_boxes.Goals as goal

pub loop-x-init : goal.loop-x-init
loop-x-init c = (search rules, refl, row-all 2 _ _ _)

pub overflow_add-at : goal.overflow_add-at
overflow_add-at c = omega arith

pub put_two-requires : goal.put_two-requires
put_two-requires c =
    let few : length (take c.args.count c.args.boxes) ≤ c.args.count = simp length-take (omega arith) in
    omega (arith, few)

pub loop-x-preserved : goal.loop-x-preserved
loop-x-preserved c =
    let i = c.loop-x.invariant in
    let few : length (take c.args.count c.args.boxes) ≤ c.args.count = simp length-take (omega arith) in
    let below : c.loop-x.x < length (take c.args.count c.args.boxes) = omega arith in
    let put = c.put_two.ensures in (
      omega (arith, few, below),
      ap length put ∙ simp length-sets i.1,
      rw put (sym (row_put 2 (take c.args.count c.args.boxes) c.loop-x.room c.args.at c.loop-x.x below) ∙ i.2),
    )

pub shape_of-room : goal.shape_of-room
shape_of-room c = c.loop-x.invariant.1

pub returns : goal.returns
returns c =
    let all : length (take c.args.count c.args.boxes) ≤ c.loop-x.x = omega arith in
    sym (row-end 2 (take c.args.count c.args.boxes) c.loop-x.room (c.args.at + 2 * c.loop-x.x) c.loop-x.x all) ∙ c.loop-x.invariant.2
