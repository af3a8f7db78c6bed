-- `planwrite::put_rows` meets its contract. Assumes nothing.
use mathlib.Core.Path.{◌≡◌, refl, sym, ap, ◌∙◌}
use native.Mathlib.Omega.{arith}
use borrow.Author.Rules.{rules}
use Prim.Native.Nat.{◌≤◌, ◌<◌, ◌+◌, ◌*◌}
use lib.ListN.{length}
use lib.Seq.{length-sets}
use Rattle.planbytes.specs.Format.{order_body}
use Rattle.planwrite.proofs.Puts.{row-all, row_put, row-end}
use Rattle.planwrite.proofs.put_rows.Goals as goal

pub loop-t-init : goal.loop-t-init
loop-t-init c = (search rules, refl, row-all 4 _ _ _)

pub overflow_add-at : goal.overflow_add-at
overflow_add-at c = omega arith

pub put_four-requires : goal.put_four-requires
put_four-requires c = omega arith

pub loop-t-preserved : goal.loop-t-preserved
loop-t-preserved c =
    let i = c.loop-t.invariant in
    let long : length c.args.rows ≡ 32 = search rules in
    let below : c.loop-t.t < length c.args.rows = rw long (search rules) in
    let put = c.put_four.ensures in
    (search rules, ap length put ∙ simp length-sets i.1, rw put (sym (row_put 4 c.args.rows c.loop-t.room c.args.at c.loop-t.t below) ∙ i.2))

pub shape_of-room : goal.shape_of-room
shape_of-room c = c.loop-t.invariant.1

pub returns : goal.returns
unfolding order_body
returns c =
    let long : length c.args.rows ≡ 32 = search rules in
    let end : c.loop-t.t ≡ 32 = omega arith in
    let all : length c.args.rows ≤ 32 = omega arith in
    sym (row-end 4 c.args.rows c.loop-t.room (c.args.at + 4 * 32) 32 all) ∙ rw end at c.loop-t.invariant.2
