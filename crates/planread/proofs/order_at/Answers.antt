-- `planread::order_at` meets its contract. Assumes nothing.
use mathlib.Core.List.{append-nil}
use mathlib.Core.Path.{◌≡◌, sym, ◌∙◌}
use native.Mathlib.Omega.{arith}
use borrow.Author.Rules.{rules}
use lib.ListN.{drop}
use Rattle.planbytes.proofs.Numbers.{row_next, row_done, row-pad}
use Rattle.planread.specs.Reading.{order_in}
use Rattle.planread.proofs.order_at.Goals as goal

pub loop-t-init : goal.loop-t-init
loop-t-init c = (search rules, row-pad 32 4 32 _ (search rules) ∙ append-nil _)

pub overflow_add-at : goal.overflow_add-at
overflow_add-at c = omega arith

pub four-requires : goal.four-requires
four-requires c = omega arith

pub loop-t-preserved : goal.loop-t-preserved
loop-t-preserved c =
    let i = c.loop-t.invariant in
    (search rules, rw c.four.ensures (sym (row_next c.args.bytes.now c.args.at 4 32 c.loop-t.rows c.loop-t.t (search rules)) ∙ i.1))

pub returns : goal.returns
unfolding order_in
returns c =
    let end : c.loop-t.t ≡ 32 = omega arith in
    sym (row_done (drop c.args.at c.args.bytes.now) 4 32 _) ∙ rw end at c.loop-t.invariant.1
