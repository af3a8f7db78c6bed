-- `index::look` meets its contract. Assumes nothing.
use mathlib.Core.Path.{◌≡◌, refl, ◌∙◌}
use borrow.Author.Tests.{lt-ltb, le-ltb}
use Rattle.index.specs.Index.{row_for, looked_up}
use Rattle.index.proofs.Rows.{row-or}
use Rattle.index.proofs.look.Goals as goal

pub returns-then-of_type-lt32 : goal.returns-then-of_type-lt32
unfolding looked_up
returns-then-of_type-lt32 c = let row : c.row_for-k.result ≡ row_for c.args.region c.args.of_type = c.row_for-k.ensures.0 ∙ row-or c.args.region c.args.of_type c.if-of_type-lt32.true in
    rw (lt-ltb _ _ c.if-of_type-lt32.true) (c.part.ensures ∙ rw (c.used-n.ensures.0, row) refl)

pub returns : goal.returns
unfolding looked_up
returns c = rw (le-ltb _ _ c.if-of_type-lt32.false) c.part-2.ensures
