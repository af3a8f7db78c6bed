-- `planread::box_at` meets its contract. Assumes nothing.
use borrow.Author.Tests.{lt-ltb, le-ltb}
use Rattle.planread.proofs.box_at.Goals as goal

pub returns-then-x-count : goal.returns-then-x-count
returns-then-x-count c = rw (lt-ltb _ _ c.if-x-count.true) c.two.ensures

pub returns-else-x-count : goal.returns-else-x-count
returns-else-x-count c = rw (le-ltb _ _ c.if-x-count.false)
