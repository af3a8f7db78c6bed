-- `faults::list_fits` meets its contract. Assumes nothing.
use Rattle.std.proofs.Common.{rules, sym, ap, ◌∙◌}
use borrow.Author.Tests.{le-leb, lt-leb}
use Rattle.setup.specs.Setups.{list_fits}
use Rattle.setup.proofs.EndParts.{ends-with-part}
use Rattle.faults.proofs.list_fits.Goals as goal

pub returns-then-list-le32 : goal.returns-then-list-le32
unfolding list_fits
returns-then-list-le32 c = rw (le-leb _ 32 c.if-list-le32.true, ← c.as_slice.ensures, ← c.as_slice-then-list-le32.ensures) (c.ends_with.ensures.value ∙ ends-with-part _ _)

pub returns-else-list-le32 : goal.returns-else-list-le32
unfolding list_fits
returns-else-list-le32 c = rw (lt-leb _ 32 c.if-list-le32.false)
