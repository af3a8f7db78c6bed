-- `dfc_index::dfc_index_look` meets its contract. Assumes nothing.
use Rattle.std.proofs.Common.{refl}
use Rattle.dfc_index.specs.Files.{listed}
use Rattle.dfc_index.proofs.dfc_index_look.Goals as goal

pub returns : goal.returns
unfolding listed
returns c = rw (c.look-part.ensures, c.row_for-row.ensures.0, c.region_of-region.ensures) refl
