-- `teaching::source_rows` meets its contract. Assumes nothing.
use mathlib.Core.Path.{refl}
use Rattle.teaching.specs.Teaching.{source_rows}
use Rattle.teaching.proofs.source_rows.Goals as goal

pub returns : goal.returns
unfolding source_rows
returns c = refl
