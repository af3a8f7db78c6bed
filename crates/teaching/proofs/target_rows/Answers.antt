-- `teaching::target_rows` meets its contract. Assumes nothing.
use mathlib.Core.Path.{refl}
use Rattle.teaching.specs.Teaching.{target_rows}
use Rattle.teaching.proofs.target_rows.Goals as goal

pub returns : goal.returns
unfolding target_rows
returns c = refl
