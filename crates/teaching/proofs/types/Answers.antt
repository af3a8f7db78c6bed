-- `teaching::types` meets its contract. Assumes nothing.
use mathlib.Core.Path.{refl}
use Rattle.teaching.specs.Teaching.{types}
use Rattle.teaching.proofs.types.Goals as goal

pub returns : goal.returns
unfolding types
returns c = refl
