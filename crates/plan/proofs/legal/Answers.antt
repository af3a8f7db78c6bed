-- `plan::legal` meets its contract. Assumes nothing.
use Rattle.plan.specs.Parts.{legal}
use mathlib.Core.Path.{refl}
use Rattle.plan.proofs.legal.Goals as goal

pub returns : goal.returns
unfolding legal
returns c = refl
