-- `plan::look` meets its contract. Assumes nothing.
use mathlib.Core.Path.{refl}
use Rattle.plan.specs.Find.{seen}
use Rattle.plan.proofs.look.Goals as goal

pub returns : goal.returns
unfolding seen
returns c = rw (c.holder.ensures, c.holder-2.ensures) refl
