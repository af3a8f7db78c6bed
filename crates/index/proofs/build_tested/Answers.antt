-- `index::build_tested` meets its contract. Assumes nothing.
use mathlib.Core.Path.{refl, ◌∙◌}
use Rattle.plan.specs.Find.{used}
use Rattle.index.proofs.Built.{index_is}
use Rattle.index.proofs.build_tested.Goals as goal

pub returns-then-kept : goal.returns-then-kept
unfolding used
returns-then-kept c = rw c.if-kept.true (refl, rw (c.used-count.ensures.0, c.into.ensures) at c.fill.ensures ∙ index_is _)

pub returns-else-kept : goal.returns-else-kept
returns-else-kept c = rw c.if-kept.false (refl, refl)
