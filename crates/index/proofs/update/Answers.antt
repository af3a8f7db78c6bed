-- `index::update` meets its contract. Assumes nothing.
use mathlib.Core.Path.{sym}
use Rattle.index.specs.Said.{updated, plan_after, index_after}
use Rattle.index.proofs.update.Goals as goal

pub returns : goal.returns
unfolding updated plan_after index_after
returns c = rw (sym c.sound-kept.ensures) c.update_tested.ensures
