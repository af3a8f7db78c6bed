-- `index::build` meets its contract. Assumes nothing.
use mathlib.Core.Path.{sym}
use Rattle.index.specs.Said.{built, left}
use Rattle.index.proofs.build.Goals as goal

pub returns : goal.returns
unfolding built left
returns c = rw (sym c.sound-kept.ensures) c.build_tested.ensures
