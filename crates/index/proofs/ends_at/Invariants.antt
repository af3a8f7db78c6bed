-- What the loops of `index::ends_at` keep. Assumes nothing.
use mathlib.Core.Path.{◌≡◌}
use lib.Dec.{eqb}
use lib.ListN.{get_or}
use Rattle.typeset.specs.Sets.{every}
use Rattle.index.proofs.ends_at.Given as goal

abbrev pub invariant-loop-place : goal.invariant-loop-place
invariant-loop-place l = l.blank ≡ every l.place-index (λ u. eqb (get_or l.past u 0) 0)
