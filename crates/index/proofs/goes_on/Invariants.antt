-- What the loop of `index::goes_on` keeps. Assumes nothing.
use Rattle.std.proofs.Common.{◌≡◌, ℕ, List, length}
use Rattle.index.specs.Steps.{all_go_on, owing}
use Rattle.typeset.proofs.InTurn.{left_of}
use Rattle.index.proofs.goes_on.Given as goal

abbrev pub invariant-loop-t : goal.invariant-loop-t
invariant-loop-t l =
    (length l.met ≡ 64)
    × ((rest : ℕ → List ℕ) → all_go_on l.met l.index (owing l.first (left_of l.t-iterator.left) l.address rest) ≡ all_go_on l.initial.met l.index (owing l.first l.types l.address rest))
