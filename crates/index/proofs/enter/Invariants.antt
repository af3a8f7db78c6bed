-- `index::enter` meets its contract. The loop looks forward: what the types that are left will do to the index gives the whole. Assumes nothing.
use Rattle.std.proofs.Common.{◌≡◌}
use Rattle.index.specs.Steps.{upon, with_one_more}
use Rattle.typeset.proofs.InTurn.{left_of}
use Rattle.index.proofs.enter.Given as goal

abbrev pub invariant-loop-t : goal.invariant-loop-t
invariant-loop-t l = upon l.first (left_of l.t-iterator.left) (λ k. with_one_more l.address) l.index ≡ upon l.first l.types (λ k. with_one_more l.address) l.initial.index
