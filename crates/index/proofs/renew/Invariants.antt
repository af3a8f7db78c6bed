-- `index::renew` meets its contract. The loop looks forward, as in `enter`. Assumes nothing.
use Rattle.std.proofs.Common.{◌≡◌}
use Rattle.index.specs.Index.{row}
use Rattle.index.specs.Steps.{upon, members}
use Rattle.typeset.proofs.InTurn.{left_of}
use Rattle.index.proofs.renew.Given as goal

abbrev pub invariant-loop-t : goal.invariant-loop-t
invariant-loop-t l =
    upon l.first (left_of l.t-iterator.left) (λ k r. row (members k l.subscribers)) l.index ≡ upon l.first l.types (λ k r. row (members k l.subscribers)) l.initial.index
