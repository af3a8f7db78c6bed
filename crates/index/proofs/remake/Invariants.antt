-- What the loop of `index::remake` keeps. Assumes nothing.
use Rattle.std.proofs.Common.{◌≡◌, drop}
use lib.ListN.{replicate}
use Rattle.index.specs.Steps.{members}
use Rattle.index.proofs.Built.{added_all}
use Rattle.index.proofs.remake.Given as goal

abbrev pub invariant-loop-s : goal.invariant-loop-s
invariant-loop-s l = added_all (members l.k (drop l.s-index l.subscribers)) l.list ≡ added_all (members l.k l.subscribers) (replicate 257 0)
