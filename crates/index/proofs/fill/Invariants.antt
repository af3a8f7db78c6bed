-- What the loop of `index::fill` keeps. Assumes nothing.
use Rattle.std.proofs.Common.{◌≡◌, drop}
use lib.ListN.{replicate}
use Rattle.index.proofs.Built.{entering}
use Rattle.index.proofs.fill.Given as goal

abbrev pub invariant-loop-s : goal.invariant-loop-s
invariant-loop-s l = entering (drop l.s-index l.subscribers) l.index ≡ entering l.subscribers (replicate 64 (replicate 257 0))
