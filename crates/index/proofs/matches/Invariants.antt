-- What the loop of `index::matches` keeps. Assumes nothing.
use Rattle.std.proofs.Common.{◌≡◌, length, drop}
use lib.ListN.{replicate}
use Rattle.index.specs.Steps.{members, all_go_on}
use Rattle.index.proofs.matches.Given as goal

abbrev pub invariant-loop-s : goal.invariant-loop-s
invariant-loop-s l =
    (length l.met ≡ 64) × (all_go_on l.met l.index (λ k. members k (drop l.s-index l.subscribers)) ≡ all_go_on (replicate 64 0) l.index (λ k. members k l.subscribers))
