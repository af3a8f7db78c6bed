-- What the loop of `links::gather` keeps. Assumes nothing.
use Rattle.std.proofs.Common.{◌≡◌, ◌+◌, ◌≤◌, length, drop, map}
use lib.Seq.{sets}
use Rattle.lists.specs.Lists.{keep}
use Rattle.links.specs.Links.{source_of}
use Rattle.links.specs.Steps.{audible}
use Rattle.links.proofs.gather.Given as goal

abbrev pub invariant-loop-l : goal.invariant-loop-l
invariant-loop-l l =
    (l.n ≤ l.l-index) × (sets l.room l.n (map source_of (keep (audible l.sink) (drop l.l-index l.set))) ≡ sets l.initial.room 0 (map source_of (keep (audible l.sink) l.set)))
    × (l.n + length (keep (audible l.sink) (drop l.l-index l.set)) ≡ length (keep (audible l.sink) l.set))
