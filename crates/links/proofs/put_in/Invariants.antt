-- What the loop of `links::put_in` keeps. Assumes nothing.
use Rattle.std.proofs.Common.{◌≡◌, drop}
use lib.Seq.{sets}
use Rattle.links.specs.Steps.{pushed}
use Rattle.links.proofs.put_in.Given as goal

abbrev pub invariant-loop-i : goal.invariant-loop-i
invariant-loop-i l = (sets l.set l.i (pushed l.carried (drop l.i l.initial.set)) ≡ sets l.initial.set l.from (pushed l.x (drop l.from l.initial.set))) × (drop l.i l.set ≡ drop l.i l.initial.set)
