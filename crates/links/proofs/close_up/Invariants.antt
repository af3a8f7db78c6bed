-- What the loop of `links::close_up` keeps. Assumes nothing.
use Rattle.std.proofs.Common.{◌≡◌, ◌+◌, ◌≤◌, drop}
use lib.Seq.{sets}
use Rattle.links.specs.Steps.{pulled}
use Rattle.links.proofs.close_up.Given as goal

abbrev pub invariant-loop-i : goal.invariant-loop-i
invariant-loop-i l = (l.i ≤ 63) × (sets l.set l.i (pulled (drop (l.i + 1) l.initial.set)) ≡ sets l.initial.set l.from (pulled (drop (l.from + 1) l.initial.set))) × (drop (l.i + 1) l.set ≡ drop (l.i + 1) l.initial.set)
