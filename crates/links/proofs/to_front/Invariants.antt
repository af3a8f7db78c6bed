-- What the loops of `links::to_front` keep. Assumes nothing.
use mathlib.Core.Path.{◌≡◌}
use Prim.Native.Nat.{◌+◌, ◌≤◌}
use lib.ListN.{length, drop}
use lib.Seq.{sets}
use Rattle.lists.specs.Lists.{keep}
use Rattle.links.specs.Steps.{stays}
use Rattle.links.proofs.to_front.Given as goal

abbrev pub invariant-loop-i : goal.invariant-loop-i
invariant-loop-i l = (l.i ≤ l.count) × (l.n ≤ l.i) × (sets l.set l.n (keep (stays l.port) (drop l.i l.initial.set)) ≡ sets l.initial.set 0 (keep (stays l.port) l.initial.set)) × (l.n + length (keep (stays l.port) (drop l.i l.initial.set)) ≡ length (keep (stays l.port) l.initial.set)) × (drop l.i l.set ≡ drop l.i l.initial.set) × (l.count ≤ 64)
