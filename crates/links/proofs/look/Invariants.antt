-- What the loop of `links::look` keeps. Assumes nothing.
use Rattle.std.proofs.Common.{◌≡◌, ◌+◌, length, drop}
use Rattle.lists.specs.Lists.{keep}
use Rattle.links.specs.Sets.{taken, formed_from}
use Rattle.links.proofs.look.Given as goal

abbrev pub invariant-loop-i : goal.invariant-loop-i
invariant-loop-i l = (formed_from l.before (drop l.i l.set) ≡ formed_from 0 l.set) × (l.i + length (keep taken (drop l.i l.set)) ≡ length (keep taken l.set))
