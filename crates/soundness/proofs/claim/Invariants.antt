-- `soundness::claim` meets its contract. The loop's invariant looks forward: what the numbers that are left still do gives the whole result. Assumes nothing.
use Rattle.std.proofs.Common.{◌≡◌, drop}
use Rattle.plan.specs.Table.{takes}
use Rattle.soundness.proofs.claim.Given as goal

abbrev pub invariant-loop-n : goal.invariant-loop-n
invariant-loop-n l = takes l.taken l.fn.s.kind (drop l.n-index l.numbers) ≡ takes l.initial.taken l.fn.s.kind l.numbers
