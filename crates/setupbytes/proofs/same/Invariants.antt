-- `setupbytes::same` meets its contract. The loop goes on past a difference, so its invariant says what the test of the bytes passed is, true or false. Assumes nothing.
use mathlib.Core.Path.{◌≡◌}
use Prim.Native.Nat.{◌≤◌}
use lib.Dec.{eqb}
use lib.ListN.{get_or}
use Rattle.typeset.specs.Sets.{every}
use Rattle.setupbytes.proofs.same.Given as goal

abbrev pub invariant-loop-i : goal.invariant-loop-i
invariant-loop-i l = (l.i ≤ 110) × (l.all ≡ every l.i (λ k. eqb (get_or l.a k 0) (get_or l.b k 0)))
