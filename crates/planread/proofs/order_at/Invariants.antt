-- `planread::order_at` meets its contract. The loop's invariant looks forward: what is still to be stored gives the whole result. Assumes nothing.
use mathlib.Core.Path.{◌≡◌}
use Prim.Native.Nat.{◌≤◌}
use lib.ListN.{drop}
use lib.Seq.{sets}
use Rattle.planbytes.specs.Numbers.{numbers}
use Rattle.planread.proofs.order_at.Given as goal

abbrev pub invariant-loop-t : goal.invariant-loop-t
invariant-loop-t l = (l.t ≤ 32) × (sets l.rows l.t (drop l.t (numbers 4 32 (drop l.at l.bytes))) ≡ numbers 4 32 (drop l.at l.bytes))
