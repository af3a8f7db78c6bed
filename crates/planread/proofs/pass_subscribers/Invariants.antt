-- `planread::pass_subscribers` meets its contract. The loop's invariant looks forward, as where the subscribers are kept. Assumes nothing.
use Prim.Native.Nat.{ℕ, ◌-◌}
use mathlib.Core.List.{List}
use Prim.Native.Nat.{◌-◌}
use Rattle.planread.proofs.Passing.{Passing}
use Rattle.planread.proofs.pass_subscribers.Given as goal

abbrev pub invariant-loop-n : goal.invariant-loop-n
invariant-loop-n l = (source target : List ℕ) → Passing l.bytes l.types source target l.first l.second l.taken l.one l.other l.count l.before l.at

abbrev pub decreases-loop-n : goal.decreases-loop-n
decreases-loop-n l = 257 - l.count
