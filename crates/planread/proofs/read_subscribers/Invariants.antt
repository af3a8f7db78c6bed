-- `planread::read_subscribers` meets its contract. The loop's invariant looks forward: reading on from where it is gives the whole result. Assumes nothing.
use Prim.Native.Nat.{◌-◌}
use Prim.Native.Nat.{◌-◌}
use Rattle.planread.proofs.Going.{Going}
use Rattle.planread.proofs.read_subscribers.Given as goal

abbrev pub invariant-loop-subscribers : goal.invariant-loop-subscribers
invariant-loop-subscribers l = Going l.bytes l.head.types l.head.source l.head.target l.taken l.subscribers l.count l.last l.at

abbrev pub decreases-loop-subscribers : goal.decreases-loop-subscribers
decreases-loop-subscribers l = 257 - l.count
