-- `planwrite::put_subscribers` meets its contract. The loop's invariant looks forward: what is still to come gives the whole result. Assumes nothing.
use mathlib.Core.Path.{◌≡◌}
use mathlib.Core.Bool.{cond}
use Prim.Native.Nat.{◌≤◌, ◌+◌, ◌*◌}
use lib.ListN.{length, drop, take}
use lib.Seq.{sets}
use Rattle.planbytes.specs.Format.{subscriber_fields}
use Rattle.planwrite.proofs.put_subscribers.Given as goal

abbrev pub invariant-loop-s : goal.invariant-loop-s
invariant-loop-s l = (length l.room ≡ length l.initial.room) × (l.at + length (subscriber_fields (drop l.s-index (take l.count l.fn.subscribers))) ≡ 289 + length (subscriber_fields (take l.count l.fn.subscribers))) × (cond l.put (sets l.room l.at (subscriber_fields (drop l.s-index (take l.count l.fn.subscribers)))) l.room ≡ cond l.put (sets l.initial.room 289 (subscriber_fields (take l.count l.fn.subscribers))) l.initial.room) × (l.at ≤ 289 + 24 * l.s-index)
