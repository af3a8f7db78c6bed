-- `planwrite::put_boxes` meets its contract. The loop's invariant looks forward: what is still to be put gives the whole result. Assumes nothing.
use mathlib.Core.Path.{◌≡◌}
use Prim.Native.Nat.{◌≤◌, ◌+◌, ◌*◌}
use lib.ListN.{length, drop}
use lib.Seq.{sets}
use Rattle.planbytes.specs.Numbers.{row}
use Rattle.planwrite.proofs.put_boxes.Given as goal

abbrev pub invariant-loop-x : goal.invariant-loop-x
invariant-loop-x l = (l.x ≤ l.count) × (length l.room ≡ length l.initial.room) × (sets l.room (l.at + 2 * l.x) (row 2 (drop l.x l.number-items)) ≡ sets l.initial.room l.at (row 2 l.number-items))
