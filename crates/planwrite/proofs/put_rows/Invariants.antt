-- `planwrite::put_rows` meets its contract. The loop's invariant looks forward: what is still to be put gives the whole result. Assumes nothing.
use mathlib.Core.Path.{◌≡◌}
use Prim.Native.Nat.{◌≤◌, ◌+◌, ◌*◌}
use lib.ListN.{length, drop}
use lib.Seq.{sets}
use Rattle.planbytes.specs.Numbers.{row}
use Rattle.planwrite.proofs.put_rows.Given as goal

abbrev pub invariant-loop-t : goal.invariant-loop-t
invariant-loop-t l = (l.t ≤ 32) × (length l.room ≡ length l.initial.room) × (sets l.room (l.at + 4 * l.t) (row 4 (drop l.t l.row-items)) ≡ sets l.initial.room l.at (row 4 l.row-items))
