-- `zone::preceded` meets its contract. The invariant says, of each type below 32, that a type of the set precedes it exactly where it was found or a type that is still to come precedes it. Assumes nothing.
use Rattle.std.proofs.Common.{◌<◌, ◌^◌}
use Rattle.typeset.proofs.InTurn.{left_of}
use Rattle.zone.proofs.Rows.{Found}
use Rattle.zone.proofs.preceded.Given as goal

abbrev pub invariant-loop-u : goal.invariant-loop-u
invariant-loop-u l = (l.found < 2 ^ 32) × Found l.rows l.set l.found (left_of l.u-iterator.left)
