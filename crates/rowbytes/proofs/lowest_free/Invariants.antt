-- No record before i is free. Assumes nothing.
use Rattle.std.proofs.Common.{◌≡◌, ◌+◌, ◌-◌, ◌*◌}
use Rattle.call.specs.Row.{lowest_free}
use Rattle.rowbytes.specs.Rows.{records_in, records, row_in}
use Rattle.rowbytes.proofs.lowest_free.Given as goal

abbrev pub invariant-loop-i : goal.invariant-loop-i
invariant-loop-i l = l.i + lowest_free (records (records_in l.row - l.i) l.row (614 * l.i)) ≡ lowest_free (row_in l.row)
