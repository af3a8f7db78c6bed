-- `rowbytes::put_placed` meets its contract. Assumes nothing.
use Rattle.std.proofs.Common.{◌*◌, ◌∙◌}
use Rattle.rowbytes.proofs.Rows.{placed-stored, put_in}
use Rattle.rowbytes.proofs.put_placed.Goals as goal

pub returns-then-r-row : goal.returns-then-r-row
returns-then-r-row c =
    let a = c.args in
    rw (c.blank.ensures, c.to_be_bytes.ensures)
    (placed-stored a.row.now (614 * a.r) a.use_number ∙ put_in a.row.now a.r a.use_number c.if-r-row.true)
