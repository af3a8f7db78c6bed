-- `rowbytes::use_at` meets its contract. Assumes nothing.
use Rattle.rowbytes.proofs.Rows.{use-in, use-past}
use Rattle.rowbytes.proofs.use_at.Goals as goal

pub returns-then-r-row : goal.returns-then-r-row
returns-then-r-row c = rw c.from_be_bytes.ensures (use-in c.args.row.now c.args.r c.if-r-row.true)

pub returns-else-r-row : goal.returns-else-r-row
returns-else-r-row c = use-past c.args.row.now c.args.r c.if-r-row.false
