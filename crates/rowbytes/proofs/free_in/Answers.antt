-- `rowbytes::free_in` meets its contract. Assumes nothing.
use Rattle.std.proofs.Common.{eq-eqb, ne_eqb}
use Rattle.rowbytes.proofs.Rows.{free-states}
use Rattle.rowbytes.proofs.free_in.Goals as goal

pub returns-then-row-at-eq0 : goal.returns-then-row-at-eq0
returns-then-row-at-eq0 c = rw (free-states _ _, eq-eqb _ 0 c.if-row-at-eq0.true)

pub returns-else-row-at-eq0 : goal.returns-else-row-at-eq0
returns-else-row-at-eq0 c = rw (free-states _ _, ne_eqb _ 0 c.if-row-at-eq0.false)
