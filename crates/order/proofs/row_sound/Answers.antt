-- `order::row_sound` meets its contract. Assumes nothing.
use Rattle.std.proofs.Common.{sym, ◌∙◌, eq-eqb}
use Rattle.order.proofs.Skips.{row-empty}
use Rattle.order.proofs.row_sound.Goals as goal

pub returns-then-row-eq0 : goal.returns-then-row-eq0
returns-then-row-eq0 c = eq-eqb _ 0 c.if-row-eq0.true ∙ sym (row-empty c.args.chosen c.args.rows.now c.args.t c.if-row-eq0.true)
