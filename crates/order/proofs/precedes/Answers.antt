-- `order::precedes` meets its contract. Assumes nothing.
use Rattle.std.proofs.Common.{sym, ◌∙◌, le-ltb}
use Rattle.order.proofs.Skips.{precedes-past}
use Rattle.order.proofs.precedes.Goals as goal

pub returns-else-a-lt32 : goal.returns-else-a-lt32
returns-else-a-lt32 c = le-ltb c.args.a 32 c.if-a-lt32.false ∙ sym (precedes-past c.args.rows.now c.args.a c.args.b (rw c.told-rows c.if-a-lt32.false))
