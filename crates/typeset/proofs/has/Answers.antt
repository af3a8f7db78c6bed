-- `typeset::has` meets its contract. Assumes nothing.
use Rattle.std.proofs.Common.{sym, ◌∙◌, le-ltb}
use Rattle.typeset.proofs.Laws.{has-past}
use Rattle.typeset.proofs.has.Goals as goal

pub returns-else-t-lt32 : goal.returns-else-t-lt32
returns-else-t-lt32 c = le-ltb c.args.t 32 c.if-t-lt32.false ∙ sym (has-past 32 c.args.t c.ranges.set.fits c.if-t-lt32.false)
