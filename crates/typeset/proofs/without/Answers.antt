-- `typeset::without` meets its contract. Assumes nothing.
use mathlib.Core.Path.{sym}
use Rattle.typeset.proofs.Laws.{without-code, without-past}
use Rattle.typeset.proofs.without.Goals as goal

pub returns-then-t-lt32 : goal.returns-then-t-lt32
returns-then-t-lt32 c = without-code c.args.t c.ranges.set.fits c.if-t-lt32.true

pub returns-else-t-lt32 : goal.returns-else-t-lt32
returns-else-t-lt32 c = sym (without-past c.args.t c.ranges.set.fits c.if-t-lt32.false)
