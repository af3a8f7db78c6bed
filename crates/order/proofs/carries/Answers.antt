-- `order::carries` meets its contract. Assumes nothing.
use Rattle.std.proofs.Common.{sym, ◌∙◌}
use Rattle.typeset.proofs.Laws.{has-below}
use Rattle.order.proofs.carries.Goals as goal

pub bounds-rows-b : goal.bounds-rows-b
bounds-rows-b c = has-below 32 c.args.b c.ranges.row.fits (sym c.has.ensures ∙ c.if-not-has.false)
