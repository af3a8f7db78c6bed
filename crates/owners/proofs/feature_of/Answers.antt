-- `owners::feature_of` meets its contract. Assumes nothing.
use Rattle.std.proofs.Common.{sym, ◌∙◌, arith}
use Rattle.typeset.proofs.Laws.{has-below}
use Rattle.owners.proofs.feature_of.Goals as goal

pub bounds-features-t : goal.bounds-features-t
bounds-features-t c = omega (arith, c.from.ensures, has-below 32 _ c.ranges.existing.fits (sym c.has.ensures ∙ c.if-has.true))
