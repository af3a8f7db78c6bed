-- `typeset::within` meets its contract. Assumes nothing.
use Rattle.typeset.proofs.Laws.{within-code}
use Rattle.typeset.proofs.within.Goals as goal

pub returns : goal.returns
returns c = within-code c.args.whole c.ranges.part.fits
