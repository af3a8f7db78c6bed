-- `typeset::size` meets its contract. Assumes nothing.
use Rattle.typeset.proofs.Laws.{size-code}
use Rattle.typeset.proofs.size.Goals as goal

pub returns : goal.returns
returns c = size-code c.ranges.set.fits
