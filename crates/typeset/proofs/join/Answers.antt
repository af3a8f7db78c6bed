-- `typeset::join` meets its contract. Assumes nothing.
use Rattle.typeset.proofs.Laws.{join-code}
use Rattle.typeset.proofs.join.Goals as goal

pub returns : goal.returns
returns c = join-code c.ranges.a.fits c.ranges.b.fits
