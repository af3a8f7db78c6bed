-- `typeset::minus` meets its contract. Assumes nothing.
use Rattle.typeset.proofs.Laws.{minus-code}
use Rattle.typeset.proofs.minus.Goals as goal

pub returns : goal.returns
returns c = minus-code c.ranges.a.fits c.ranges.b.fits
