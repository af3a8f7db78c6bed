-- `typeset::meet` meets its contract. Assumes nothing.
use Rattle.typeset.proofs.Laws.{meet-code}
use Rattle.typeset.proofs.meet.Goals as goal

pub returns : goal.returns
returns c = meet-code c.args.b c.ranges.a.fits
