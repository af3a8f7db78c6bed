-- `rules::box_number` meets its contract. Assumes nothing.
use Rattle.plan.proofs.Boxes.{number-code}
use Rattle.rules.proofs.box_number.Goals as goal

pub returns : goal.returns
returns c = number-code _ c.ranges.n.fits
