-- `rules::box_sound` meets its contract. Assumes nothing.
use Rattle.std.proofs.Common.{le-ltb, le-leb}
use Rattle.plan.specs.Steps.{box_sound}
use Rattle.plan.proofs.Boxes.{differs-past}
use Rattle.rules.proofs.box_sound.Goals as goal

pub returns-else-x-s : goal.returns-else-x-s
unfolding box_sound
returns-else-x-s c = rw (differs-past _ _ (le-ltb _ _ c.if-x-s.false), le-ltb _ _ c.if-x-s.false, le-leb _ _ c.if-x-s.false)
