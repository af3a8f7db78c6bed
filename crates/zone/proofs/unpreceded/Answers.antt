-- `zone::unpreceded` meets its contract. Assumes nothing.
use mathlib.Core.Path.{◌∙◌, ap}
use Rattle.typeset.specs.Sets.{minus}
use Rattle.zone.specs.Order.{unpreceded}
use Rattle.zone.proofs.unpreceded.Goals as goal

pub returns : goal.returns
unfolding unpreceded
returns c = c.minus.ensures ∙ ap (minus _) c.preceded.ensures
