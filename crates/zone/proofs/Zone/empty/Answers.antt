-- `zone::Zone::empty` meets its contract. Assumes nothing.
use Rattle.std.proofs.Common.{refl}
use Rattle.zone.specs.Order.{held}
use Rattle.zone.proofs.Zone.empty.Goals as goal

pub returns : goal.returns
unfolding held
returns c = refl
