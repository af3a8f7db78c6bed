-- `setup::routing_address` meets its contract. Assumes nothing.
use Rattle.setup.specs.Setups.{routing_address}
use Rattle.setup.proofs.routing_address.Goals as goal

pub returns : goal.returns
unfolding routing_address
returns c = c.routing.ensures
