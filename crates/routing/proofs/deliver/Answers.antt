-- `routing::deliver` meets its contract. Assumes nothing.
use Rattle.routing.specs.Places.{delivered}
use Rattle.routing.proofs.deliver.Goals as goal

pub returns : goal.returns
unfolding delivered
returns c p shown = rw (c.box_chosen.ensures p shown, c.received.ensures, c.tail.ensures)
