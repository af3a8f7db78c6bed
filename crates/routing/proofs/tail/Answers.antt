-- `routing::tail` meets its contract. Assumes nothing.
use Rattle.routing.proofs.Parts.{tail-cut}
use Rattle.routing.proofs.tail.Goals as goal

pub returns : goal.returns
returns c = rw c.min.ensures (tail-cut c.args.rest.now)
