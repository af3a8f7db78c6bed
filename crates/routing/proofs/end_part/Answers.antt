-- `routing::end_part` meets its contract. Assumes nothing.
use Rattle.routing.proofs.Parts.{part_cut}
use Rattle.routing.proofs.end_part.Goals as goal

pub returns : goal.returns
returns c = rw (c.min.ensures, c.min-to.ensures) (part_cut c.args.list.now c.args.from c.args.end)
