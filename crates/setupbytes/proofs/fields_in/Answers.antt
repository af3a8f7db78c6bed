-- `setupbytes::fields_in` meets its contract. Assumes nothing.
use Rattle.setupbytes.specs.Codec.{fields_in}
use Rattle.setupbytes.proofs.fields_in.Goals as goal

pub returns : goal.returns
unfolding fields_in
returns c = rw (c.region_said.ensures, c.four.ensures, c.places.ensures, c.four-2.ensures, c.route_said.ensures, c.places-2.ensures, c.said.ensures, c.said-2.ensures, c.four-3.ensures)
