-- `owners::owner_in` meets its contract. Assumes nothing.
use Rattle.std.proofs.Common.{lt-ltb}
use Rattle.owners.specs.Who.{owner_in}
use Rattle.owners.proofs.owner_in.Goals as goal

pub returns-in-Some : goal.returns-in-Some
unfolding owner_in
returns-in-Some c = let at = c.in-Some.ensures in rw (← at.0, lt-ltb _ 256 at.1)

pub returns-in-None : goal.returns-in-None
unfolding owner_in
returns-in-None c = rw c.in-None.ensures
