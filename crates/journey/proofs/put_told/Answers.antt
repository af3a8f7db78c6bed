-- `journey::put_told` meets its contract. Assumes nothing.
use Rattle.journey.proofs.put_told.Goals as goal

pub put_listing-requires : goal.put_listing-requires
put_listing-requires c = rw c.in-Ok.is at c.requires

pub returns-in-Ok : goal.returns-in-Ok
returns-in-Ok c = rw c.in-Ok.is c.put_listing.ensures

pub returns-in-Err : goal.returns-in-Err
returns-in-Err c = rw c.in-Err.is c.put_refused.ensures
