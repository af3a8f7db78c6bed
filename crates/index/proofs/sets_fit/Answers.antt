-- `index::sets_fit` meets its contract. Assumes nothing.
use Rattle.index.proofs.Fits.{fit-code}
use Rattle.index.proofs.sets_fit.Goals as goal

pub returns : goal.returns
returns c = rw (c.meet-2.ensures, c.meet.ensures, c.within-2.ensures, c.within.ensures) (fit-code _ _ _)
