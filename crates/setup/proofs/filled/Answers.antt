-- `setup::filled` meets its contract. Assumes nothing.
use Rattle.setup.proofs.Stored.{filled-up}
use Rattle.setup.proofs.filled.Goals as goal

pub returns : goal.returns
returns c = rw (c.copy_from_slice.ensures.after, c.min-end.ensures) (filled-up c.args.s.now)
