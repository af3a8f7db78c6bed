-- `recordbytes::pop` meets its contract. Assumes nothing.
use mathlib.Core.Path.{refl}
use Rattle.recordbytes.proofs.Places.{popped-put}
use Rattle.recordbytes.proofs.pop.Goals as goal

pub returns : goal.returns
returns c = popped-put c.args.row.now c.args.q _ c.requires.0 refl c.move_down.ensures
