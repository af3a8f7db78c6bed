-- `recordbytes::move_down` meets its contract. Assumes nothing.
use mathlib.Core.Path.{◌∙◌}
use Rattle.recordbytes.proofs.Places.{moved_down}
use Rattle.recordbytes.proofs.move_down.Goals as goal

pub returns : goal.returns
returns c = c.copy_within.ensures.after ∙ moved_down c.args.row.now c.args.at c.requires
