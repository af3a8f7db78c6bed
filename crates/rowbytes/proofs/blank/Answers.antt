-- `rowbytes::blank` meets its contract. Assumes nothing.
use Rattle.rowbytes.proofs.Rows.{blanked}
use Rattle.rowbytes.proofs.blank.Goals as goal

pub returns : goal.returns
returns c = blanked 614 c.args.row.now c.args.at c.fill.new.self c.requires (c.fill.ensures.after (λ y e. e))
