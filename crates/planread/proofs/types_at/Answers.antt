-- `planread::types_at` meets its contract. Assumes nothing.
use Rattle.planread.proofs.Fields.{types-at}
use Rattle.planread.proofs.types_at.Goals as goal

pub returns : goal.returns
returns c = types-at c.args.bytes.now c.args.at c.four.ensures c.four-2.ensures c.four-3.ensures c.four-4.ensures c.four-5.ensures
