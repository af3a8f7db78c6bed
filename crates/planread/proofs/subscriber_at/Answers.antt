-- `planread::subscriber_at` meets its contract. Assumes nothing.
use Rattle.planread.proofs.Fields.{subscriber-at}
use borrow.Author.Rules.{rules}
use Rattle.planread.proofs.subscriber_at.Goals as goal

pub returns : goal.returns
returns c = subscriber-at c.args.bytes.now c.args.at c.args.count (search rules) c.four.ensures c.four-2.ensures c.four-3.ensures c.boxes_at-boxes.ensures
