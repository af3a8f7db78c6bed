-- `planwrite::put_one` meets its contract. Assumes nothing.
use Rattle.planwrite.proofs.Puts.{low_byte}
use borrow.Author.Rules.{rules}
use Rattle.planwrite.proofs.put_one.Goals as goal

pub returns : goal.returns
returns c = low_byte c.args.room.now c.args.at (search rules)
