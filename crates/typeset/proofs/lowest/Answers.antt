-- `typeset::lowest` meets its contract. Assumes nothing.
use Rattle.typeset.proofs.Laws.{lowest-code}
use Rattle.typeset.proofs.lowest.Goals as goal

pub returns : goal.returns
returns c = lowest-code c.args.set
