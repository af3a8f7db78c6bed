-- `plan::given` meets its contract. Assumes nothing.
use Rattle.plan.specs.Parts.{given}
use Rattle.plan.proofs.given.Goals as goal

pub returns-then-legal : goal.returns-then-legal
unfolding given
returns-then-legal c = rw (← c.legal.ensures, c.if-legal.true)

pub returns-else-legal : goal.returns-else-legal
unfolding given
returns-else-legal c = rw (← c.legal.ensures, c.if-legal.false)
