-- `rules::reversible_twice` meets its contract. Assumes nothing.
use Rattle.typeset.proofs.Laws.{same_code}
use Rattle.plan.specs.Rules.{reversible_twice}
use Rattle.rules.proofs.reversible_twice.Goals as goal

pub returns : goal.returns
unfolding reversible_twice
returns c = rw (c.meet-in_source.ensures, c.meet-in_target.ensures) (same_code _ _ _)
