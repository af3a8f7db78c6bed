-- `order::reversible_opposed` meets its contract. Assumes nothing.
use Rattle.std.proofs.Common.{rules, tests}
use Rattle.typeset.specs.Sets.{same}
use Rattle.order.specs.Rules.{precedes, reversible_opposed}
use Rattle.order.proofs.reversible_opposed.Goals as goal

pub returns : goal.returns
unfolding reversible_opposed
returns c = let source = c.args.source.now in c.any_two.ensures (λ a b. same (precedes source a b) (precedes c.args.target.now b a)) (λ a b r k. search (rules, tests))
