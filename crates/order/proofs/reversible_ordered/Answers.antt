-- `order::reversible_ordered` meets its contract. Assumes nothing.
use Rattle.std.proofs.Common.{rules, tests, ◌||◌}
use Rattle.order.specs.Rules.{precedes, reversible_ordered}
use Rattle.order.proofs.reversible_ordered.Goals as goal

pub returns : goal.returns
unfolding reversible_ordered
returns c = let source = c.args.source.now in c.any_two.ensures (λ a b. precedes source a b || precedes source b a) (λ a b r k. search (rules, tests))
