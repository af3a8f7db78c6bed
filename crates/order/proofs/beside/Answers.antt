-- `order::beside` meets its contract. Assumes nothing.
use Rattle.std.proofs.Common.{rules, tests, eqb, ◌||◌}
use Rattle.std.proofs.lemmas.Iterator.Search.{all_from_yields_List}
use Rattle.typeset.proofs.Listed.{members-given}
use Rattle.order.proofs.beside.Goals as goal

pub returns : goal.returns
returns g c law told =
    all_from_yields_List (λ b. eqb c.args.a b || law c.args.a b) _ _ _ c.all.ensures.ran (members-given c.args.set c.of.ensures) (λ x b q k. search (rules, tests, told))
