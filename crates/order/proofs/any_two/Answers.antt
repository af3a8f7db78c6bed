-- `order::any_two` meets its contract. Assumes nothing.
use Rattle.std.proofs.Common.{rules, tests, eqb, ◌||◌, ◌∙◌}
use Rattle.std.specs.List.{list_all}
use Rattle.std.proofs.lemmas.Iterator.Search.{all_from_yields_List}
use Rattle.typeset.specs.Sets.{members}
use Rattle.typeset.proofs.Listed.{members-given}
use Rattle.order.proofs.Skips.{any_two-members}
use Rattle.order.proofs.any_two.Goals as goal

pub returns : goal.returns
returns g c law told =
    let set = c.args.set in
    all_from_yields_List (λ a. list_all (λ b. eqb a b || law a b) (members set)) _ _ _ c.all.ensures.ran (members-given set c.of.ensures) (λ x b q k. let h = k.met.1 law told in search (rules, tests, h))
    ∙ any_two-members set law
