-- `order::closed` meets its contract. Assumes nothing.
use Rattle.std.proofs.Common.{rules, tests, ◌∙◌}
use Rattle.std.proofs.lemmas.Iterator.Search.{all_from_yields_List}
use Rattle.typeset.proofs.Listed.{members-given, members-all}
use Rattle.order.specs.Steps.{carries, closed}
use Rattle.order.proofs.Skips.{carries-none}
use Rattle.order.proofs.closed.Goals as goal

pub returns : goal.returns
unfolding closed
returns c =
    let test = carries c.args.rows.now c.args.row in
    all_from_yields_List test _ _ _ c.all.ensures.ran (members-given c.args.row c.of.ensures) (λ x b q k. search (rules, tests))
    ∙ members-all c.args.row test (carries-none _ _)
