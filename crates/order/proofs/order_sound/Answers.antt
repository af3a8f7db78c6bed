-- `order::order_sound` meets its contract. Assumes nothing.
use Rattle.std.proofs.Common.{rules, tests, refl, ◌∙◌}
use Rattle.std.proofs.lemmas.Iterator.Search.{all_from_yields_List}
use Rattle.std.proofs.lemmas.Iterator.{YieldsList-from_range}
use Rattle.typeset.proofs.Listed.{numbers-all}
use Rattle.order.specs.Steps.{row_sound}
use Rattle.order.proofs.Orders.{order-rows}
use Rattle.order.proofs.order_sound.Goals as goal

pub returns : goal.returns
returns c =
    let test = row_sound c.args.chosen c.args.rows.now in
    all_from_yields_List test _ _ _ c.all.ensures.ran (YieldsList-from_range 0 32 32 refl refl) (λ x b q k. search (rules, tests))
    ∙ numbers-all 32 test ∙ order-rows c.args.chosen c.args.rows.now
