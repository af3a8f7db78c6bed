-- `rules::boxes_sound` meets its contract. Assumes nothing.
use Rattle.std.proofs.Common.{rules, tests, refl, ◌∙◌}
use Rattle.std.proofs.lemmas.Iterator.Search.{all_from_yields_List}
use Rattle.std.proofs.lemmas.Iterator.{YieldsList-from_range}
use Rattle.typeset.proofs.Listed.{numbers-all}
use Rattle.plan.specs.Steps.{box_sound}
use Rattle.plan.proofs.Boxes.{boxes-places}
use Rattle.rules.proofs.boxes_sound.Goals as goal

pub returns : goal.returns
returns c =
    let test = box_sound c.args.s in
    all_from_yields_List test _ _ _ c.all.ensures.ran (YieldsList-from_range 0 4 4 refl refl) (λ x b q k. search (rules, tests))
    ∙ numbers-all 4 test ∙ boxes-places c.args.s
