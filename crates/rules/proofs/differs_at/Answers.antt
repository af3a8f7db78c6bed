-- `rules::differs_at` meets its contract. Assumes nothing.
use Rattle.std.proofs.Common.{rules, tests, refl, arith, ◌∙◌}
use Rattle.std.proofs.lemmas.Iterator.Search.{all_from_yields_List}
use Rattle.std.proofs.lemmas.Iterator.{YieldsList-from_range}
use Rattle.typeset.proofs.Listed.{numbers-all}
use Rattle.plan.specs.Steps.{differs_from, differs_at}
use Rattle.rules.proofs.differs_at.Goals as goal

pub returns : goal.returns
unfolding differs_at
returns c =
    let test = differs_from c.args.s c.args.x in
    all_from_yields_List test _ _ _ c.all.ensures.ran (YieldsList-from_range 0 c.args.x c.args.x refl (omega arith)) (λ x b q k. search (rules, tests))
    ∙ numbers-all c.args.x test
