-- `soundness::rest_blank` meets its contract. Assumes nothing.
use Rattle.std.proofs.Common.{◌≡◌, ◌+◌, ◌-◌, ℕ, Bool, leb, rules, tests, refl, ◌∙◌, ap, arith}
use Rattle.std.proofs.lemmas.Iterator.{YieldsList-from_range}
use Rattle.std.proofs.lemmas.Iterator.Search.{all_from_yields_List}
use Rattle.typeset.specs.Sets.{every, implies}
use Rattle.typeset.proofs.Listed.{numbers-from, every-from}
use Rattle.plan.specs.Parts.{at}
use Rattle.plan.specs.Rules.{blank, rest_blank}
use Rattle.soundness.proofs.rest_blank.Goals as goal

pub returns : goal.returns
unfolding rest_blank
returns c =
    let count = c.args.count in
    let test : ℕ → Bool = λ i. blank (at c.args.subscribers.now i) in
    let all : count + (256 - count) ≡ 256 = omega (arith, c.requires) in
    all_from_yields_List test _ _ _ c.all.ensures.ran (YieldsList-from_range count 256 (256 - count) refl refl) (λ x b q k. search (rules, tests))
    ∙ numbers-from count (256 - count) test
    ∙ every-from count (256 - count) test
    ∙ ap (λ n. every n (λ i. implies (leb count i) (test i))) all
