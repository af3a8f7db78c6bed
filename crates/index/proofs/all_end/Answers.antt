-- `index::all_end` meets its contract. Assumes nothing.
use Rattle.std.proofs.Common.{◌≡◌, ℕ, ◌<◌, Bool, List, [], get_or, length, ◌∙◌, ap, rules, tests, arith}
use Rattle.std.specs.List.{zip}
use Rattle.std.proofs.lemmas.Iterator.{YieldsList-from_slice, YieldsList-from_zip}
use Rattle.std.proofs.lemmas.Iterator.Consumers.{YieldsList-at}
use Rattle.std.proofs.lemmas.Iterator.Search.{all_from_yields_List}
use Rattle.std.proofs.lemmas.Slice.Zip.{length-zip, get_or-zip}
use Rattle.typeset.specs.Sets.{every}
use Rattle.typeset.proofs.Below.{every-ext}
use Rattle.typeset.proofs.Listed.{items-all}
use Rattle.index.specs.Steps.{ends_at, goes_on, all_go_on}
use Rattle.index.proofs.all_end.Goals as goal

pub returns : goal.returns
unfolding all_go_on goes_on
returns c =
    let index = c.args.index.now in
    let met = c.args.met.now in
    let test : List ℕ × ℕ → Bool = λ p. ends_at p.1 p.0 in
    let many : length (zip index met) ≡ 64 = omega (arith, length-zip index met, c.told-index, c.told-met) in
    let below : (k : ℕ) → k < length (zip index met) → k < 64 = λ k h. omega (arith, h, many) in
    all_from_yields_List test c.all.new.self _ _ c.all.ensures.ran
    (YieldsList-from_zip (YieldsList-at c.zip.ensures.first (YieldsList-from_slice index c.iter.ensures.rest)) (YieldsList-from_slice met c.zip.ensures.second.0))
    (λ p b q h. search (rules, tests))
    ∙ items-all test (zip index met) ([], 0)
    ∙ every-ext _ _ (λ k. ends_at (get_or met k 0) (get_or index k [])) (λ k h. ap test (get_or-zip index met k ([], 0) (omega (arith, below k h, c.told-index)) (omega (arith, below k h, c.told-met))))
    ∙ ap (λ n. every n (λ k. ends_at (get_or met k 0) (get_or index k []))) many
