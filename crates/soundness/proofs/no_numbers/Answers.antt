-- `soundness::no_numbers` meets its contract. Assumes nothing.
use Rattle.std.proofs.Common.{◌≡◌, ℕ, ◌&&◌, List, [], ◌∷◌, refl, sym, ◌∙◌, ap, eqb, length, get_or, replicate, rules}
use Rattle.std.specs.List.{list_all}
use lib.Pointwise.{pointwise}
use Rattle.typeset.specs.Sets.{every}
use Rattle.typeset.proofs.Listed.{items-all}
use Rattle.soundness.proofs.no_numbers.Goals as goal

zeros : (xs : List ℕ) → pointwise eqb xs (replicate (length xs) 0) ≡ list_all (λ n. eqb n 0) xs
zeros [] = refl
zeros (n ∷ xs) = ap (λ b. eqb n 0 && b) (zeros xs)

pub returns : goal.returns
returns c =
    let boxes = c.args.boxes in
    let four : length boxes ≡ 4 = search rules in
    c.eq.ensures ∙ ap (λ m. pointwise eqb boxes (replicate m 0)) (sym four) ∙ zeros boxes
    ∙ items-all (λ n. eqb n 0) boxes 0 ∙ ap (λ m. every m (λ x. eqb (get_or boxes x 0) 0)) four
