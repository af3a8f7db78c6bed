-- `links::place_of` meets its contract. Assumes nothing.
use Rattle.std.proofs.Common.{◌≡◌, ℕ, ◌<◌, ◌≤◌, Bool, true, false, not, ◌&&◌, ◌||◌, cond, List, [], ◌∷◌, Option, Some, None, eqb, ltb, leb, length, refl, sym, ap, ap₂, ◌∙◌, arith, rules, tests, ltb-true, ltb-false, le-leb, ⊎_elim}
use borrow.Author.Tests.{lt-leb}
use Rattle.std.specs.Prelude.{MatchOption}
use Rattle.std.specs.List.{position_or_len}
use Rattle.std.proofs.lemmas.Iterator.{YieldsList-from_slice}
use Rattle.std.proofs.lemmas.Iterator.Search.{position_from_yields_List}
use Rattle.typeset.proofs.Bools.{yes_or_no}
use Rattle.links.specs.Sets.{taken}
use Rattle.links.specs.Steps.{place_of}
use Rattle.links.proofs.place_of.Goals as goal

abbrev stops : ℕ → ℕ → Bool
stops x l = eqb l 0 || leb x l

at-most : (x l : ℕ) → leb x l ≡ not (ltb l x)
at-most x l =
    ⊎_elim (λ t. lt-leb x l (ltb-true l x t) ∙ sym (ap not t)) (λ t. le-leb x l (ltb-false l x t) ∙ sym (ap not t)) (yes_or_no (ltb l x))

neither : (a b d : Bool) → b ≡ not d → not (a || b) ≡ (not a && d)
neither true b d e = refl
neither false b true e = ap not e
neither false b false e = ap not e

goes-on : (x l : ℕ) → not (stops x l) ≡ (taken l && ltb l x)
goes-on x l = neither (eqb l 0) (leb x l) (ltb l x) (at-most x l)

place-is : (x : ℕ) (m : List ℕ) → position_or_len (stops x) m ≡ place_of x m
unfolding place_of
place-is x [] = refl
place-is x (l ∷ ls) = ap₂ (λ (b : Bool) (n : ℕ). cond b n 0) (goes-on x l) (omega (arith, place-is x ls))

place-le : (x : ℕ) (m : List ℕ) → place_of x m ≤ length m
unfolding place_of
place-le x [] = omega arith
place-le x (l ∷ ls) = ⊎_elim (λ t. rw t (omega (arith, place-le x ls))) (λ t. rw t (omega arith)) (yes_or_no (taken l && ltb l x))

found : (r : Option ℕ) (i n : ℕ) → i ≤ n → r ≡ cond (ltb i n) (Some i) None → MatchOption r (i ≡ n) (λ k. (k ≡ i) × (k < n))
found r i n h e = ⊎_elim (λ t. rw e (rw t (refl, ltb-true i n t))) (λ t. rw e (rw t (omega (arith, h, ltb-false i n t)))) (yes_or_no (ltb i n))

pub returns : goal.returns
returns c =
    let x = c.args.x in
    let m = c.args.set.now in
    let e = position_from_yields_List (stops x) _ _ c.position.result c.position.ensures.ran (YieldsList-from_slice m (c.iter.ensures.rest)) (λ l b q k. search (rules, tests)) in
    found _ _ _ (rw c.told-set at (place-le x m)) (rw (place-is x m, c.told-set) at e)
