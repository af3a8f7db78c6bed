-- Lists that ascend: what stands in one decides it. Assumes nothing.
use mathlib.Core.Path.{◌≡◌, refl, sym, ap, ap₂, ◌∙◌}
use mathlib.Core.Logic.{⊎_elim}
use mathlib.Core.Bool.{true, false}
use mathlib.Core.List.{List, [], ◌∷◌}
use Prim.Native.Nat.{ℕ, ◌≤◌, ◌<◌}
use native.Mathlib.Omega.{arith}
use lib.Dec.{eqb, ltb}
use borrow.Author.Tests.{eqb-true, eq-eqb, ltb-true, lt-ltb}
use Rattle.typeset.proofs.Bools.{yes_or_no, clash, fails, or_cases, and_left, and_right, and-make}
use Rattle.lists.specs.Lists.{elem, ascend}

pub ascend-low : (a b : ℕ) (xs : List ℕ) → a ≤ b → ascend b xs ≡ true → ascend a xs ≡ true
unfolding ascend
ascend-low a b [] h e = refl
ascend-low a b (x ∷ xs) h e =
    let high : b < x = ltb-true b x (and_left (ltb b x) (ascend x xs) e) in
    and-make (lt-ltb a x (omega arith)) (and_right (ltb b x) (ascend x xs) e)

-- each is greater than b
pub above : (b : ℕ) (xs : List ℕ) (y : ℕ) → ascend b xs ≡ true → elem y xs ≡ true → b < y
unfolding ascend elem
above b [] y e m = absurd (clash m refl)
above b (x ∷ xs) y e m =
    let high : b < x = ltb-true b x (and_left (ltb b x) (ascend x xs) e) in
    ⊎_elim
    (λ s. let same : y ≡ x = eqb-true y x s in omega arith)
    (λ s. let more : x < y = above x xs y (and_right (ltb b x) (ascend x xs) e) s in omega arith)
    (or_cases (eqb y x) (elem y xs) m)

-- ---- two lists that ascend and have the same members are equal

head_in : (x : ℕ) (xs : List ℕ) → elem x (x ∷ xs) ≡ true
unfolding elem
head_in x xs = rw (eq-eqb x x refl)

heads : (x y : ℕ) (xs ys : List ℕ) → ascend x xs ≡ true → ascend y ys ≡ true → elem x (y ∷ ys) ≡ true → elem y (x ∷ xs) ≡ true → x ≡ y
unfolding elem
heads x y xs ys a b i j =
    ⊎_elim
    (λ s. eqb-true x y s)
    (λ s. ⊎_elim
    (λ r. sym (eqb-true y x r))
    (λ r.
    let up : x < y = above x xs y a r in
    let down : y < x = above y ys x b s in
    absurd (omega arith))
    (or_cases (eqb y x) (elem y xs) j))
    (or_cases (eqb x y) (elem x ys) i)

tails : (x : ℕ) (xs ys : List ℕ) → ascend x xs ≡ true → ascend x ys ≡ true → ((z : ℕ) → elem z (x ∷ xs) ≡ elem z (x ∷ ys)) → (z : ℕ) → elem z xs ≡ elem z ys
unfolding elem
tails x xs ys a b f z =
    ⊎_elim
    (λ (s : eqb z x ≡ true).
    let same : z ≡ x = eqb-true z x s in
    fails (elem z xs) (λ m. let up : x < z = above x xs z a m in omega arith)
    ∙ sym (fails (elem z ys) (λ m. let up : x < z = above x ys z b m in omega arith)))
    (λ (s : eqb z x ≡ false). rw s at (f z))
    (yes_or_no (eqb z x))

pub one_list : (b : ℕ) (xs ys : List ℕ) → ascend b xs ≡ true → ascend b ys ≡ true → ((z : ℕ) → elem z xs ≡ elem z ys) → xs ≡ ys
unfolding ascend elem
one_list b [] [] e d f = refl
one_list b [] (y ∷ ys) e d f = absurd (clash (head_in y ys) (sym (f y)))
one_list b (x ∷ xs) [] e d f = absurd (clash (head_in x xs) (f x))
one_list b (x ∷ xs) (y ∷ ys) e d f =
    let t = and_right (ltb b x) (ascend x xs) e in
    let u = and_right (ltb b y) (ascend y ys) d in
    let same : x ≡ y = heads x y xs ys t u (sym (f x) ∙ head_in x xs) (f y ∙ head_in y ys) in
    let rest : ascend x ys ≡ true = rw same u in
    ap₂ ◌∷◌ same (one_list x xs ys t rest (tails x xs ys t rest (λ z. f z ∙ ap (λ (h : ℕ). elem z (h ∷ ys)) (sym same))))
