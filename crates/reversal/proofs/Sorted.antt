-- Lists in which each element stands in a relation to all behind it: there is one such list of given members, turned round it stands in the turned relation, and what
-- is left after an element when it is turned round is what was before it. Assumes nothing.
use mathlib.Core.Path.{◌≡◌, refl, sym, ap, ap₂, ◌∙◌}
use mathlib.Core.Logic.{◌⊎◌, inl, inr, ⊎_elim}
use mathlib.Core.Bool.{Bool, true, false, ◌||◌, false≢true, or-false, or_comm, or_assoc}
use mathlib.Core.List.{List, [], ◌∷◌, ◌++◌, reverse, reverse-cons, reverse-append, append_assoc}
use Prim.Native.Nat.{ℕ}
use lib.Dec.{eqb}
use borrow.Author.Tests.{eqb-true, eq-eqb}
use Rattle.typeset.specs.Sets.{has}
use Rattle.typeset.proofs.Bools.{yes_or_no, clash, fails, or_cases, or_left, or_right}
use Rattle.zone.proofs.Members.{elem}
use Rattle.reversal.specs.Reversal.{types_before, types_after, those}

-- ---- members

pub in_head : (x : ℕ) (xs : List ℕ) → elem x (x ∷ xs) ≡ true
unfolding elem
in_head x xs = or_left (elem x xs) (eq-eqb x x refl)

pub in_tail : (y x : ℕ) (xs : List ℕ) → elem y xs ≡ true → elem y (x ∷ xs) ≡ true
unfolding elem
in_tail y x xs e = or_right (eqb y x) e

pub in-cases : (y x : ℕ) (xs : List ℕ) → elem y (x ∷ xs) ≡ true → (y ≡ x) ⊎ (elem y xs ≡ true)
unfolding elem
in-cases y x xs e = ⊎_elim (λ q. inl (eqb-true y x q)) (λ q. inr q) (or_cases (eqb y x) (elem y xs) e)

pub in-none : (y : ℕ) → elem y [] ≡ true → ⊥
unfolding elem
in-none y e = false≢true e

in-append : (y : ℕ) (l m : List ℕ) → elem y (l ++ m) ≡ (elem y l || elem y m)
unfolding elem
in-append y [] m = refl
in-append y (x ∷ xs) m = ap (λ (b : Bool). eqb y x || b) (in-append y xs m) ∙ sym (or_assoc (eqb y x) (elem y xs) (elem y m))

pub in-reverse : (y : ℕ) (l : List ℕ) → elem y (reverse l) ≡ elem y l
unfolding elem
in-reverse y [] = refl
in-reverse y (x ∷ xs) =
    ap (elem y) (reverse-cons x xs) ∙ in-append y (reverse xs) (x ∷ [])
    ∙ ap₂ ◌||◌ (in-reverse y xs) (or-false (eqb y x)) ∙ or_comm (elem y xs) (eqb y x)

-- ---- sorted lists

pub data Sorted (q : ℕ → ℕ → Type 0) : List ℕ → Type 0 where
  none : Sorted q []
  more : {x : ℕ} {xs : List ℕ} → ((y : ℕ) → elem y xs ≡ true → q x y) → Sorted q xs → Sorted q (x ∷ xs)

pub sorted-weaker : (q r : ℕ → ℕ → Type 0) → ((a b : ℕ) → q a b → r a b) → {l : List ℕ} → Sorted q l → Sorted r l
sorted-weaker q r f none = none
sorted-weaker q r f (more {x = x} g s) = more (λ y e. f x y (g y e)) (sorted-weaker q r f s)

module _ (q : ℕ → ℕ → Type 0) where
  -- with x behind all of them
  sorted-last : (x : ℕ) {l : List ℕ} → Sorted q l → ((y : ℕ) → elem y l ≡ true → q y x) → Sorted q (l ++ (x ∷ []))
  sorted-last x none f = more (λ y e. absurd (in-none y e)) none
  sorted-last x (more {x = z} {xs = zs} g s) f =
      more
      (λ y e. ⊎_elim (λ i. g y i)
      (λ i. ⊎_elim (λ same. rw same (f z (in_head z zs))) (λ no_more. absurd (in-none y no_more)) (in-cases y x [] i))
      (or_cases (elem y zs) (elem y (x ∷ [])) (sym (in-append y zs (x ∷ [])) ∙ e)))
      (sorted-last x s (λ y e. f y (in_tail y z zs e)))

pub sorted-reverse : (q : ℕ → ℕ → Type 0) {l : List ℕ} → Sorted q l → Sorted (λ a b. q b a) (reverse l)
sorted-reverse q none = none
sorted-reverse q (more {x = x} {xs = xs} g s) =
    rw (reverse-cons x xs) (sorted-last (λ a b. q b a) x (sorted-reverse q s) (λ y e. g y (sym (in-reverse y xs) ∙ e)))

module _ (q : ℕ → ℕ → Type 0) (never : (a b : ℕ) → q a b → q b a → ⊥) where
  -- none of two sorted lists with the same members has another order
  pub sorted-one : {l m : List ℕ} → Sorted q l → Sorted q m → ((y : ℕ) → elem y l ≡ true → elem y m ≡ true) → ((y : ℕ) → elem y m ≡ true → elem y l ≡ true)
      → l ≡ m
  sorted-one none none f g = refl
  sorted-one none (more {x = x} {xs = xs} h s) f g = absurd (in-none x (g x (in_head x xs)))
  sorted-one (more {x = x} {xs = xs} h s) none f g = absurd (in-none x (f x (in_head x xs)))
  sorted-one (more {x = x} {xs = xs} h s) (more {x = z} {xs = zs} k t) f g =
      let same : x ≡ z =
      ⊎_elim (λ e. e)
      (λ i. ⊎_elim (λ e. sym e) (λ j. absurd (never x z (h z j) (k x i))) (in-cases z x xs (g z (in_head z zs))))
      (in-cases x z zs (f x (in_head x xs))) in
      ap₂ (λ (a : ℕ) (l : List ℕ). a ∷ l) same
      (sorted-one s t
      (λ y e. ⊎_elim (λ d. absurd (let yx : y ≡ x = d ∙ sym same in let o : q x x = rw yx at (h y e) in never x x o o)) (λ i. i) (in-cases y z zs (f y (in_tail y x xs e))))
      (λ y e. ⊎_elim (λ d. absurd (let yz : y ≡ z = d ∙ same in let o : q z z = rw yz at (k y e) in never z z o o)) (λ i. i) (in-cases y x xs (g y (in_tail y z zs e)))))

  -- an element of a sorted list doesn't stand again behind itself
  not-again : (t : ℕ) {l : List ℕ} → Sorted q l → elem t (types_after t l) ≡ false
  unfolding elem types_after
  not-again t none = refl
  not-again t (more {x = x} {xs = xs} h s) =
      ⊎_elim
      (λ e. rw e (fails (elem t xs) (λ i. let o : q x t = h t i in let o' : q x x = rw (eqb-true t x e) at o in never x x o' o')))
      (λ e. rw e (not-again t s))
      (yes_or_no (eqb t x))

  -- ---- a list cut at one of its elements

  cut : (t : ℕ) (l : List ℕ) → elem t l ≡ true → l ≡ types_before t l ++ (t ∷ types_after t l)
  unfolding elem types_before types_after
  cut t [] i = absurd (false≢true i)
  cut t (x ∷ xs) i =
      ⊎_elim
      (λ e. rw e (ap (λ (y : ℕ). y ∷ xs) (sym (eqb-true t x e))))
      (λ e. rw e (ap (λ (l : List ℕ). x ∷ l) (cut t xs (rw e at i))))
      (yes_or_no (eqb t x))

  after-cut : (t : ℕ) (l r : List ℕ) → elem t l ≡ false → types_after t (l ++ (t ∷ r)) ≡ r
  unfolding elem types_after
  after-cut t [] r e = rw (eq-eqb t t refl)
  after-cut t (x ∷ xs) r e =
      ⊎_elim
      (λ d. absurd (clash (or_left (elem t xs) d) e))
      (λ d. rw d (after-cut t xs r (rw d at e)))
      (yes_or_no (eqb t x))

  -- what is left after t in the list turned round is what was before it, turned round
  pub after-reverse : (t : ℕ) {l : List ℕ} → Sorted q l → elem t l ≡ true → types_after t (reverse l) ≡ reverse (types_before t l)
  after-reverse t {l} s i =
      ap (types_after t)
      (ap reverse (cut t l i) ∙ reverse-append (types_before t l) (t ∷ types_after t l)
      ∙ ap (λ (m : List ℕ). m ++ reverse (types_before t l)) (reverse-cons t (types_after t l))
      ∙ append_assoc (reverse (types_after t l)) (t ∷ []) (reverse (types_before t l)))
      ∙ after-cut t (reverse (types_after t l)) (reverse (types_before t l)) (in-reverse t (types_after t l) ∙ not-again t s)

-- ---- those of a list that are in a set

module _ (s : ℕ) where
  pub those-in : (y : ℕ) (l : List ℕ) → elem y (those s l) ≡ true → (elem y l ≡ true) × (has y s ≡ true)
  unfolding elem those
  those-in y [] e = absurd (false≢true e)
  those-in y (x ∷ xs) e =
      ⊎_elim
      (λ h. ⊎_elim (λ d. (or_left (elem y xs) d, ap (λ (z : ℕ). has z s) (eqb-true y x d) ∙ h))
      (λ d. let r = those-in y xs d in (or_right (eqb y x) r.0, r.1))
      (or_cases (eqb y x) (elem y (those s xs)) (rw h at e)))
      (λ h. let r = those-in y xs (rw h at e) in (or_right (eqb y x) r.0, r.1))
      (yes_or_no (has x s))

  pub in-those : (y : ℕ) (l : List ℕ) → elem y l ≡ true → has y s ≡ true → elem y (those s l) ≡ true
  unfolding elem those
  in-those y [] e m = absurd (false≢true e)
  in-those y (x ∷ xs) e m =
      ⊎_elim
      (λ h. rw h (⊎_elim (λ d. or_left (elem y (those s xs)) d) (λ d. or_right (eqb y x) (in-those y xs d m)) (or_cases (eqb y x) (elem y xs) e)))
      (λ h. rw h (⊎_elim (λ d. absurd (clash (ap (λ (z : ℕ). has z s) (sym (eqb-true y x d)) ∙ m) h)) (λ d. in-those y xs d m) (or_cases (eqb y x) (elem y xs) e)))
      (yes_or_no (has x s))

  module _ (t : ℕ) (m : has t s ≡ true) where
    pub those-after : (l : List ℕ) → those s (types_after t l) ≡ types_after t (those s l)
    unfolding those types_after
    those-after [] = refl
    those-after (x ∷ xs) =
        ⊎_elim
        (λ (d : eqb t x ≡ true). let h : has x s ≡ true = ap (λ (z : ℕ). has z s) (sym (eqb-true t x d)) ∙ m in rw (d, h, d))
        (λ (d : eqb t x ≡ false). ⊎_elim (λ (h : has x s ≡ true). rw (d, h, d) (those-after xs)) (λ (h : has x s ≡ false). rw (d, h) (those-after xs)) (yes_or_no (has x s)))
        (yes_or_no (eqb t x))

    pub those-before : (l : List ℕ) → those s (types_before t l) ≡ types_before t (those s l)
    unfolding those types_before
    those-before [] = refl
    those-before (x ∷ xs) =
        ⊎_elim
        (λ (d : eqb t x ≡ true). let h : has x s ≡ true = ap (λ (z : ℕ). has z s) (sym (eqb-true t x d)) ∙ m in rw (d, h, d))
        (λ (d : eqb t x ≡ false). ⊎_elim (λ (h : has x s ≡ true). rw (d, h, d) (ap (λ (l : List ℕ). x ∷ l) (those-before xs))) (λ (h : has x s ≡ false). rw (d, h) (those-before xs)) (yes_or_no (has x s)))
        (yes_or_no (eqb t x))
