-- What stands in a list, and what of it passes a test. Assumes nothing.
use mathlib.Core.Path.{◌≡◌, refl, sym, ap, ◌∙◌}
use mathlib.Core.Logic.{⊎_elim}
use mathlib.Core.Bool.{Bool, true, false, not, ◌&&◌, ◌||◌, and-true}
use mathlib.Core.List.{List, [], ◌∷◌}
use Prim.Native.Nat.{ℕ, zero, suc, ◌<◌}
use native.Mathlib.Omega.{arith}
use lib.Dec.{eqb}
use lib.ListN.{length, get_or}
use borrow.Author.Tests.{eqb-true, eqb-false, ne_eqb}
use Rattle.typeset.proofs.Bools.{yes_or_no, clash}
use Rattle.lists.specs.Lists.{elem, keep}

-- neither of two
pub or_no : (a b : Bool) → (a || b) ≡ false → (a ≡ false) × (b ≡ false)
or_no true b e = absurd (clash refl e)
or_no false b e = (refl, e)

-- ---- what passes a test

-- what stands in a list and passes the test stands among those that pass
pub elem-keep : (p : ℕ → Bool) (y : ℕ) (xs : List ℕ) → elem y (keep p xs) ≡ (p y && elem y xs)
unfolding elem keep
elem-keep p y [] = ⊎_elim (λ e. rw e) (λ e. rw e) (yes_or_no (p y))
elem-keep p y (x ∷ xs) =
    let there = elem-keep p y xs in
    ⊎_elim
    (λ e. rw e (⊎_elim (λ s. rw s (sym (ap p (eqb-true y x s) ∙ e) ∙ sym (and-true (p y)))) (λ s. rw s there) (yes_or_no (eqb y x))))
    (λ e. rw e (⊎_elim (λ s. rw s (there ∙ rw (ap p (eqb-true y x s) ∙ e))) (λ s. rw s there) (yes_or_no (eqb y x))))
    (yes_or_no (p x))

-- a test and then another
pub keep-keep : {A : Type 0} (p q : A → Bool) (xs : List A) → keep (λ l. p l && q l) xs ≡ keep q (keep p xs)
unfolding keep
keep-keep p q [] = refl
keep-keep {A} p q (x ∷ xs) = ⊎_elim (λ e. rw e (⊎_elim (λ s. rw s (ap (λ (l : List A). x ∷ l) (keep-keep p q xs))) (λ s. rw s (keep-keep p q xs)) (yes_or_no (q x)))) (λ e. rw e (keep-keep p q xs)) (yes_or_no (p x))

-- tests that agree
pub keep-ext : {A : Type 0} (p q : A → Bool) (xs : List A) → ((x : A) → p x ≡ q x) → keep p xs ≡ keep q xs
unfolding keep
keep-ext p q [] f = refl
keep-ext p q (x ∷ xs) f = rw (f x, keep-ext p q xs f)

-- each that is kept passes
pub keep-passes : {A : Type 0} (p : A → Bool) (d : A) (xs : List A) (i : ℕ) → i < length (keep p xs) → p (get_or (keep p xs) i d) ≡ true
unfolding keep
keep-passes p d [] i h = absurd (omega arith)
keep-passes {A} p d (x ∷ xs) i h = ⊎_elim (λ e. rw e (yes (keep-passes p d xs) i e (rw e at h))) (λ e. rw e (keep-passes p d xs i (rw e at h))) (yes_or_no (p x))
  where
    yes : ((i : ℕ) → i < length (keep p xs) → p (get_or (keep p xs) i d) ≡ true) → (i : ℕ) → p x ≡ true → i < suc (length (keep p xs)) → p (get_or (x ∷ keep p xs) i d) ≡ true
    yes f zero e h = e
    yes f (suc i) e h = f i (omega arith)

-- where x does not stand, nothing is left out
pub keep-absent : (x : ℕ) (xs : List ℕ) → elem x xs ≡ false → keep (λ l. not (eqb l x)) xs ≡ xs
unfolding elem keep
keep-absent x [] n = refl
keep-absent x (y ∷ ys) n =
    let no = or_no (eqb x y) (elem x ys) n in
    let other : eqb y x ≡ false = ne_eqb y x (λ e. eqb-false x y no.0 (sym e)) in
    rw other (ap (λ (l : List ℕ). y ∷ l) (keep-absent x ys no.1))
