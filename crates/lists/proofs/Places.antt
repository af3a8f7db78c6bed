-- What a loop through the places of a list needs: the place i and what follows it, and what is stored from a place on. Assumes nothing.
use mathlib.Core.Path.{◌≡◌, sym, ap, ◌∙◌}
use mathlib.Core.Logic.{⊎_elim}
use mathlib.Core.Bool.{Bool, true, false}
use mathlib.Core.List.{List, [], ◌∷◌, ◌++◌, map}
use Prim.Native.Nat.{ℕ, zero, suc, ◌+◌, ◌-◌, ◌≤◌, ◌<◌}
use native.Mathlib.Nat.{zero-add, sub-zero, suc-sub-suc, zero-sub}
use native.Mathlib.Numerals.{add-one}
use native.Mathlib.Omega.{arith}
use lib.ListN.{length, get_or, set, drop, replicate, length-replicate, drop_of_length-le}
use lib.Seq.{sets, sets-eq, drop-cons}
use Rattle.typeset.proofs.Bools.{yes_or_no}
use Rattle.lists.specs.Lists.{keep}

-- ---- the place i, and what follows it

pub here : {A : Type 0} (m : List A) (i : ℕ) (d : A) → i < length m → drop i m ≡ get_or m i d ∷ drop (i + 1) m
here m i d h = rw (add-one i) (drop-cons m i d h)

-- ---- those that pass a test, from the place i on

module _ {A : Type 0} (p : A → Bool) (m : List A) (i : ℕ) where
  pub keep-yes : (d : A) → i < length m → p (get_or m i d) ≡ true → keep p (drop i m) ≡ get_or m i d ∷ keep p (drop (i + 1) m)
  unfolding keep
  keep-yes d h e = rw (here m i d h, e)

  pub keep-no : (d : A) → i < length m → p (get_or m i d) ≡ false → keep p (drop i m) ≡ keep p (drop (i + 1) m)
  unfolding keep
  keep-no d h e = rw (here m i d h, e)

  pub keep-end : length m ≤ i → keep p (drop i m) ≡ []
  unfolding keep
  keep-end h = rw (drop_of_length-le m h)

  -- stored, each as f has it, from the place n on
  pub store-more : (d : A) → i < length m → p (get_or m i d) ≡ true → (f : A → ℕ) (out : List ℕ) (n : ℕ)
      → sets out n (map f (keep p (drop i m))) ≡ sets (set out n (f (get_or m i d))) (n + 1) (map f (keep p (drop (i + 1) m)))
  store-more d h e f out n = rw (keep-yes d h e, add-one n)

  -- how many are stored
  pub count-more : (d : A) (n k : ℕ) → i < length m → p (get_or m i d) ≡ true → n + length (keep p (drop i m)) ≡ k → n + 1 + length (keep p (drop (i + 1) m)) ≡ k
  count-more d n k h e q =
      let one : length (keep p (drop i m)) ≡ suc (length (keep p (drop (i + 1) m))) = ap length (keep-yes d h e) in
      omega arith

pub keep-le : {A : Type 0} (p : A → Bool) (m : List A) → length (keep p m) ≤ length m
unfolding keep
keep-le p [] = omega arith
keep-le p (x ∷ xs) = ⊎_elim (λ e. rw e (omega (arith, keep-le p xs))) (λ e. rw e (omega (arith, keep-le p xs))) (yes_or_no (p x))

-- ---- stored into places of 0

pub drop-replicate : (k n a : ℕ) → drop k (replicate n a) ≡ replicate (n - k) a
drop-replicate zero n a = ap (λ (m : ℕ). replicate m a) (sym (sub-zero n))
drop-replicate (suc k) zero a = ap (λ (m : ℕ). replicate m a) (sym (zero-sub (suc k)))
drop-replicate (suc k) (suc n) a = drop-replicate k n a ∙ ap (λ (m : ℕ). replicate m a) (sym (suc-sub-suc n k))

-- a run of stores into n places of 0, from place 0 on: what is stored, then 0 in the places that are left
pub stores-pad : (n : ℕ) (xs : List ℕ) → length xs ≤ n → sets (replicate n 0) 0 xs ≡ xs ++ replicate (n - length xs) 0
stores-pad n xs h =
    sets-eq xs (replicate n 0) 0 (simp (length-replicate, zero-add) h)
    ∙ ap (λ (l : List ℕ). xs ++ l) (ap (λ (k : ℕ). drop k (replicate n 0)) (zero-add (length xs)) ∙ drop-replicate (length xs) n 0)
