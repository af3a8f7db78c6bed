-- The numbers that a store has for a relation, an owner and a key: what storing one row does to them. Assumes nothing.
use mathlib.Core.Path.{◌≡◌, refl, sym, ap, ap₂, ◌∙◌}
use mathlib.Core.Logic.{⊎_elim}
use mathlib.Core.Bool.{Bool, true, false, cond, not, ◌&&◌, and-true, false≢true}
use mathlib.Core.List.{List, [], ◌∷◌}
use Prim.Native.Nat.{ℕ, zero, suc, ◌<◌, ◌≤◌, suc-le-suc}
use native.Mathlib.Nat.{le_of_suc-le-suc, not-suc-le-zero, zero-lt-suc}
use native.Mathlib.Omega.{arith}
use lib.Dec.{eqb, eqb-suc-zero, eqb-suc-suc}
use Rattle.typeset.proofs.Below.{least-has, least-min}
use lib.ListN.{length}
use borrow.Author.Tests.{eqb-true, ne_eqb}
use Rattle.typeset.proofs.Bools.{yes_or_no, clash, fails, not-true}
use Rattle.store.specs.Words.{DataRow, data_row_at, with_row, is_for, first_for}
use Rattle.store.specs.Agree.{gather, numbers_for}
use Rattle.store.proofs.Words.{row-put-same, row-put-other}

abbrev later : (ℕ → Bool) → ℕ → Bool
later p t = p (suc t)

abbrev later_n : (ℕ → ℕ) → ℕ → ℕ
later_n v t = v (suc t)

taking : (x : Bool) (y : Bool) (a b : ℕ) (l l' : List ℕ) → x ≡ y → (x ≡ true → a ≡ b) → l ≡ l' → cond x (a ∷ l) l ≡ cond y (b ∷ l') l'
taking true y a b l l' e f g = rw (← e) (ap₂ ◌∷◌ (f refl) g)
taking false y a b l l' e f g = rw (← e) g

-- tests that pass together, of values that are equal where they pass
pub gather_ext : (n : ℕ) (p q : ℕ → Bool) (u v : ℕ → ℕ) → ((t : ℕ) → t < n → p t ≡ q t) → ((t : ℕ) → t < n → p t ≡ true → u t ≡ v t)
    → gather n p u ≡ gather n q v
unfolding gather
gather_ext zero p q u v f g = refl
gather_ext (suc n) p q u v f g =
    taking (p 0) (q 0) (u 0) (v 0) _ _ (f 0 (zero-lt-suc n)) (g 0 (zero-lt-suc n))
    (gather_ext n (later p) (later q) (later_n u) (later_n v) (λ t h. f (suc t) (suc-le-suc h)) (λ t h. g (suc t) (suc-le-suc h)))

pub gather_none : (n : ℕ) (p : ℕ → Bool) (v : ℕ → ℕ) → ((t : ℕ) → t < n → p t ≡ false) → gather n p v ≡ []
unfolding gather
gather_none zero p v f = refl
gather_none (suc n) p v f = rw (f 0 (zero-lt-suc n)) (gather_none n (later p) (later_n v) (λ t h. f (suc t) (suc-le-suc h)))

-- the first that passes, and then the others
pub gather-first : (n : ℕ) (p : ℕ → Bool) (v : ℕ → ℕ) (i : ℕ) → ((t : ℕ) → t < i → p t ≡ false) → i < n → p i ≡ true
    → gather n p v ≡ v i ∷ gather n (λ t. p t && not (eqb t i)) v
unfolding gather
gather-first zero p v i f h e = absurd (not-suc-le-zero h)
gather-first (suc n) p v zero f h e =
    rw e (ap (λ (l : List ℕ). v 0 ∷ l) (gather_ext n (later p) (λ t. p (suc t) && not (eqb (suc t) 0)) (later_n v) (later_n v)
    (λ t l. rw (eqb-suc-zero t) (sym (and-true (p (suc t))))) (λ t l g. refl)))
gather-first (suc n) p v (suc i) f h e =
    rw (f 0 (zero-lt-suc i))
    (gather-first n (later p) (later_n v) i (λ t l. f (suc t) (suc-le-suc l)) (le_of_suc-le-suc h) e
    ∙ ap (λ (l : List ℕ). v (suc i) ∷ l) (gather_ext n (λ t. p (suc t) && not (eqb t i)) (λ t. p (suc t) && not (eqb (suc t) (suc i))) (later_n v) (later_n v)
    (λ t l. rw (eqb-suc-suc t i)) (λ t l g. refl)))

-- ---- the numbers of a store

module _ (b : List ℕ) (m o k : ℕ) where
  abbrev test : ℕ → Bool
  test t = is_for m o k (data_row_at b t)

  abbrev number_at : ℕ → ℕ
  number_at t = (data_row_at b t).number

  -- those at other places than i
  abbrev pub rest : ℕ → List ℕ
  rest i = gather 1024 (λ t. test t && not (eqb t i)) number_at

  pub place-has : first_for b m o k < 1024 → is_for m o k (data_row_at b (first_for b m o k)) ≡ true
  unfolding first_for
  place-has h = least-has 1024 test h

  pub place-min : (t : ℕ) → t < first_for b m o k → is_for m o k (data_row_at b t) ≡ false
  unfolding first_for
  place-min t h = least-min 1024 test t h

  pub numbers-found : first_for b m o k < 1024 → numbers_for b m o k ≡ (data_row_at b (first_for b m o k)).number ∷ rest (first_for b m o k)
  unfolding numbers_for
  numbers-found h = gather-first 1024 test number_at (first_for b m o k) place-min h (place-has h)

  pub numbers-absent : 1024 ≤ first_for b m o k → numbers_for b m o k ≡ []
  unfolding numbers_for
  numbers-absent h = gather_none 1024 test number_at (λ t l. place-min t (omega arith))

  pub rest-absent : (i : ℕ) → 1024 ≤ first_for b m o k → rest i ≡ []
  rest-absent i h =
      gather_none 1024 (λ t. test t && not (eqb t i)) number_at (λ t l. let no : is_for m o k (data_row_at b t) ≡ false = place-min t (omega arith) in rw no)

-- a test beside "not at i"
pub beside : (x y e : Bool) → (e ≡ false → x ≡ y) → (x && not e) ≡ (y && not e)
beside true true e f = refl
beside false false e f = refl
beside true false true f = refl
beside true false false f = f refl
beside false true true f = refl
beside false true false f = f refl

pub gone : (x y e : Bool) → (e ≡ true → x ≡ false) → (e ≡ false → x ≡ y) → x ≡ (y && not e)
gone x true true f g = f refl
gone x false true f g = f refl
gone x true false f g = g refl
gone x false false f g = g refl

elsewhere : (x e : Bool) → (x && not e) ≡ true → e ≡ false
elsewhere true e h = not-true e h
elsewhere false e h = absurd (false≢true h)

-- a row x is stored at the place i
module _ (b : List ℕ) (long : length b ≡ 4096) (i : ℕ) (h : i < 1024) (x : DataRow) (m o k : ℕ) where
  there : (t : ℕ) → eqb t i ≡ true → data_row_at (with_row b i x) t ≡ x
  there t e = ap (data_row_at (with_row b i x)) (eqb-true t i e) ∙ row-put-same b i x long h

  rest_put : rest (with_row b i x) m o k i ≡ rest b m o k i
  rest_put =
      gather_ext 1024 _ _ (λ t. (data_row_at (with_row b i x) t).number) (λ t. (data_row_at b t).number)
      (λ t l. beside _ _ (eqb t i) (λ e. ap (is_for m o k) (row-put-other b i x t e)))
      (λ t l p. ap (λ (y : DataRow). y.number) (row-put-other b i x t (elsewhere (is_for m o k (data_row_at (with_row b i x) t)) (eqb t i) p)))

  pub put_first : is_for m o k x ≡ true → ((t : ℕ) → t < i → is_for m o k (data_row_at b t) ≡ false) → numbers_for (with_row b i x) m o k ≡ x.number ∷ rest b m o k i
  unfolding numbers_for
  put_first e f =
      let same : data_row_at (with_row b i x) i ≡ x = row-put-same b i x long h in
      gather-first 1024 (λ t. is_for m o k (data_row_at (with_row b i x) t)) (λ t. (data_row_at (with_row b i x) t).number) i
      (λ t l. ap (is_for m o k) (row-put-other b i x t (ne_eqb t i (λ q. omega arith))) ∙ f t l) h (ap (is_for m o k) same ∙ e)
      ∙ ap₂ ◌∷◌ (ap (λ (y : DataRow). y.number) same) rest_put

  pub put-gone : is_for m o k x ≡ false → numbers_for (with_row b i x) m o k ≡ rest b m o k i
  unfolding numbers_for
  put-gone e =
      gather_ext 1024 _ _ (λ t. (data_row_at (with_row b i x) t).number) (λ t. (data_row_at b t).number)
      (λ t l. gone _ _ (eqb t i) (λ q. ap (is_for m o k) (there t q) ∙ e) (λ q. ap (is_for m o k) (row-put-other b i x t q)))
      (λ t l p. ap (λ (y : DataRow). y.number) (row-put-other b i x t (fails (eqb t i) (λ q. clash p (ap (is_for m o k) (there t q) ∙ e)))))

  -- neither the row that stood there nor the one that does now is asked for
  pub put_other : is_for m o k (data_row_at b i) ≡ false → is_for m o k x ≡ false → numbers_for (with_row b i x) m o k ≡ numbers_for b m o k
  unfolding numbers_for
  put_other d e =
      gather_ext 1024 _ _ (λ t. (data_row_at (with_row b i x) t).number) (λ t. (data_row_at b t).number)
      (λ t l. ⊎_elim (λ q. ap (is_for m o k) (there t q) ∙ e ∙ sym (ap (λ (j : ℕ). is_for m o k (data_row_at b j)) (eqb-true t i q) ∙ d))
      (λ q. ap (is_for m o k) (row-put-other b i x t q)) (yes_or_no (eqb t i)))
      (λ t l p. ap (λ (y : DataRow). y.number) (row-put-other b i x t (fails (eqb t i) (λ q. clash p (ap (is_for m o k) (there t q) ∙ e)))))
