-- The rows of the types of a set, one after the other, lowest first; and every row of a table. Assumes nothing.
use mathlib.Core.Path.{◌≡◌, refl, sym, ap, ap₂, ◌∙◌}
use mathlib.Core.Logic.{⊎_elim}
use mathlib.Core.Bool.{Bool, true, false, not, ◌&&◌, cond, and-true}
use mathlib.Core.List.{List, [], ◌∷◌}
use Prim.Native.Nat.{ℕ, zero, suc, ◌+◌, ◌-◌, ◌^◌, ◌≤◌, ◌<◌}
use native.Mathlib.Nat.{suc_inj, suc-ne-zero}
use native.Mathlib.Omega.{arith}
use lib.Dec.{eqb, ltb, leb}
use lib.ListN.{length, get_or, set}
use borrow.Author.Tests.{lt-ltb, le-leb, eq-eqb, ne_eqb, leb-true, ltb-true, eqb-true, eqb-false}
use Rattle.typeset.specs.Sets.{has, without, lowest}
use Rattle.typeset.proofs.Bools.{yes_or_no, fails, clash, and_right, and-make, not-true}
use Rattle.typeset.proofs.Laws.{has-empty, has-without-at}
use Rattle.typeset.proofs.Taken.{taken-below, taken-has}
use Rattle.plan.specs.declared.Region.{Region}
use Rattle.index.specs.Index.{tab, row_for, row_or}
use Rattle.index.specs.Steps.{touched, each, upon}

-- ---- the rows of a set

module _ {left t : ℕ} (h : left < 2 ^ 32) (ne : ¬ (left ≡ 0)) (low : t ≡ lowest left) (first : ℕ) where
  pub touched-here : touched first left (first + t) ≡ true
  unfolding touched
  touched-here =
      let same : first + t - first ≡ t = omega arith in
      rw same (and-make (le-leb first (first + t) (omega arith)) (and-make (lt-ltb t 32 (taken-below h ne low)) (taken-has h ne low)))

  pub touched-gone : touched first (without left t) (first + t) ≡ false
  unfolding touched
  touched-gone =
      let same : first + t - first ≡ t = omega arith in
      let out : has t (without left t) ≡ (has t left && not (eqb t t)) = has-without-at left t t (taken-below h ne low) in
      rw same (fails _ (λ e.
      let m = and_right (ltb t 32) (has t (without left t)) (and_right (leb first (first + t)) _ e) in
      clash (eq-eqb t t refl) (not-true (eqb t t) (and_right (has t left) (not (eqb t t)) (sym out ∙ m)))))

  pub touched-other : (j : ℕ) → ¬ (j ≡ first + t) → touched first left j ≡ touched first (without left t) j
  unfolding touched
  touched-other j n =
      ⊎_elim
      (λ (a : leb first j ≡ true).
      ⊎_elim
      (λ (b : ltb (j - first) 32 ≡ true).
      let up : first ≤ j = leb-true first j a in
      let other : eqb (j - first) t ≡ false = ne_eqb (j - first) t (λ e. n (omega arith)) in
      rw (a, b) (sym (has-without-at left t (j - first) (ltb-true (j - first) 32 b) ∙ rw other (and-true (has (j - first) left)))))
      (λ (b : ltb (j - first) 32 ≡ false). rw b)
      (yes_or_no (ltb (j - first) 32)))
      (λ (a : leb first j ≡ false). rw a)
      (yes_or_no (leb first j))

pub touched_none : (first j : ℕ) → touched first 0 j ≡ false
unfolding touched
touched_none first j = fails _ (λ e. clash (and_right (ltb (j - first) 32) (has (j - first) 0) (and_right (leb first j) _ e)) (has-empty (j - first)))

-- ---- each row

each-ext : (f g : ℕ → List ℕ → List ℕ) (rows : List (List ℕ)) → ((j : ℕ) (r : List ℕ) → f j r ≡ g j r) → each f rows ≡ each g rows
unfolding each
each-ext f g [] e = refl
each-ext f g (r ∷ rs) e = ap₂ ◌∷◌ (e 0 r) (each-ext (λ k. f (suc k)) (λ k. g (suc k)) rs (λ j s. e (suc j) s))

each_same : (f : ℕ → List ℕ → List ℕ) (rows : List (List ℕ)) → ((j : ℕ) (r : List ℕ) → f j r ≡ r) → each f rows ≡ rows
unfolding each
each_same f [] e = refl
each_same f (r ∷ rs) e = ap₂ ◌∷◌ (e 0 r) (each_same (λ k. f (suc k)) rs (λ j s. e (suc j) s))

-- one row first, then each
each_set : (f g : ℕ → List ℕ → List ℕ) (h : List ℕ → List ℕ) (rows : List (List ℕ)) (k : ℕ)
    → ((j : ℕ) (r : List ℕ) → ¬ (j ≡ k) → f j r ≡ g j r) → ((r : List ℕ) → f k r ≡ g k (h r))
    → each f rows ≡ each g (set rows k (h (get_or rows k [])))
unfolding each
each_set f g h [] k o e = refl
each_set f g h (r ∷ rs) zero o e = ap₂ ◌∷◌ (e r) (each-ext (λ j. f (suc j)) (λ j. g (suc j)) rs (λ j s. o (suc j) s (suc-ne-zero j)))
each_set f g h (r ∷ rs) (suc k) o e =
    ap₂ ◌∷◌ (o 0 r (λ z. suc-ne-zero k (sym z)))
    (each_set (λ j. f (suc j)) (λ j. g (suc j)) h rs k (λ j s n. o (suc j) s (λ z. n (suc_inj z))) e)

pub each-length : (f : ℕ → List ℕ → List ℕ) (rows : List (List ℕ)) → length (each f rows) ≡ length rows
unfolding each
each-length f [] = refl
each-length f (r ∷ rs) = ap suc (each-length (λ k. f (suc k)) rs)

pub each_at : (f : ℕ → List ℕ → List ℕ) (rows : List (List ℕ)) (k : ℕ) → k < length rows → get_or (each f rows) k [] ≡ f k (get_or rows k [])
unfolding each
each_at f [] k h = absurd (omega arith)
each_at f (r ∷ rs) zero h = refl
each_at f (r ∷ rs) (suc k) h = each_at (λ j. f (suc j)) rs k (omega arith)

-- ---- a loop through the types of a set

module _ {left t : ℕ} (h : left < 2 ^ 32) (ne : ¬ (left ≡ 0)) (low : t ≡ lowest left) (first : ℕ) (f : ℕ → List ℕ → List ℕ) where
  pub upon-next : (rows : List (List ℕ)) → upon first left f rows ≡ upon first (without left t) f (set rows (first + t) (f (first + t) (get_or rows (first + t) [])))
  unfolding upon
  upon-next rows =
      each_set _ _ (f (first + t)) rows (first + t)
      (λ j r n. ap (λ (b : Bool). cond b (f j r) r) (touched-other h ne low first j n))
      (λ r. rw (touched-here h ne low first, touched-gone h ne low first))

pub upon-none : (first : ℕ) (f : ℕ → List ℕ → List ℕ) (rows : List (List ℕ)) → upon first 0 f rows ≡ rows
unfolding upon
upon-none first f rows = each_same _ rows (λ j r. rw (touched_none first j))

-- ---- a table

pub tab-length : (n : ℕ) (f : ℕ → List ℕ) → length (tab n f) ≡ n
unfolding tab
tab-length zero f = refl
tab-length (suc n) f = ap suc (tab-length n (λ j. f (suc j)))

pub tab-at : (n k : ℕ) (f : ℕ → List ℕ) → k < n → get_or (tab n f) k [] ≡ f k
unfolding tab
tab-at zero k f h = absurd (omega arith)
tab-at (suc n) zero f h = refl
tab-at (suc n) (suc k) f h = tab-at n k (λ j. f (suc j)) (omega arith)

pub tab-ext : (n : ℕ) (f g : ℕ → List ℕ) → ((k : ℕ) → k < n → f k ≡ g k) → tab n f ≡ tab n g
unfolding tab
tab-ext zero f g e = refl
tab-ext (suc n) f g e = ap₂ ◌∷◌ (e 0 (omega arith)) (tab-ext n (λ j. f (suc j)) (λ j. g (suc j)) (λ k h. e (suc k) (omega arith)))

-- ---- each row has its places

pub rows_none : (rows : List (List ℕ)) (j : ℕ) → j < 0 → length (get_or rows j []) ≡ 257
rows_none rows j h = absurd (omega arith)

pub rows_more : (rows : List (List ℕ)) (k : ℕ) → ((j : ℕ) → j < k → length (get_or rows j []) ≡ 257) → length (get_or rows k []) ≡ 257
    → (j : ℕ) → j < k + 1 → length (get_or rows j []) ≡ 257
rows_more rows k f e j h =
    ⊎_elim
    (λ (s : eqb j k ≡ true). ap (λ (i : ℕ). length (get_or rows i [])) (eqb-true j k s) ∙ e)
    (λ (s : eqb j k ≡ false). let other : ¬ (j ≡ k) = eqb-false j k s in f j (omega arith))
    (yes_or_no (eqb j k))

-- ---- the row of a type that has one

pub row-or : (r : Region) (t : ℕ) → t < 32 → row_or r t ≡ row_for r t
row-or r t h = rw (lt-ltb t 32 h)
