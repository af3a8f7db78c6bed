-- A data row stored at a place is there, and at every other place is what was; where the searches stop. Assumes nothing.
use mathlib.Core.Path.{◌≡◌, sym, ◌∙◌}
use mathlib.Core.List.{List, [], ◌∷◌}
use Prim.Native.Nat.{ℕ, suc, ◌+◌, ◌*◌, ◌<◌, ◌≤◌}
use native.Mathlib.Omega.{arith}
use lib.ListN.{length, get_or, set, length-set}
use lib.Seq.{length-sets, get_or-set_same, get_or-set_other}
use lib.Dec.{eqb, eqb-zero-suc}
use mathlib.Core.Logic.{◌⊎◌, inl, inr, ⊎_elim}
use borrow.Author.Tests.{eqb-true, eqb-false, eq-eqb}
use borrow.Author.Count.{below_more}
use native.Mathlib.Numerals.{add-one}
use mathlib.Core.Bool.{true, false}
use Rattle.typeset.specs.Sets.{least}
use Rattle.typeset.proofs.Laws.{split}
use Rattle.typeset.proofs.Below.{least-found, least-none}
use Rattle.store.specs.Words.{DataRow, data_row, data_row_at, with_row, is_for, is_free_place, first_for, first_free}
use Rattle.store.specs.Seen.{Stops}

-- four stores are a row
pub put-code : (b : List ℕ) (i m o k n : ℕ) → set (set (set (set b (4 * i) m) (4 * i + 1) o) (4 * i + 2) k) (4 * i + 3) n ≡ with_row b i (data_row m o k n)
unfolding with_row
put-code b i m o k n =
    let one : 4 * i + 1 ≡ suc (4 * i) = omega arith in
    let two : 4 * i + 2 ≡ suc (suc (4 * i)) = omega arith in
    let three : 4 * i + 3 ≡ suc (suc (suc (4 * i))) = omega arith in
    rw (one, two, three)

pub put-length : (b : List ℕ) (i : ℕ) (x : DataRow) → length (with_row b i x) ≡ length b
unfolding with_row
put-length b i x = length-sets b (4 * i) (x.mark ∷ x.owner ∷ x.key ∷ x.number ∷ [])

module _ (b : List ℕ) (i : ℕ) (x : DataRow) where
  -- the words, one by one
  abbrev one : List ℕ
  one = set b (4 * i) x.mark

  abbrev two : List ℕ
  two = set one (4 * i + 1) x.owner

  abbrev three : List ℕ
  three = set two (4 * i + 2) x.key

  abbrev stored : List ℕ
  stored = set three (4 * i + 3) x.number

  put_is : with_row b i x ≡ stored
  put_is = sym (put-code b i x.mark x.owner x.key x.number)

  word-other : (a : ℕ) → (a < 4 * i) ⊎ (4 * i + 3 < a) → get_or stored a 0 ≡ get_or b a 0
  word-other a d =
      get_or-set_other three (4 * i + 3) a x.number 0 (λ e. ⊎_elim (λ l. omega arith) (λ l. omega arith) d)
      ∙ get_or-set_other two (4 * i + 2) a x.key 0 (λ e. ⊎_elim (λ l. omega arith) (λ l. omega arith) d)
      ∙ get_or-set_other one (4 * i + 1) a x.owner 0 (λ e. ⊎_elim (λ l. omega arith) (λ l. omega arith) d)
      ∙ get_or-set_other b (4 * i) a x.mark 0 (λ e. ⊎_elim (λ l. omega arith) (λ l. omega arith) d)

  -- the place j is below i or above it
  row_apart : (j : ℕ) → (j < i) ⊎ (i < j) → data_row_at (with_row b i x) j ≡ data_row_at b j
  unfolding data_row_at
  row_apart j d =
      let far : (u : ℕ) → u < 4 → (4 * j + u < 4 * i) ⊎ (4 * i + 3 < 4 * j + u) =
      λ u h. ⊎_elim (λ l. inl (omega arith)) (λ l. inr (omega arith)) d in
      let mark : get_or stored (4 * j) 0 ≡ get_or b (4 * j) 0 = word-other (4 * j) (⊎_elim (λ l. inl (omega arith)) (λ l. inr (omega arith)) d) in
      let owner : get_or stored (4 * j + 1) 0 ≡ get_or b (4 * j + 1) 0 = word-other (4 * j + 1) (far 1 (omega arith)) in
      let key : get_or stored (4 * j + 2) 0 ≡ get_or b (4 * j + 2) 0 = word-other (4 * j + 2) (far 2 (omega arith)) in
      let number : get_or stored (4 * j + 3) 0 ≡ get_or b (4 * j + 3) 0 = word-other (4 * j + 3) (far 3 (omega arith)) in
      rw put_is (λ t. data_row (mark t) (owner t) (key t) (number t))

  pub row-put-other : (j : ℕ) → eqb j i ≡ false → data_row_at (with_row b i x) j ≡ data_row_at b j
  row-put-other j d =
      let ne : ¬ (j ≡ i) = eqb-false j i d in
      ⊎_elim (λ l. row_apart j (inl l)) (λ l. row_apart j (inr (omega arith))) (split j i)

  module _ (long : length b ≡ 4096) (h : i < 1024) where
    pub row-put-same : data_row_at (with_row b i x) i ≡ x
    unfolding data_row_at
    row-put-same =
        let mark : get_or stored (4 * i) 0 ≡ x.mark =
        get_or-set_other three (4 * i + 3) (4 * i) x.number 0 (λ e. omega arith)
        ∙ get_or-set_other two (4 * i + 2) (4 * i) x.key 0 (λ e. omega arith)
        ∙ get_or-set_other one (4 * i + 1) (4 * i) x.owner 0 (λ e. omega arith)
        ∙ get_or-set_same b (4 * i) x.mark 0 (omega arith) in
        let owner : get_or stored (4 * i + 1) 0 ≡ x.owner =
        get_or-set_other three (4 * i + 3) (4 * i + 1) x.number 0 (λ e. omega arith)
        ∙ get_or-set_other two (4 * i + 2) (4 * i + 1) x.key 0 (λ e. omega arith)
        ∙ get_or-set_same one (4 * i + 1) x.owner 0 (simp length-set (omega arith)) in
        let key : get_or stored (4 * i + 2) 0 ≡ x.key =
        get_or-set_other three (4 * i + 3) (4 * i + 2) x.number 0 (λ e. omega arith)
        ∙ get_or-set_same two (4 * i + 2) x.key 0 (simp length-set (omega arith)) in
        let number : get_or stored (4 * i + 3) 0 ≡ x.number = get_or-set_same three (4 * i + 3) x.number 0 (simp length-set (omega arith)) in
        rw put_is (λ t. data_row (mark t) (owner t) (key t) (number t))

-- ---- the searches

-- nobody asks for a free place
pub for-free : (r o k : ℕ) (x : DataRow) → x.mark ≡ 0 → is_for (r + 1) o k x ≡ false
unfolding is_for
for-free r o k x e = rw (e, add-one r, eqb-zero-suc r)

module _ (b : List ℕ) (m o k : ℕ) where
  pub first_found : (i : ℕ) → ((j : ℕ) → j < i → is_for m o k (data_row_at b j) ≡ false) → i < 1024 → is_for m o k (data_row_at b i) ≡ true → i ≡ first_for b m o k
  unfolding first_for
  first_found i f h e = sym (least-found 1024 (λ j. is_for m o k (data_row_at b j)) i f h e)

  pub first-none : ((j : ℕ) → j < 1024 → is_for m o k (data_row_at b j) ≡ false) → 1024 ≡ first_for b m o k
  unfolding first_for
  first-none f = sym (least-none 1024 (λ j. is_for m o k (data_row_at b j)) f)

-- where the search for a data row or a free place stops
module _ (b : List ℕ) (r o k i : ℕ) (s : Stops b (r + 1) o k i) where
  pub stop-full : 1024 ≤ i → (1024 ≤ first_for b (r + 1) o k) × (1024 ≤ first_free b)
  unfolding first_free
  stop-full h =
      let none : 1024 ≡ first_for b (r + 1) o k = first-none b (r + 1) o k (λ j l. s.not_for j (omega arith)) in
      let no-free : least 1024 (λ j. is_free_place (data_row_at b j)) ≡ 1024 = least-none 1024 (λ j. is_free_place (data_row_at b j)) (λ j l. s.not_free j (omega arith)) in
      (omega arith, omega arith)

  pub stop-for : i < 1024 → ¬ (get_or b (4 * i) 0 ≡ 0) → i ≡ first_for b (r + 1) o k
  unfolding is_free_place data_row_at
  stop-for h n = ⊎_elim (λ e. first_found b (r + 1) o k i s.not_for h e) (λ e. absurd (n (eqb-true _ 0 e))) (s.here h)

  pub stop-free : i < 1024 → get_or b (4 * i) 0 ≡ 0 → i ≡ first_free b
  unfolding first_free is_free_place data_row_at
  stop-free h e = sym (least-found 1024 (λ j. is_free_place (data_row_at b j)) i s.not_free h (eq-eqb _ 0 e))

  pub past-free : get_or b (4 * i) 0 ≡ 0 → (j : ℕ) → j < i + 1 → is_for (r + 1) o k (data_row_at b j) ≡ false
  unfolding data_row_at
  past-free e = below_more _ _ s.not_for (for-free r o k (data_row_at b i) e)
