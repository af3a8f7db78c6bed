-- A box's operations change no data row that is closed to it, and no data row but the one that they name, place by place; what it reads is the number of the open one that it names; open is what the request says. Assumes nothing.
use Rattle.std.specs.Prelude.{Option, Ok, Err, Some, None}
use mathlib.Core.Path.{◌≡◌, refl, ap, ◌∙◌}
use mathlib.Core.Logic.{⊎_elim}
use mathlib.Core.Bool.{Bool, true, false, not}
use mathlib.Core.List.{List, [], ◌∷◌}
use Prim.Native.Nat.{ℕ, ◌+◌, ◌-◌, ◌<◌}
use native.Mathlib.Omega.{arith}
use lib.Dec.{eqb}
use borrow.Author.Tests.{eqb-true, eq-eqb, ne_eqb}
use Rattle.typeset.proofs.Below.{least-has}
use Rattle.typeset.proofs.Bools.{fails, clash, and_left, and_right}
use Rattle.typeset.proofs.Laws.{split}
use Rattle.store.specs.declared.Who.{Who}
use Rattle.refusal.specs.declared.Refusal.TheVariants.{Closed}
use Rattle.store.specs.Words.{relation_at, DataRow, data_row, no_row, data_row_at, with_row, is_for, is_free_place, first_for, first_free}
use Rattle.store.specs.Access.{Allowed, access_in}
use Rattle.store.specs.Operations.{StoreOperation, read, write, delete, relation_of, key_of, effect_at, effect}
use Rattle.store.specs.Agree.{is_rows_of, is_open_to, OpenRow, rows_after}
use Rattle.store.proofs.Words.{row-put-other}
use Rattle.store.proofs.Effects.{shut, opened, read_found, read-absent, delete-found, delete-absent, write-found, write-added, write-full}
use Rattle.store.proofs.Numbers.{place-has}
use Rattle.store.proofs.Held.{open-for}
use Rattle.store.proofs.Rules.{access-rule, access-rule-back}

module _ (b : List ℕ) (i : ℕ) (taken : is_free_place (data_row_at b i) ≡ false) where
  -- places that a test tells apart
  apart : (P : DataRow → Bool) (j : ℕ) → P (data_row_at b i) ≡ false → P (data_row_at b j) ≡ true → eqb i j ≡ false
  apart P j p q = fails (eqb i j) (λ e. clash (ap (λ (t : ℕ). P (data_row_at b t)) (eqb-true i j e) ∙ q) p)

  -- the row that is named stands elsewhere, and so does a free place
  named-stays : (m o k : ℕ) (x : DataRow) → is_for m o k (data_row_at b i) ≡ false → first_for b m o k < 1024 → data_row_at (with_row b (first_for b m o k) x) i ≡ data_row_at b i
  named-stays m o k x d h = row-put-other b (first_for b m o k) x i (apart (is_for m o k) (first_for b m o k) d (place-has b m o k h))

  free_stays : (x : DataRow) → first_free b < 1024 → data_row_at (with_row b (first_free b) x) i ≡ data_row_at b i
  unfolding first_free
  free_stays x h = row-put-other b (first_free b) x i (apart is_free_place (first_free b) taken (least-has 1024 (λ t. is_free_place (data_row_at b t)) h))

  stays_at : (o : ℕ) (c : StoreOperation) → is_for (relation_of c + 1) o (key_of c) (data_row_at b i) ≡ false
      → data_row_at (effect_at b (first_for b (relation_of c + 1) o (key_of c)) o c).rows i ≡ data_row_at b i
  stays_at o (read r k) d =
      let j = first_for b (r + 1) o k in
      ⊎_elim (λ h. rw (read_found b j o r k h)) (λ h. rw (read-absent b j o r k h)) (split j 1024)
  stays_at o (delete r k) d =
      let j = first_for b (r + 1) o k in
      ⊎_elim (λ h. rw (delete-found b j o r k h) (named-stays (r + 1) o k no_row d h)) (λ h. rw (delete-absent b j o r k h)) (split j 1024)
  stays_at o (write r k n) d =
      let j = first_for b (r + 1) o k in
      let f = first_free b in
      let x = data_row (r + 1) o k n in
      ⊎_elim
      (λ h. rw (write-found b j o r k n h) (named-stays (r + 1) o k x d h))
      (λ h. ⊎_elim (λ l. rw (write-added b j o r k n h refl l) (free_stays x l)) (λ l. rw (write-full b j o r k n h refl l)) (split f 1024))
      (split j 1024)

  -- NO ROW BUT THE ONE IT NAMES: a data row that is not the box's row of that relation and key stays
  pub other-row-stays : (w : Who) (R : List ℕ) (c : StoreOperation)
      → ((o : ℕ) → access_in R w (relation_of c) ≡ Some o → is_for (relation_of c + 1) o (key_of c) (data_row_at b i) ≡ false)
      → data_row_at (effect R b w c).rows i ≡ data_row_at b i
  other-row-stays w R c d = by (access_in R w (relation_of c)) refl
    where
      by : (a : Option ℕ) → access_in R w (relation_of c) ≡ a → data_row_at (effect R b w c).rows i ≡ data_row_at b i
      by None e = rw (shut R b w c e)
      by (Some o) e = rw (opened R b w c o e refl) (stays_at o c (d o e))

  -- NO ROW CLOSED TO THE BOX
  pub closed-row-stays : (w : Who) (R : List ℕ) (c : StoreOperation) → is_open_to R w (data_row_at b i) ≡ false → data_row_at (effect R b w c).rows i ≡ data_row_at b i
  closed-row-stays w R c d =
      other-row-stays w R c (λ o e. fails (is_for (relation_of c + 1) o (key_of c) (data_row_at b i)) (λ p. clash (open-for R w (relation_of c) o (key_of c) (data_row_at b i) e p) d))

-- and so it is after any operations of the box
pub closed-rows-stay : (w : Who) (R b : List ℕ) (i : ℕ) → is_free_place (data_row_at b i) ≡ false → is_open_to R w (data_row_at b i) ≡ false → (cs : List StoreOperation)
    → data_row_at (rows_after R b w cs) i ≡ data_row_at b i
unfolding rows_after
closed-rows-stay w R b i taken d [] = refl
closed-rows-stay w R b i taken d (c ∷ cs) =
    let one : data_row_at (effect R b w c).rows i ≡ data_row_at b i = closed-row-stays b i taken w R c d in
    closed-rows-stay w R (effect R b w c).rows i (ap is_free_place one ∙ taken) (ap (is_open_to R w) one ∙ d) cs ∙ one

-- ---- a data row is open to the box exactly where the request allows it: it is one of a relation, and the box is allowed its owner's rows there

rows-of : (o : ℕ) (a : Option ℕ) → is_rows_of o a ≡ true → a ≡ Some o
rows-of o None e = absurd (clash e refl)
rows-of o (Some o') e = ap (λ (n : ℕ). Some n) (eqb-true o' o e)

module _ (R : List ℕ) (w : Who) (x : DataRow) where
  pub open-rule : is_open_to R w x ≡ true → (x.mark ≡ 0 → ⊥) × (x.mark - 1 < 64) × Allowed (relation_at R (x.mark - 1)) w x.owner
  unfolding is_open_to is_free_place
  open-rule e =
      let access = access_in R w (x.mark - 1) in
      let taken : not (eqb x.mark 0) ≡ true = and_left (not (eqb x.mark 0)) (is_rows_of x.owner access) e in
      let its : access ≡ Some x.owner = rows-of x.owner access (and_right (not (eqb x.mark 0)) (is_rows_of x.owner access) e) in
      let rule = access-rule R w (x.mark - 1) x.owner its in
      (λ z. clash taken (ap not (eq-eqb x.mark 0 z)), rule.0, rule.1)

  pub open-rule-back : (x.mark ≡ 0 → ⊥) → x.mark - 1 < 64 → Allowed (relation_at R (x.mark - 1)) w x.owner → is_open_to R w x ≡ true
  unfolding is_open_to is_free_place
  open-rule-back taken low a = rw (ne_eqb x.mark 0 taken, access-rule-back R w (x.mark - 1) x.owner low a) (eq-eqb x.owner x.owner refl)

-- ---- what a read gives is the number of the data row that it names: of that relation and key, and open to the box

pub read-is-open : (w : Who) (R b : List ℕ) (r k n : ℕ) → (effect R b w (read r k)).answer ≡ Ok (Some n) → (o : ℕ) × OpenRow R w b r o k n
read-is-open w R b r k n = by (access_in R w r) refl
  where
    never : {A : Type 0} → Err Closed ≡ Ok (Some n) → A
    never q = let z : ◌≡◌ {A = ℕ} 0 1 = cc in absurd (omega arith)

    by : (a : Option ℕ) → access_in R w r ≡ a → (effect R b w (read r k)).answer ≡ Ok (Some n) → (o : ℕ) × OpenRow R w b r o k n
    by None e q = never (rw (shut R b w (read r k) e) at q)
    by (Some o) e q =
        let i = first_for b (r + 1) o k in
        ⊎_elim
        (λ h. let same : Ok (Some (data_row_at b i).number) ≡ Ok (Some n) = rw (opened R b w (read r k) o e refl, read_found b i o r k h) at q in
        let number : (data_row_at b i).number ≡ n = cc in
        (o, record { place = i; low = h; is_for = place-has b (r + 1) o k h; is_open = open-for R w r o k (data_row_at b i) e (place-has b (r + 1) o k h); says = number }))
        (λ h. never (rw (opened R b w (read r k) o e refl, read-absent b i o r k h) at q))
        (split i 1024)
