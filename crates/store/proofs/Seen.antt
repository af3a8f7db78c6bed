-- An operation is answered by the numbers of its row and by whether there is room, and changes the numbers of its row alone. Assumes nothing.
use mathlib.Core.Path.{◌≡◌, refl, ap, ◌∙◌}
use mathlib.Core.Logic.{⊎_elim}
use mathlib.Core.Bool.{true, false, ◌&&◌}
use mathlib.Core.List.{List, ◌∷◌}
use Prim.Native.Nat.{ℕ, ◌+◌, ◌<◌}
use native.Mathlib.Omega.{arith}
use lib.Dec.{eqb}
use lib.ListN.{length}
use borrow.Author.Tests.{eqb-true, eq-eqb, lt-ltb, le-ltb}
use Rattle.typeset.proofs.Below.{least-has}
use Rattle.typeset.proofs.Bools.{and_left, and_right}
use Rattle.typeset.proofs.Laws.{split}
use Rattle.store.specs.Words.{DataRow, data_row, no_row, data_row_at, is_for, is_free_place, first_for, first_free}
use Rattle.store.specs.Operations.{StoreOperation, read, write, delete, Effect, relation_of, key_of, effect_at}
use Rattle.store.specs.Agree.{numbers_for, has_room}
use Rattle.store.specs.Seen.{answer_seen, numbers_left}
use Rattle.store.proofs.Words.{put-length, for-free}
use Rattle.store.proofs.Effects.{read_found, read-absent, delete-found, delete-absent, write-found, write-added, write-full}
use Rattle.store.proofs.Numbers.{place-has, place-min, numbers-found, numbers-absent, rest-absent, put_first, put-gone, put_other}

-- ---- rows that are asked for

-- the row that is asked for
for-itself : (m o k n : ℕ) → is_for m o k (data_row m o k n) ≡ true
unfolding is_for
for-itself m o k n = rw (eq-eqb m m refl, eq-eqb o o refl, eq-eqb k k refl)

-- what another request makes of it
for-another : (m o k : ℕ) (x : DataRow) (m' o' k' n : ℕ) → is_for m o k x ≡ true → is_for m' o' k' x ≡ is_for m' o' k' (data_row m o k n)
unfolding is_for
for-another m o k x m' o' k' n e =
    let rest = and_right (eqb x.mark m) (eqb x.owner o && eqb x.key k) e in
    let mark : x.mark ≡ m = eqb-true x.mark m (and_left (eqb x.mark m) (eqb x.owner o && eqb x.key k) e) in
    let owner : x.owner ≡ o = eqb-true x.owner o (and_left (eqb x.owner o) (eqb x.key k) rest) in
    let key : x.key ≡ k = eqb-true x.key k (and_right (eqb x.owner o) (eqb x.key k) rest) in
    rw (mark, owner, key)

-- two requests that ask for one row are the same
pub same-request : (P : ℕ → ℕ → ℕ → Type 0) (m o k m' o' k' : ℕ) → is_for m' o' k' (data_row m o k 0) ≡ true → P m o k → P m' o' k'
unfolding is_for
same-request P m o k m' o' k' d p =
    let later = and_right (eqb m m') (eqb o o' && eqb k k') d in
    let em : m ≡ m' = eqb-true m m' (and_left (eqb m m') (eqb o o' && eqb k k') d) in
    let eo : o ≡ o' = eqb-true o o' (and_left (eqb o o') (eqb k k') later) in
    let ek : k ≡ k' = eqb-true k k' (and_right (eqb o o') (eqb k k') later) in
    rw (← em, ← eo, ← ek) p

free-mark : (b : List ℕ) → first_free b < 1024 → (data_row_at b (first_free b)).mark ≡ 0
unfolding first_free is_free_place
free-mark b h = eqb-true _ 0 (least-has 1024 (λ t. is_free_place (data_row_at b t)) h)

-- ---- an operation

module _ (b : List ℕ) (long : length b ≡ 4096) (o : ℕ) where
  -- the effect, by the place of its row
  abbrev made : StoreOperation → Effect
  made c = effect_at b (first_for b (relation_of c + 1) o (key_of c)) o c

  abbrev seen : StoreOperation → List ℕ
  seen c = numbers_for b (relation_of c + 1) o (key_of c)

  -- the answer, and the numbers then there for the row
  abbrev Told : StoreOperation → Type 0
  Told c = ((made c).answer ≡ answer_seen c (has_room b) (seen c)) × (numbers_for (made c).rows (relation_of c + 1) o (key_of c) ≡ numbers_left c (has_room b) (seen c))

  told-read : (r k : ℕ) → Told (read r k)
  told-read r k =
      let i = first_for b (r + 1) o k in
      ⊎_elim
      (λ h. rw (read_found b i o r k h, numbers-found b (r + 1) o k h) (refl, refl))
      (λ h. rw (read-absent b i o r k h, numbers-absent b (r + 1) o k h) (refl, refl))
      (split i 1024)

  told-delete : (r k : ℕ) → Told (delete r k)
  told-delete r k =
      let i = first_for b (r + 1) o k in
      ⊎_elim
      (λ h. rw (delete-found b i o r k h, numbers-found b (r + 1) o k h) (refl, put-gone b long i h no_row (r + 1) o k (for-free r o k no_row refl)))
      (λ h. rw (delete-absent b i o r k h, numbers-absent b (r + 1) o k h) (refl, refl))
      (split i 1024)

  told-write : (r k n : ℕ) → Told (write r k n)
  told-write r k n =
      let i = first_for b (r + 1) o k in
      let f = first_free b in
      let x = data_row (r + 1) o k n in
      ⊎_elim
      (λ h. rw (write-found b i o r k n h, numbers-found b (r + 1) o k h) (refl, put_first b long i h x (r + 1) o k (for-itself (r + 1) o k n) (place-min b (r + 1) o k)))
      (λ h. ⊎_elim
      (λ l. rw (write-added b i o r k n h refl l, numbers-absent b (r + 1) o k h, lt-ltb f 1024 l)
      (refl, put_first b long f l x (r + 1) o k (for-itself (r + 1) o k n) (λ t q. place-min b (r + 1) o k t (omega arith)) ∙ ap (λ (l : List ℕ). n ∷ l) (rest-absent b (r + 1) o k f h)))
      (λ l. rw (write-full b i o r k n h refl l, numbers-absent b (r + 1) o k h, le-ltb f 1024 l) (refl, refl))
      (split f 1024))
      (split i 1024)

  pub told : (c : StoreOperation) → Told c
  told (read r k) = told-read r k
  told (write r k n) = told-write r k n
  told (delete r k) = told-delete r k

  -- another row
  module _ (r' o' k' : ℕ) where
    abbrev Kept : StoreOperation → Type 0
    Kept c = numbers_for (made c).rows (r' + 1) o' k' ≡ numbers_for b (r' + 1) o' k'

    -- the row at i is not asked for
    here : (m k : ℕ) → is_for (r' + 1) o' k' (data_row m o k 0) ≡ false → first_for b m o k < 1024 → is_for (r' + 1) o' k' (data_row_at b (first_for b m o k)) ≡ false
    here m k d h = for-another m o k (data_row_at b (first_for b m o k)) (r' + 1) o' k' 0 (place-has b m o k h) ∙ d

    kept-write : (r k n : ℕ) → is_for (r' + 1) o' k' (data_row (r + 1) o k 0) ≡ false → Kept (write r k n)
    kept-write r k n d =
        let i = first_for b (r + 1) o k in
        let f = first_free b in
        let x = data_row (r + 1) o k n in
        let d' : is_for (r' + 1) o' k' x ≡ false = for-another (r + 1) o k x (r' + 1) o' k' 0 (for-itself (r + 1) o k n) ∙ d in
        ⊎_elim
        (λ h. rw (write-found b i o r k n h) (put_other b long i h x (r' + 1) o' k' (here (r + 1) k d h) d'))
        (λ h. ⊎_elim
        (λ l. rw (write-added b i o r k n h refl l) (put_other b long f l x (r' + 1) o' k' (for-free r' o' k' (data_row_at b f) (free-mark b l)) d'))
        (λ l. rw (write-full b i o r k n h refl l))
        (split f 1024))
        (split i 1024)

    kept-delete : (r k : ℕ) → is_for (r' + 1) o' k' (data_row (r + 1) o k 0) ≡ false → Kept (delete r k)
    kept-delete r k d =
        let i = first_for b (r + 1) o k in
        ⊎_elim
        (λ h. rw (delete-found b i o r k h) (put_other b long i h no_row (r' + 1) o' k' (here (r + 1) k d h) (for-free r' o' k' no_row refl)))
        (λ h. rw (delete-absent b i o r k h))
        (split i 1024)

    kept_read : (r k : ℕ) → Kept (read r k)
    kept_read r k =
        let i = first_for b (r + 1) o k in
        ⊎_elim (λ h. rw (read_found b i o r k h)) (λ h. rw (read-absent b i o r k h)) (split i 1024)

    pub kept : (c : StoreOperation) → is_for (r' + 1) o' k' (data_row (relation_of c + 1) o (key_of c) 0) ≡ false → Kept c
    kept (read r k) d = kept_read r k
    kept (write r k n) d = kept-write r k n d
    kept (delete r k) d = kept-delete r k d

  -- the words are as many
  pub made-length : (c : StoreOperation) → length (made c).rows ≡ 4096
  made-length (read r k) =
      let i = first_for b (r + 1) o k in
      ⊎_elim (λ h. rw (read_found b i o r k h) long) (λ h. rw (read-absent b i o r k h) long) (split i 1024)
  made-length (delete r k) =
      let i = first_for b (r + 1) o k in
      ⊎_elim (λ h. rw (delete-found b i o r k h) (put-length b i no_row ∙ long)) (λ h. rw (delete-absent b i o r k h) long) (split i 1024)
  made-length (write r k n) =
      let i = first_for b (r + 1) o k in
      let f = first_free b in
      let x = data_row (r + 1) o k n in
      ⊎_elim
      (λ h. rw (write-found b i o r k n h) (put-length b i x ∙ long))
      (λ h. ⊎_elim (λ l. rw (write-added b i o r k n h refl l) (put-length b f x ∙ long)) (λ l. rw (write-full b i o r k n h refl l) long) (split f 1024))
      (split i 1024)
