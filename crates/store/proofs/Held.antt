-- Stores that differ only in rows closed to a box agree for it; there is room exactly while fewer than 1,024 rows are held, and after a delete; no row comes twice. Assumes nothing.
use Rattle.std.specs.Prelude.{Option, Ok, Err, Some, None}
use mathlib.Core.Path.{◌≡◌, refl, sym, ap, ◌∙◌}
use mathlib.Core.Logic.{⊎_elim}
use mathlib.Core.Bool.{Bool, true, false, not, ◌&&◌}
use mathlib.Core.List.{List, [], ◌∷◌}
use Prim.Native.Nat.{ℕ, zero, suc, ◌+◌, ◌-◌, ◌<◌, ◌≤◌, zero-le, suc-le-suc}
use native.Mathlib.Numerals.{add-one}
use native.Mathlib.Omega.{arith}
use lib.Dec.{eqb, ltb, eqb-suc-zero}
use lib.ListN.{length}
use borrow.Author.Tests.{eqb-true, eq-eqb, lt-ltb, le-ltb}
use Rattle.typeset.specs.Sets.{count, least}
use Rattle.typeset.proofs.Below.{least-has, least-min, least-at-most, count_less, count-ext}
use Rattle.typeset.proofs.Bools.{yes_or_no, fails, clash, and_left, and_right, not_of_false}
use Rattle.typeset.proofs.Laws.{split}
use Rattle.store.specs.declared.Who.{Who}
use Rattle.refusal.specs.declared.Refusal.TheVariants.{Closed}
use Rattle.store.specs.Words.{Relation, DataRow, data_row, no_row, data_row_at, with_row, is_for, is_free_place, first_for, first_free}
use Rattle.store.specs.Access.{access_to, access_in}
use Rattle.store.specs.Operations.{Answer, StoreOperation, read, write, delete, relation_of, key_of, effect_at, effect}
use Rattle.store.specs.Agree.{numbers_for, Agree, DifferInClosed, is_open_to, NoDoubles, rows_held, has_room}
use Rattle.store.specs.Seen.{answer_seen, numbers_left}
use Rattle.store.proofs.Words.{row-put-same}
use Rattle.store.proofs.Effects.{shut, opened, delete-found, delete-absent}
use Rattle.store.proofs.Numbers.{gather_ext}
use Rattle.store.proofs.Seen.{told, kept, same-request}
use Rattle.store.proofs.Isolation.{effect-length}

-- ---- rows that are closed

-- a row that is asked for, by a box that has access to it, is open to the box
pub open-for : (R : List ℕ) (w : Who) (r o k : ℕ) (x : DataRow) → access_in R w r ≡ Some o → is_for (r + 1) o k x ≡ true → is_open_to R w x ≡ true
unfolding is_for is_open_to is_free_place
open-for R w r o k x e f =
    let later = and_right (eqb x.mark (r + 1)) (eqb x.owner o && eqb x.key k) f in
    let mark : x.mark ≡ suc r = eqb-true x.mark (r + 1) (and_left (eqb x.mark (r + 1)) (eqb x.owner o && eqb x.key k) f) ∙ add-one r in
    let owner : x.owner ≡ o = eqb-true x.owner o (and_left (eqb x.owner o) (eqb x.key k) later) in
    let back : suc r - 1 ≡ r = omega arith in
    rw (mark, owner, eqb-suc-zero r, back, e) (eq-eqb o o refl)

module _ (w : Who) (R R' b b' : List ℕ) (d : DifferInClosed w R R' b b') where
  same-access : (r : ℕ) → access_in R w r ≡ access_in R' w r
  unfolding access_in
  same-access r =
      ⊎_elim
      (λ h. ⊎_elim (λ e. rw (lt-ltb r 64 h) (ap (λ (x : Relation). access_to x w) e)) (λ q. q.0 ∙ sym q.1) (d.of_relations r h))
      (λ h. rw (le-ltb r 64 h))
      (split r 64)

  not-asked : (S : List ℕ) (r o : ℕ) → access_in S w r ≡ Some o → (k : ℕ) (x : DataRow) → is_open_to S w x ≡ false → is_for (r + 1) o k x ≡ false
  not-asked S r o e k x q = fails (is_for (r + 1) o k x) (λ p. clash (open-for S w r o k x e p) q)

  -- STORES THAT DIFFER ONLY IN ROWS AND RELATIONS CLOSED TO A BOX agree for it
  pub closed-differ-agree : Agree w R R' b b'
  unfolding numbers_for
  closed-differ-agree = record {
    access = same-access;
    same = λ r o e k. gather_ext 1024 _ _ (λ t. (data_row_at b t).number) (λ t. (data_row_at b' t).number)
        (λ t l. ⊎_elim (ap (is_for (r + 1) o k))
        (λ q. not-asked R r o e k (data_row_at b t) q.0 ∙ sym (not-asked R' r o (sym (same-access r) ∙ e) k (data_row_at b' t) q.1)) (d.of_rows t l))
        (λ t l p. ⊎_elim (ap (λ (x : DataRow). x.number)) (λ q. absurd (clash p (not-asked R r o e k (data_row_at b t) q.0))) (d.of_rows t l));
  }

-- ---- room

count-all : (n : ℕ) → count n (λ t. true) ≡ n
unfolding count
count-all zero = refl
count-all (suc n) = let more : count n (λ t. true) ≡ n = count-all n in omega arith

-- there is room exactly while fewer than 1,024 data rows are held: so 71 can only be met where all 1,024 places are taken
pub room-by-rows : (b : List ℕ) → has_room b ≡ ltb (rows_held b) 1024
unfolding first_free rows_held
room-by-rows b = ⊎_elim some-free none_free (split (least 1024 free) 1024)
  where
    free : ℕ → Bool
    free i = is_free_place (data_row_at b i)

    some-free : least 1024 free < 1024 → ltb (least 1024 free) 1024 ≡ ltb (count 1024 (λ i. not (free i))) 1024
    some-free h =
        let less : count 1024 (λ i. not (free i)) < count 1024 (λ t. true) = count_less 1024 (λ i. not (free i)) (λ t. true) (λ t l e. refl) (least 1024 free) h (ap not (least-has 1024 free h)) refl in
        let fewer : count 1024 (λ i. not (free i)) < 1024 = rw (count-all 1024) at less in
        lt-ltb _ 1024 h ∙ sym (lt-ltb _ 1024 fewer)

    none_free : 1024 ≤ least 1024 free → ltb (least 1024 free) 1024 ≡ ltb (count 1024 (λ i. not (free i))) 1024
    none_free h =
        let all : count 1024 (λ i. not (free i)) ≡ 1024 = count-ext 1024 (λ i. not (free i)) (λ t. true) (λ t l. not_of_false (least-min 1024 free t (omega arith))) ∙ count-all 1024 in
        rw all (le-ltb _ 1024 h)

-- ---- deleted rows are used again: after a delete there is room

free-again : (b : List ℕ) → length b ≡ 4096 → (i : ℕ) → i < 1024 → has_room (with_row b i no_row) ≡ true
unfolding first_free is_free_place
free-again b long i h =
    let there : eqb (data_row_at (with_row b i no_row) i).mark 0 ≡ true = ap (λ (x : DataRow). eqb x.mark 0) (row-put-same b i no_row long h) in
    let low : least 1024 (λ t. eqb (data_row_at (with_row b i no_row) t).mark 0) ≤ i = least-at-most 1024 (λ t. eqb (data_row_at (with_row b i no_row) t).mark 0) i there in
    let less : least 1024 (λ t. eqb (data_row_at (with_row b i no_row) t).mark 0) < 1024 = omega arith in
    lt-ltb _ 1024 less

pub room-after-delete : (w : Who) (R b : List ℕ) → length b ≡ 4096 → (r k : ℕ) → (effect R b w (delete r k)).answer ≡ Ok None → has_room (effect R b w (delete r k)).rows ≡ true
room-after-delete w R b long r k = by (access_in R w r) refl
  where
    never : ◌≡◌ {A = Answer} (Err Closed) (Ok None) → ⊥
    never q = let z : ◌≡◌ {A = ℕ} 0 1 = cc in omega arith

    by : (a : Option ℕ) → access_in R w r ≡ a → (effect R b w (delete r k)).answer ≡ Ok None → has_room (effect R b w (delete r k)).rows ≡ true
    by None e q = absurd (never (rw (shut R b w (delete r k) e) at q))
    by (Some o) e q =
        let i = first_for b (r + 1) o k in
        ⊎_elim
        (λ h. rw (opened R b w (delete r k) o e refl, delete-found b i o r k h) (free-again b long i h))
        (λ h. absurd (never (rw (opened R b w (delete r k) o e refl, delete-absent b i o r k h) at q)))
        (split i 1024)

-- ---- no owner and key twice in one relation

pub no-doubles : (w : Who) (R b : List ℕ) → length b ≡ 4096 → NoDoubles b → (c : StoreOperation) → NoDoubles (effect R b w c).rows
unfolding NoDoubles
no-doubles w R b long s c r' o' k' = by (access_in R w (relation_of c)) refl
  where
    few : (l : List ℕ) → length l ≤ 1 → (c : StoreOperation) (f : Bool) → length (numbers_left c f l) ≤ 1
    few l h (read r k) f = h
    few [] h (write r k n) true = suc-le-suc zero-le
    few [] h (write r k n) false = zero-le
    few (x ∷ l) h (write r k n) f = h
    few [] h (delete r k) f = zero-le
    few (x ∷ l) h (delete r k) f = omega arith

    by : (a : Option ℕ) → access_in R w (relation_of c) ≡ a → length (numbers_for (effect R b w c).rows (r' + 1) o' k') ≤ 1
    by None e = rw (shut R b w c e) (s r' o' k')
    by (Some o) e =
        rw (opened R b w c o e refl)
        (⊎_elim
        (λ d. same-request (λ m o₁ k. length (numbers_for (effect_at b (first_for b (relation_of c + 1) o (key_of c)) o c).rows m o₁ k) ≤ 1) (relation_of c + 1) o (key_of c) (r' + 1) o' k' d
        (rw (told b long o c).1 (few (numbers_for b (relation_of c + 1) o (key_of c)) (s (relation_of c) o (key_of c)) c (has_room b))))
        (λ d. rw (kept b long o r' o' k' c d) (s r' o' k'))
        (yes_or_no (is_for (r' + 1) o' k' (data_row (relation_of c + 1) o (key_of c) 0))))

-- ---- with room, a box that may add a row adds it

pub room-adds : (w : Who) (R b : List ℕ) → length b ≡ 4096 → has_room b ≡ true → (r o k n : ℕ) → access_in R w r ≡ Some o → (effect R b w (write r k n)).answer ≡ Ok None
room-adds w R b long h r o k n e = rw (opened R b w (write r k n) o e refl, (told b long o (write r k n)).0, h) (by (numbers_for b (r + 1) o k))
  where
    by : (l : List ℕ) → answer_seen (write r k n) true l ≡ Ok None
    by [] = refl
    by (x ∷ l) = refl

-- the place of a deleted row is used again, by any box
pub add-after-delete : (w w' : Who) (R b : List ℕ) → length b ≡ 4096 → (r k r' o k' n : ℕ) → (effect R b w (delete r k)).answer ≡ Ok None → access_in R w' r' ≡ Some o
    → (effect R (effect R b w (delete r k)).rows w' (write r' k' n)).answer ≡ Ok None
add-after-delete w w' R b long r k r' o k' n q e =
    room-adds w' R (effect R b w (delete r k)).rows (effect-length w R b long (delete r k)) (room-after-delete w R b long r k q) r' o k' n e
