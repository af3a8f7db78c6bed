-- What a box may learn of a store (02, ask 12): two stores that differ only in what is closed to it answer it alike, and go on to differ only in that; but for the refusal 71. Assumes nothing.
use Rattle.std.specs.Prelude.{Option, Ok, Err, Some, None}
use mathlib.Core.Path.{◌≡◌, refl, sym, ap, ap₂, ◌∙◌}
use mathlib.Core.Logic.{⊎_elim}
use mathlib.Core.Bool.{Bool, true, false, false≢true, true≢false}
use mathlib.Core.List.{List, [], ◌∷◌, map}
use Prim.Native.Nat.{ℕ, ◌+◌}
use native.Mathlib.Omega.{arith}
use lib.ListN.{length}
use Rattle.typeset.proofs.Bools.{yes_or_no}
use Rattle.store.specs.declared.Who.{Who}
use Rattle.refusal.specs.declared.Refusal.TheVariants.{Closed}
use Rattle.store.specs.Words.{data_row, is_for, first_for}
use Rattle.store.specs.Access.{access_in}
use Rattle.store.specs.Operations.{Answer, StoreOperation, read, write, delete, Effect, relation_of, key_of, effect_at, effect}
use Rattle.store.specs.Agree.{numbers_for, Agree, says_full, all_answers, rows_after, has_room}
use Rattle.store.specs.Seen.{answer_seen, numbers_left}
use Rattle.store.proofs.Effects.{shut, opened}
use Rattle.store.proofs.Seen.{same-request, told, kept, made-length}

-- the refusal 71 is all that room decides
by-room : (c : StoreOperation) (f g : Bool) (l : List ℕ) → says_full (answer_seen c f l) ≡ says_full (answer_seen c g l) → (answer_seen c f l ≡ answer_seen c g l) × (numbers_left c f l ≡ numbers_left c g l)
by-room (read r k) f g [] e = (refl, refl)
by-room (read r k) f g (n ∷ l) e = (refl, refl)
by-room (write r k n) true true [] e = (refl, refl)
by-room (write r k n) true false [] e = absurd (false≢true e)
by-room (write r k n) false true [] e = absurd (true≢false e)
by-room (write r k n) false false [] e = (refl, refl)
by-room (write r k n) f g (x ∷ l) e = (refl, refl)
by-room (delete r k) f g [] e = (refl, refl)
by-room (delete r k) f g (n ∷ l) e = (refl, refl)

pub effect-length : (w : Who) (R b : List ℕ) → length b ≡ 4096 → (c : StoreOperation) → length (effect R b w c).rows ≡ 4096
effect-length w R b long c = by (access_in R w (relation_of c)) refl
  where
    by : (a : Option ℕ) → access_in R w (relation_of c) ≡ a → length (effect R b w c).rows ≡ 4096
    by None e = rw (shut R b w c e) long
    by (Some o) e = ap (λ (x : Effect). length x.rows) (opened R b w c o e refl) ∙ made-length b long o c

module _ (w : Who) (R R' b b' : List ℕ) (long : length b ≡ 4096) (long' : length b' ≡ 4096) (agree : Agree w R R' b b') (c : StoreOperation) where
  abbrev T : Effect
  T = effect R b w c

  abbrev T' : Effect
  T' = effect R' b' w c

  -- what is shown of an operation
  abbrev Alike : Type 0
  Alike = says_full T.answer ≡ says_full T'.answer → (T.answer ≡ T'.answer) × Agree w R R' T.rows T'.rows

  closed-alike : access_in R w (relation_of c) ≡ None → Alike
  closed-alike e n = rw (shut R b w c e, shut R' b' w c (sym (agree.access (relation_of c)) ∙ e)) (refl, agree)

  open-alike : (o : ℕ) → access_in R w (relation_of c) ≡ Some o → Alike
  open-alike o e n =
      let r = relation_of c in
      let k = key_of c in
      let e' : access_in R' w r ≡ Some o = sym (agree.access r) ∙ e in
      let at : T ≡ effect_at b (first_for b (r + 1) o k) o c = opened R b w c o e refl in
      let at' : T' ≡ effect_at b' (first_for b' (r + 1) o k) o c = opened R' b' w c o e' refl in
      let sees : numbers_for b (r + 1) o k ≡ numbers_for b' (r + 1) o k = agree.same r o e k in
      let t = told b long o c in
      let t' = told b' long' o c in
      let a : T.answer ≡ answer_seen c (has_room b) (numbers_for b (r + 1) o k) = ap (λ (x : Effect). x.answer) at ∙ t.0 in
      let a' : T'.answer ≡ answer_seen c (has_room b') (numbers_for b (r + 1) o k) =
      ap (λ (x : Effect). x.answer) at' ∙ t'.0 ∙ ap (answer_seen c (has_room b')) (sym sees) in
      let alike = by-room c (has_room b) (has_room b') (numbers_for b (r + 1) o k) (ap says_full (sym a) ∙ n ∙ ap says_full a') in
      let there : numbers_for T.rows (r + 1) o k ≡ numbers_for T'.rows (r + 1) o k =
      ap (λ (x : Effect). numbers_for x.rows (r + 1) o k) at ∙ t.1 ∙ alike.1 ∙ ap (numbers_left c (has_room b')) sees ∙ sym (ap (λ (x : Effect). numbers_for x.rows (r + 1) o k) at' ∙ t'.1) in
      let other-numbers-stay : (r₁ o₁ : ℕ) → access_in R w r₁ ≡ Some o₁ → (k₁ : ℕ) → is_for (r₁ + 1) o₁ k₁ (data_row (r + 1) o k 0) ≡ false
      → numbers_for T.rows (r₁ + 1) o₁ k₁ ≡ numbers_for T'.rows (r₁ + 1) o₁ k₁ =
      λ r₁ o₁ e₁ k₁ d. ap (λ (x : Effect). numbers_for x.rows (r₁ + 1) o₁ k₁) at ∙ kept b long o r₁ o₁ k₁ c d ∙ agree.same r₁ o₁ e₁ k₁
      ∙ sym (ap (λ (x : Effect). numbers_for x.rows (r₁ + 1) o₁ k₁) at' ∙ kept b' long' o r₁ o₁ k₁ c d) in (
        a ∙ alike.0 ∙ sym a',
        record {
          access = agree.access;
          same = λ r₁ o₁ e₁ k₁. ⊎_elim
              (λ d. same-request (λ m x y. numbers_for T.rows m x y ≡ numbers_for T'.rows m x y) (r + 1) o k (r₁ + 1) o₁ k₁ d there)
              (λ d. other-numbers-stay r₁ o₁ e₁ k₁ d)
              (yes_or_no (is_for (r₁ + 1) o₁ k₁ (data_row (r + 1) o k 0)));
        },
      )

  alike-by : (a : Option ℕ) → access_in R w (relation_of c) ≡ a → Alike
  alike-by None e = closed-alike e
  alike-by (Some o) e = open-alike o e

  -- ONE OPERATION: where both stores refuse it for want of room, or neither does, the answers are equal, and the stores still differ only in what is closed to the box
  pub alike-after-one : says_full T.answer ≡ says_full T'.answer → (T.answer ≡ T'.answer) × Agree w R R' T.rows T'.rows
  alike-after-one = alike-by (access_in R w (relation_of c)) refl

-- ANY OPERATIONS of a box, one after the other: where they meet the refusal 71 alike, all answers are equal. So the answers of a box are settled by what is open to it, and by which of its additions found no room
pub isolation : (w : Who) (R R' b b' : List ℕ) → length b ≡ 4096 → length b' ≡ 4096 → Agree w R R' b b' → (cs : List StoreOperation)
    → map says_full (all_answers R b w cs) ≡ map says_full (all_answers R' b' w cs)
    → (all_answers R b w cs ≡ all_answers R' b' w cs) × Agree w R R' (rows_after R b w cs) (rows_after R' b' w cs)
unfolding all_answers rows_after
isolation w R R' b b' long long' agree [] e = (refl, agree)
isolation w R R' b b' long long' agree (c ∷ cs) e =
    let first : says_full (effect R b w c).answer ≡ says_full (effect R' b' w c).answer = cc in
    let other-numbers-stay : map says_full (all_answers R (effect R b w c).rows w cs) ≡ map says_full (all_answers R' (effect R' b' w c).rows w cs) = cc in
    let one = alike-after-one w R R' b b' long long' agree c first in
    let more = isolation w R R' (effect R b w c).rows (effect R' b' w c).rows (effect-length w R b long c) (effect-length w R' b' long' c) one.1 cs other-numbers-stay in
    (ap₂ ◌∷◌ one.0 more.0, more.1)

-- ---- when 71 can be met

module _ (w : Who) (R b : List ℕ) (long : length b ≡ 4096) where
  -- the answer of an operation is 71 or not as its numbers and the room have it
  answer-by : (c : StoreOperation) (P : Answer → Type 0) → P (Err Closed) → ((o : ℕ) → access_in R w (relation_of c) ≡ Some o → P (answer_seen c (has_room b) (numbers_for b (relation_of c + 1) o (key_of c))))
      → P (effect R b w c).answer
  answer-by c P shutP openP = by (access_in R w (relation_of c)) refl
    where
      by : (a : Option ℕ) → access_in R w (relation_of c) ≡ a → P (effect R b w c).answer
      by None e = rw (shut R b w c e) shutP
      by (Some o) e = rw (opened R b w c o e refl, (told b long o c).0) (openP o e)

  -- never by a read or a delete
  pub read-never-full : (r k : ℕ) → says_full (effect R b w (read r k)).answer ≡ false
  read-never-full r k = answer-by (read r k) (λ a. says_full a ≡ false) refl (λ o e. by (numbers_for b (r + 1) o k))
    where
      by : (l : List ℕ) → says_full (answer_seen (read r k) (has_room b) l) ≡ false
      by [] = refl
      by (n ∷ l) = refl

  pub delete-never-full : (r k : ℕ) → says_full (effect R b w (delete r k)).answer ≡ false
  delete-never-full r k = answer-by (delete r k) (λ a. says_full a ≡ false) refl (λ o e. by (numbers_for b (r + 1) o k))
    where
      by : (l : List ℕ) → says_full (answer_seen (delete r k) (has_room b) l) ≡ false
      by [] = refl
      by (n ∷ l) = refl

  -- nor by a write over a row that is there: one that a read finds
  pub write-over-never-full : (r k x n : ℕ) → (effect R b w (read r k)).answer ≡ Ok (Some x) → (effect R b w (write r k n)).answer ≡ Ok None
  write-over-never-full r k x n = by (access_in R w r) refl
    where
      seen : (l : List ℕ) → answer_seen (read r k) (has_room b) l ≡ Ok (Some x) → answer_seen (write r k n) (has_room b) l ≡ Ok None
      seen [] q = let z : ◌≡◌ {A = ℕ} 0 1 = cc in absurd (omega arith)
      seen (y ∷ l) q = refl

      by : (a : Option ℕ) → access_in R w r ≡ a → (effect R b w (read r k)).answer ≡ Ok (Some x) → (effect R b w (write r k n)).answer ≡ Ok None
      by None e q = let no : Err Closed ≡ Ok (Some x) = rw (shut R b w (read r k) e) at q in let z : ◌≡◌ {A = ℕ} 0 1 = cc in absurd (omega arith)
      by (Some o) e q =
          rw (opened R b w (write r k n) o e refl, (told b long o (write r k n)).0)
          (seen (numbers_for b (r + 1) o k) (rw (opened R b w (read r k) o e refl, (told b long o (read r k)).0) at q))

-- ---- the sentences of the ask, for stores that agree; proofs/Request has them for stores that differ in what is closed

module _ (w : Who) (R R' b b' : List ℕ) (long : length b ≡ 4096) (long' : length b' ≡ 4096) (agree : Agree w R R' b b') where
  -- equal answers to reads
  pub reads-alike : (r k : ℕ) → (effect R b w (read r k)).answer ≡ (effect R' b' w (read r k)).answer
  reads-alike r k = (alike-after-one w R R' b b' long long' agree (read r k) (read-never-full w R b long r k ∙ sym (read-never-full w R' b' long' r k))).0

  -- and to writes over an existing row
  pub writes-over-alike : (r k x n : ℕ) → (effect R b w (read r k)).answer ≡ Ok (Some x) → (effect R b w (write r k n)).answer ≡ (effect R' b' w (write r k n)).answer
  writes-over-alike r k x n e = write-over-never-full w R b long r k x n e ∙ sym (write-over-never-full w R' b' long' r k x n (sym (reads-alike r k) ∙ e))

  pub deletes-alike : (r k : ℕ) → (effect R b w (delete r k)).answer ≡ (effect R' b' w (delete r k)).answer
  deletes-alike r k = (alike-after-one w R R' b b' long long' agree (delete r k) (delete-never-full w R b long r k ∙ sym (delete-never-full w R' b' long' r k))).0

  -- 71 is met alike where both stores have room, or neither has: so a box may learn of the others' rows only whether all 1,024 are held (`room-by-rows`)
  pub full-alike : has_room b ≡ has_room b' → (c : StoreOperation) → says_full (effect R b w c).answer ≡ says_full (effect R' b' w c).answer
  full-alike h c = by (access_in R w (relation_of c)) refl
    where
      by : (a : Option ℕ) → access_in R w (relation_of c) ≡ a → says_full (effect R b w c).answer ≡ says_full (effect R' b' w c).answer
      by None e = rw (shut R b w c e, shut R' b' w c (sym (agree.access (relation_of c)) ∙ e))
      by (Some o) e =
          rw (opened R b w c o e refl, opened R' b' w c o (sym (agree.access (relation_of c)) ∙ e) refl, (told b long o c).0, (told b' long' o c).0, h, agree.same (relation_of c) o e (key_of c))
