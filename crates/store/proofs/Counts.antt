-- How many data rows there are after an operation; and so: of two stores with equally many data rows that differ only in what is closed to a box, the box gets the same answers, 71 included. Assumes nothing.
use Rattle.std.specs.Prelude.{Option, Some, None}
use mathlib.Core.Path.{◌≡◌, refl, sym, ap, ap₂, ◌∙◌}
use mathlib.Core.Logic.{⊎_elim}
use mathlib.Core.Bool.{Bool, true, false, not, ◌&&◌}
use mathlib.Core.List.{List, [], ◌∷◌}
use Prim.Native.Nat.{ℕ, suc, ◌+◌, ◌-◌, ◌<◌}
use native.Mathlib.Numerals.{add-one}
use native.Mathlib.Omega.{arith}
use lib.Dec.{eqb, ltb, eqb-suc-zero}
use lib.ListN.{length}
use borrow.Author.Tests.{eqb-true, lt-ltb, le-ltb}
use Rattle.typeset.specs.Sets.{count}
use Rattle.typeset.proofs.Below.{least-has, count-ext, count-but}
use Rattle.typeset.proofs.Bools.{fails, clash}
use Rattle.typeset.proofs.Laws.{split}
use Rattle.store.specs.declared.Who.{Who}
use Rattle.store.specs.Words.{DataRow, data_row, no_row, data_row_at, with_row, is_for, is_free_place, first_for, first_free}
use Rattle.store.specs.Access.{access_in}
use Rattle.store.specs.Operations.{StoreOperation, read, write, delete, relation_of, key_of, effect_at, effect}
use Rattle.store.specs.Agree.{numbers_for, Agree, rows_held, has_room, all_answers}
use Rattle.store.specs.Seen.{held_left}
use Rattle.store.proofs.Words.{row-put-same, row-put-other, for-free}
use Rattle.store.proofs.Effects.{shut, opened, read_found, read-absent, delete-found, delete-absent, write-found, write-added, write-full}
use Rattle.store.proofs.Numbers.{beside, gone, place-has, numbers-found, numbers-absent}
use Rattle.store.proofs.Isolation.{effect-length, alike-after-one, full-alike}
use Rattle.store.proofs.Held.{room-by-rows}

abbrev taken : List ℕ → ℕ → Bool
taken b t = not (is_free_place (data_row_at b t))

-- a data row x is stored at the place i
module _ (b : List ℕ) (long : length b ≡ 4096) (i : ℕ) (h : i < 1024) (x : DataRow) where
  abbrev elsewhere : List ℕ → ℕ
  elsewhere z = count 1024 (λ t. taken z t && not (eqb t i))

  same-elsewhere : elsewhere (with_row b i x) ≡ elsewhere b
  same-elsewhere = count-ext 1024 _ _ (λ t l. beside _ _ (eqb t i) (λ e. ap (λ (y : DataRow). not (is_free_place y)) (row-put-other b i x t e)))

  taken-there : (z : List ℕ) → is_free_place (data_row_at z i) ≡ false → rows_held z ≡ suc (elsewhere z)
  unfolding rows_held
  taken-there z e = count-but 1024 (taken z) i h (ap not e)

  free-there : (z : List ℕ) → is_free_place (data_row_at z i) ≡ true → rows_held z ≡ elsewhere z
  unfolding rows_held
  free-there z e = count-ext 1024 (taken z) _ (λ t l. gone (taken z t) (taken z t) (eqb t i) (λ q. ap (taken z) (eqb-true t i q) ∙ ap not e) (λ q. refl))

  now-there : is_free_place (data_row_at (with_row b i x) i) ≡ is_free_place x
  now-there = ap is_free_place (row-put-same b i x long h)

  pub held-over : is_free_place (data_row_at b i) ≡ false → is_free_place x ≡ false → rows_held (with_row b i x) ≡ rows_held b
  held-over e f = taken-there (with_row b i x) (now-there ∙ f) ∙ ap suc same-elsewhere ∙ sym (taken-there b e)

  pub held-added : is_free_place (data_row_at b i) ≡ true → is_free_place x ≡ false → rows_held (with_row b i x) ≡ suc (rows_held b)
  held-added e f = taken-there (with_row b i x) (now-there ∙ f) ∙ ap suc (same-elsewhere ∙ sym (free-there b e))

  pub held-freed : is_free_place (data_row_at b i) ≡ false → is_free_place x ≡ true → rows_held (with_row b i x) ≡ rows_held b - 1
  held-freed e f =
      let before : rows_held b ≡ suc (elsewhere b) = taken-there b e in
      let after : rows_held (with_row b i x) ≡ elsewhere b = free-there (with_row b i x) (now-there ∙ f) ∙ same-elsewhere in
      omega arith

-- a row that is asked for is no free place
asked-taken : (r o k : ℕ) (x : DataRow) → is_for (r + 1) o k x ≡ true → is_free_place x ≡ false
unfolding is_free_place
asked-taken r o k x e = fails (eqb x.mark 0) (λ f. clash e (for-free r o k x (eqb-true x.mark 0 f)))

deleted-free : is_free_place no_row ≡ true
unfolding is_free_place
deleted-free = refl

made-taken : (r o k n : ℕ) → is_free_place (data_row (r + 1) o k n) ≡ false
unfolding is_free_place
made-taken r o k n = rw (add-one r, eqb-suc-zero r)

module _ (b : List ℕ) (long : length b ≡ 4096) (o : ℕ) where
  free-is : first_free b < 1024 → is_free_place (data_row_at b (first_free b)) ≡ true
  unfolding first_free
  free-is h = least-has 1024 (λ t. is_free_place (data_row_at b t)) h

  pub told-held : (c : StoreOperation) → rows_held (effect_at b (first_for b (relation_of c + 1) o (key_of c)) o c).rows ≡ held_left c (has_room b) (numbers_for b (relation_of c + 1) o (key_of c)) (rows_held b)
  told-held (read r k) =
      let i = first_for b (r + 1) o k in
      ⊎_elim (λ h. rw (read_found b i o r k h)) (λ h. rw (read-absent b i o r k h)) (split i 1024)
  told-held (delete r k) =
      let i = first_for b (r + 1) o k in
      ⊎_elim
      (λ h. rw (delete-found b i o r k h, numbers-found b (r + 1) o k h) (held-freed b long i h no_row (asked-taken r o k (data_row_at b i) (place-has b (r + 1) o k h)) deleted-free))
      (λ h. rw (delete-absent b i o r k h, numbers-absent b (r + 1) o k h))
      (split i 1024)
  told-held (write r k n) =
      let i = first_for b (r + 1) o k in
      let f = first_free b in
      let x = data_row (r + 1) o k n in
      ⊎_elim
      (λ h. rw (write-found b i o r k n h, numbers-found b (r + 1) o k h) (held-over b long i h x (asked-taken r o k (data_row_at b i) (place-has b (r + 1) o k h)) (made-taken r o k n)))
      (λ h. ⊎_elim
      (λ l. rw (write-added b i o r k n h refl l, numbers-absent b (r + 1) o k h, lt-ltb f 1024 l) (held-added b long f l x (free-is l) (made-taken r o k n)))
      (λ l. rw (write-full b i o r k n h refl l, numbers-absent b (r + 1) o k h, le-ltb f 1024 l))
      (split f 1024))
      (split i 1024)

module _ (w : Who) (R R' b b' : List ℕ) (long : length b ≡ 4096) (long' : length b' ≡ 4096) (agree : Agree w R R' b b') (even : rows_held b ≡ rows_held b') where
  same-room : has_room b ≡ has_room b'
  same-room = room-by-rows b ∙ ap (λ (n : ℕ). ltb n 1024) even ∙ sym (room-by-rows b')

  even-after-one : (c : StoreOperation) → rows_held (effect R b w c).rows ≡ rows_held (effect R' b' w c).rows
  even-after-one c = by (access_in R w (relation_of c)) refl
    where
      by : (a : Option ℕ) → access_in R w (relation_of c) ≡ a → rows_held (effect R b w c).rows ≡ rows_held (effect R' b' w c).rows
      by None e = rw (shut R b w c e, shut R' b' w c (sym (agree.access (relation_of c)) ∙ e)) even
      by (Some o) e =
          rw (opened R b w c o e refl, opened R' b' w c o (sym (agree.access (relation_of c)) ∙ e) refl, told-held b long o c, told-held b' long' o c, same-room, agree.same (relation_of c) o e (key_of c), even)

-- 71 TELLS HOW MANY ROWS THERE ARE, AND NOTHING ELSE: with equally many data rows, stores that agree for a box give it equal answers, whatever it does
pub alike-with-as-many : (w : Who) (R R' b b' : List ℕ) → length b ≡ 4096 → length b' ≡ 4096 → Agree w R R' b b' → rows_held b ≡ rows_held b' → (cs : List StoreOperation)
    → all_answers R b w cs ≡ all_answers R' b' w cs
unfolding all_answers
alike-with-as-many w R R' b b' long long' agree even [] = refl
alike-with-as-many w R R' b b' long long' agree even (c ∷ cs) =
    let one = alike-after-one w R R' b b' long long' agree c (full-alike w R R' b b' long long' agree (same-room w R R' b b' long long' agree even) c) in
    let more = alike-with-as-many w R R' (effect R b w c).rows (effect R' b' w c).rows (effect-length w R b long c) (effect-length w R' b' long' c) one.1 (even-after-one w R R' b b' long long' agree even c) cs in
    ap₂ ◌∷◌ one.0 more
