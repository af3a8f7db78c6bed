-- That the exception is real: wherever a box may add at all, there are two stores that differ only in what is closed to it, of which one takes the row and the other has no room. Assumes nothing.
use Rattle.std.specs.Prelude.{Ok, Err, Some, None}
use mathlib.Core.Path.{◌≡◌, refl, ap, ◌∙◌}
use mathlib.Core.Logic.{inl, inr}
use mathlib.Core.Bool.{true, false}
use mathlib.Core.List.{List, []}
use Prim.Native.Nat.{ℕ, ◌+◌, ◌*◌, ◌<◌, ◌≤◌}
use native.Mathlib.Omega.{arith}
use lib.Dec.{eqb}
use lib.ListN.{length, replicate, get_or-replicate, length-replicate}
use borrow.Author.Tests.{ne_eqb, lt-ltb}
use Rattle.typeset.specs.Sets.{least}
use Rattle.typeset.proofs.Below.{least-at-most, least-none}
use Rattle.store.specs.declared.Who.{Who}
use Rattle.refusal.specs.declared.Refusal.TheVariants.{StoreFull}
use Rattle.store.specs.Words.{DataRow, data_row, data_row_at, is_for, is_free_place, first_free}
use Rattle.store.specs.Access.{access_in}
use Rattle.store.specs.Operations.{write, effect}
use Rattle.store.specs.Agree.{numbers_for, DifferInClosed, is_open_to, has_room}
use Rattle.store.proofs.Effects.{rows-below, opened}
use Rattle.store.proofs.Numbers.{gather_none}
use Rattle.store.proofs.Words.{for-free}
use Rattle.store.proofs.Seen.{told}

-- 4,096 words of one number
unfoldable pub words : ℕ → List ℕ
words x = replicate 4096 x

words-length : (x : ℕ) → length (words x) ≡ 4096
unfolding words
words-length x = length-replicate 4096 x

all : (x i : ℕ) → i < 1024 → data_row_at (words x) i ≡ data_row x x x x
unfolding words data_row_at
all x i h =
    let a = get_or-replicate 4096 (4 * i) x 0 (omega arith) in
    let b = get_or-replicate 4096 (4 * i + 1) x 0 (omega arith) in
    let c = get_or-replicate 4096 (4 * i + 2) x 0 (omega arith) in
    let d = get_or-replicate 4096 (4 * i + 3) x 0 (omega arith) in
    λ t. data_row (a t) (b t) (c t) (d t)

none : (x m o k : ℕ) → is_for m o k (data_row x x x x) ≡ false → numbers_for (words x) m o k ≡ []
unfolding numbers_for
none x m o k e = gather_none 1024 (λ i. is_for m o k (data_row_at (words x) i)) (λ i. (data_row_at (words x) i).number) (λ i h. ap (is_for m o k) (all x i h) ∙ e)

-- all places free; and 1,024 rows of a relation that is not there
roomy : has_room (words 0) ≡ true
unfolding first_free is_free_place
roomy =
    let low : least 1024 (λ i. eqb (data_row_at (words 0) i).mark 0) ≤ 0 = least-at-most 1024 (λ i. eqb (data_row_at (words 0) i).mark 0) 0 (ap (λ (y : DataRow). eqb y.mark 0) (all 0 0 (omega arith))) in
    let less : least 1024 (λ i. eqb (data_row_at (words 0) i).mark 0) < 1024 = omega arith in
    lt-ltb _ 1024 less

full : has_room (words 100) ≡ false
unfolding first_free is_free_place
full =
    let none : least 1024 (λ i. eqb (data_row_at (words 100) i).mark 0) ≡ 1024 = least-none 1024 (λ i. eqb (data_row_at (words 100) i).mark 0) (λ i h. ap (λ (y : DataRow). eqb y.mark 0) (all 100 i h)) in
    rw none

differs : (r o k : ℕ) → r < 64 → is_for (r + 1) o k (data_row 100 100 100 100) ≡ false
unfolding is_for
differs r o k low = let ne : eqb 100 (r + 1) ≡ false = ne_eqb 100 (r + 1) (λ e. omega arith) in rw ne

shut-free : (R : List ℕ) (w : Who) → is_open_to R w (data_row 0 0 0 0) ≡ false
unfolding is_open_to is_free_place
shut-free R w = refl

shut_none : (R : List ℕ) (w : Who) → is_open_to R w (data_row 100 100 100 100) ≡ false
unfolding is_open_to is_free_place access_in
shut_none R w = refl

-- THE EXCEPTION IS REAL
pub exception-is-real : (w : Who) (R : List ℕ) (r o k n : ℕ) → access_in R w r ≡ Some o
    → DifferInClosed w R R (words 0) (words 100) × ((effect R (words 0) w (write r k n)).answer ≡ Ok None) × ((effect R (words 100) w (write r k n)).answer ≡ Err StoreFull)
exception-is-real w R r o k n e =
    let low : r < 64 = rows-below R w r o e in
    let other : is_for (r + 1) o k (data_row 100 100 100 100) ≡ false = differs r o k low in (
      record { of_relations = λ q h. inl refl; of_rows = λ i h. inr (ap (is_open_to R w) (all 0 i h) ∙ shut-free R w, ap (is_open_to R w) (all 100 i h) ∙ shut_none R w) },
      rw (opened R (words 0) w (write r k n) o e refl, (told (words 0) (words-length 0) o (write r k n)).0, none 0 (r + 1) o k (for-free r o k (data_row 0 0 0 0) refl), roomy),
      rw (opened R (words 100) w (write r k n) o e refl, (told (words 100) (words-length 100) o (write r k n)).0, none 100 (r + 1) o k other, full),
    )
