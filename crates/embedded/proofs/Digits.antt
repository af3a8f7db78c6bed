-- Digits and the numbers that they write, as the loop of `number` goes through them; and a feature code at the front of a string. Assumes nothing.
use Rattle.std.specs.Prelude.{Option, Some, None}
use mathlib.Core.Path.{◌≡◌, ap}
use mathlib.Core.Bool.{Bool, true, false, not, ◌&&◌, and-false, false≢true}
use mathlib.Core.List.{List, [], ◌∷◌}
use Prim.Native.Nat.{ℕ, zero, suc, ◌+◌, ◌-◌, ◌*◌, ◌≤◌, ◌<◌}
use native.Mathlib.Nat.{not-suc-le-zero, le_of_suc-le-suc}
use native.Mathlib.Numerals.{add-one}
use native.Mathlib.Omega.{arith}
use lib.Dec.{eqb, leb}
use lib.ListN.{length, get_or, take, drop, length-drop, get_or-eq_default}
use lib.Seq.{drop-cons, drop-length, take_all}
use borrow.Author.Tests.{leb-true}
use Rattle.typeset.proofs.Bools.{yes_or_no, clash, and_left, and_right, not-true}
use mathlib.Core.Logic.{⊎_elim}
use Rattle.typeset.proofs.Below.{every-at}
use Rattle.embedded.specs.Embedded.{digit, all_digits, number_from, coded, skipped, after_code, writes_address, embedded}

pub digit-from : (c : ℕ) → digit c ≡ true → 48 ≤ c
unfolding digit
digit-from c e = leb-true 48 c (and_left (leb 48 c) (leb c 57) e)

pub digit-to : (c : ℕ) → digit c ≡ true → c ≤ 57
unfolding digit
digit-to c e = leb-true c 57 (and_right (leb 48 c) (leb c 57) e)

pub digit_at : (l : List ℕ) (i : ℕ) → all_digits l ≡ true → i < length l → digit (get_or l i 0) ≡ true
unfolding all_digits
digit_at l i e h = every-at (length l) (λ i. digit (get_or l i 0)) e i h

-- ten times itself, i times
unfoldable pub ten : ℕ → ℕ
ten zero = 1
ten (suc i) = ten i * 10

pub ten-less : (i j : ℕ) → i ≤ j → ten i ≤ ten j
unfolding ten
ten-less zero zero h = omega arith
ten-less zero (suc j) h = omega (arith, ten-less zero j (omega arith))
ten-less (suc i) zero h = absurd (not-suc-le-zero h)
ten-less (suc i) (suc j) h = omega (arith, ten-less i j (le_of_suc-le-suc h))

-- i digits write a number below it; at most nine digits one that fits 32 bits
pub ten-eight : (n i : ℕ) → n < ten i → i < 9 → n < 100000000
unfolding ten
ten-eight n i h l = omega (arith, ten-less i 8 (omega arith))

pub ten-none : 0 < ten 0
unfolding ten
ten-none = omega arith

pub ten-next : (n i c : ℕ) → n < ten i → digit c ≡ true → number_from n (c ∷ []) < ten (i + 1)
unfolding ten number_from
ten-next n i c h e = rw (add-one i) (omega (arith, digit-to c e))

-- one digit more
pub number-next : (n i : ℕ) (l : List ℕ) → i < length l → number_from n (drop i l) ≡ number_from (number_from n (get_or l i 0 ∷ [])) (drop (i + 1) l)
unfolding number_from
number-next n i l h = rw (drop-cons l i 0 h, add-one i)

pub number-done : (n : ℕ) (l : List ℕ) → number_from n (drop (length l) l) ≡ n
unfolding number_from
number-done n l = rw (drop-length l)

-- a string of one or two has no code
pub no_code : (l : List ℕ) → length l < 3 → coded l ≡ false
unfolding coded digit
no_code l h =
    let past : get_or l 2 0 ≡ 0 = get_or-eq_default l 0 (omega arith) in
    rw past (and-false (eqb (get_or l 0 0) 42 && (leb 48 (get_or l 1 0) && leb (get_or l 1 0) 57)))

-- what is skipped is there
pub code_inside : (l : List ℕ) → skipped l ≤ length l
unfolding skipped
code_inside l =
    ⊎_elim
    (λ (e : coded l ≡ true). let long : ¬ (length l < 3) = λ h. clash e (no_code l h) in rw e (omega arith))
    (λ (e : coded l ≡ false). rw e (omega arith))
    (yes_or_no (coded l))

-- the part from k on
pub part-from : (k : ℕ) (l : List ℕ) → take (length l - k) (drop k l) ≡ drop k l
part-from k l = let whole : length (drop k l) ≤ length l - k = simp length-drop (omega arith) in take_all (length l - k) (drop k l) whole

-- ---- what is embedded is an address: 1 to 999,999,999

number-below : (n i : ℕ) (l : List ℕ) → n < ten i → ((k : ℕ) → k < length l → digit (get_or l k 0) ≡ true) → number_from n l < ten (i + length l)
unfolding number_from
number-below n i [] h d = let same : i + 0 ≡ i = omega arith in rw same h
number-below n i (c ∷ cs) h d =
    let same : i + suc (length cs) ≡ i + 1 + length cs = omega arith in
    let first : digit c ≡ true = d 0 (omega arith) in
    rw same (number-below (n * 10 + (c - 48)) (i + 1) cs (ten-next n i c h first) (λ k l. d (suc k) (omega arith)))

writes-digits : (l : List ℕ) → writes_address l ≡ true → (length l ≤ 9) × (all_digits l ≡ true) × (eqb (number_from 0 l) 0 ≡ false)
unfolding writes_address
writes-digits l e =
    let three = and_left (leb 1 (length l) && leb (length l) 9 && all_digits l) (not (eqb (number_from 0 l) 0)) e in
    let two = and_left (leb 1 (length l) && leb (length l) 9) (all_digits l) three in (
      leb-true (length l) 9 (and_right (leb 1 (length l)) (leb (length l) 9) two),
      and_right (leb 1 (length l) && leb (length l) 9) (all_digits l) three,
      not-true (eqb (number_from 0 l) 0) (and_right (leb 1 (length l) && leb (length l) 9 && all_digits l) (not (eqb (number_from 0 l) 0)) e),
    )

written-legal : (l : List ℕ) → writes_address l ≡ true → (number_from 0 l ≤ 999999999) × (eqb (number_from 0 l) 0 ≡ false)
unfolding ten
written-legal l e =
    let w = writes-digits l e in
    let low = number-below 0 0 l (omega arith) (λ k h. digit_at l k w.1 h) in
    let nine = ten-less (0 + length l) 9 (omega (arith, w.0)) in
    (omega (arith, low, nine), w.2)

abbrev somebody : Option ℕ → Bool
somebody None = false
somebody (Some a) = true

abbrev whom : Option ℕ → ℕ
whom None = 0
whom (Some a) = a

pub embedded-legal : (l : List ℕ) (a : ℕ) → embedded l ≡ Some a → (a ≤ 999999999) × (eqb a 0 ≡ false)
unfolding embedded
embedded-legal l a e =
    ⊎_elim
    (λ (w : writes_address (after_code l) ≡ true).
    let same : number_from 0 (after_code l) ≡ a = ap whom (rw w at e) in
    rw (← same) (written-legal (after_code l) w))
    (λ (w : writes_address (after_code l) ≡ false). absurd (false≢true (ap somebody (rw w at e))))
    (yes_or_no (writes_address (after_code l)))
