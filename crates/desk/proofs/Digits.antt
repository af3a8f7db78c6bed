-- What the desk writes as a number is read as that number: `decimal` (text) against `number_from` (embedded), for any number below 10,000,000,000; all of it digits, and no zero in front. Assumes nothing.
use Prim.Native.Nat.{ℕ, zero, suc, ◌+◌, ◌-◌, ◌*◌, ◌/◌, ◌%◌, ◌≤◌, ◌<◌}
use mathlib.Core.Path.{◌≡◌, refl, sym, ◌∙◌, subst}
use mathlib.Core.Bool.{true, false}
use mathlib.Core.Logic.{⊎_elim}
use native.Mathlib.Omega.{arith}
use native.Mathlib.Nat.{mod-eq_of_lt}
use native.Mathlib.Numerals.{add-one}
use lib.Dec.{ltb}
use lib.ListN.{get_or}
use borrow.Author.Tests.{ltb-true, ltb-false, le-leb}
use Rattle.typeset.specs.Sets.{every, least}
use Rattle.typeset.proofs.Bools.{yes_or_no, and-make}
use Rattle.typeset.proofs.Below.{least-le, least-has, least-min}
use Rattle.embedded.specs.Embedded.{digit, all_digits, number_from}
use Rattle.embedded.proofs.Digits.{ten}
use Rattle.text.specs.Decimal.{tens, size, last_digits, decimal}

-- ---- one digit more, of at most ten
tens-are : (k : ℕ) → k < 10 → get_or tens k 0 ≡ ten k
unfolding tens ten
tens-are zero h = refl
tens-are (suc zero) h = refl
tens-are (suc (suc zero)) h = refl
tens-are (suc (suc (suc zero))) h = refl
tens-are (suc (suc (suc (suc zero)))) h = refl
tens-are (suc (suc (suc (suc (suc zero))))) h = refl
tens-are (suc (suc (suc (suc (suc (suc zero)))))) h = refl
tens-are (suc (suc (suc (suc (suc (suc (suc zero))))))) h = refl
tens-are (suc (suc (suc (suc (suc (suc (suc (suc zero)))))))) h = refl
tens-are (suc (suc (suc (suc (suc (suc (suc (suc (suc zero))))))))) h = refl
tens-are (suc (suc (suc (suc (suc (suc (suc (suc (suc (suc k)))))))))) h = absurd (omega (arith, h))

next : (k m n : ℕ) → k < 10 → (m * 10 + (48 + n / get_or tens k 0 % 10 - 48)) * ten k + n % ten k ≡ m * ten (suc k) + n % ten (suc k)
unfolding tens ten
next zero m n h = omega arith
next (suc zero) m n h = omega arith
next (suc (suc zero)) m n h = omega arith
next (suc (suc (suc zero))) m n h = omega arith
next (suc (suc (suc (suc zero)))) m n h = omega arith
next (suc (suc (suc (suc (suc zero))))) m n h = omega arith
next (suc (suc (suc (suc (suc (suc zero)))))) m n h = omega arith
next (suc (suc (suc (suc (suc (suc (suc zero))))))) m n h = omega arith
next (suc (suc (suc (suc (suc (suc (suc (suc zero)))))))) m n h = omega arith
next (suc (suc (suc (suc (suc (suc (suc (suc (suc zero))))))))) m n h = omega arith
next (suc (suc (suc (suc (suc (suc (suc (suc (suc (suc k)))))))))) m n h = absurd (omega (arith, h))

-- the last k digits of n, after those that wrote m
written : (k m n : ℕ) → k ≤ 10 → number_from m (last_digits k n) ≡ m * ten k + n % ten k
unfolding number_from last_digits ten
written zero m n h = omega arith
written (suc k) m n h = written k (m * 10 + (48 + n / get_or tens k 0 % 10 - 48)) n (omega (arith, h)) ∙ next k m n (omega (arith, h))

-- ---- the number of digits is right
below : (n : ℕ) → n < 10000000000 → n < ten (size n)
unfolding size ten
below n small = ⊎_elim
    (λ (e : ltb (least 9 (λ k. ltb n (get_or tens (k + 1) 0))) 9 ≡ true).
    let found = ltb-true (least 9 (λ k. ltb n (get_or tens (k + 1) 0))) 9 e in
    subst (λ (t : ℕ). n < t) (tens-are (least 9 (λ k. ltb n (get_or tens (k + 1) 0)) + 1) (omega (arith, found)))
    (ltb-true n (get_or tens (least 9 (λ k. ltb n (get_or tens (k + 1) 0)) + 1) 0) (least-has 9 (λ k. ltb n (get_or tens (k + 1) 0)) found)))
    (λ (e : ltb (least 9 (λ k. ltb n (get_or tens (k + 1) 0))) 9 ≡ false).
    let nine : least 9 (λ k. ltb n (get_or tens (k + 1) 0)) ≡ 9 = omega (arith, ltb-false (least 9 (λ k. ltb n (get_or tens (k + 1) 0))) 9 e, least-le 9 (λ k. ltb n (get_or tens (k + 1) 0))) in
    subst (λ (j : ℕ). n < ten (j + 1)) (sym nine) small)
    (yes_or_no (ltb (least 9 (λ k. ltb n (get_or tens (k + 1) 0))) 9))

size_small : (n : ℕ) → size n ≤ 10
unfolding size
size_small n = omega (arith, least-le 9 (λ k. ltb n (get_or tens (k + 1) 0)))

zero-times : (t x : ℕ) → 0 * t + x ≡ x
zero-times t x = omega arith

pub decimal-writes : (n : ℕ) → n < 10000000000 → number_from 0 (decimal n) ≡ n
unfolding decimal
decimal-writes n small = written (size n) 0 n (size_small n) ∙ zero-times (ten (size n)) (n % ten (size n)) ∙ mod-eq_of_lt (below n small)

-- ---- they are digits
one-digit : (x : ℕ) → digit (48 + x % 10) ≡ true
unfolding digit
one-digit x = and-make (le-leb 48 (48 + x % 10) (omega arith)) (le-leb (48 + x % 10) 57 (omega arith))

all_digits-last_digits : (k n : ℕ) → all_digits (last_digits k n) ≡ true
unfolding all_digits last_digits every
all_digits-last_digits zero n = refl
all_digits-last_digits (suc k) n = and-make (one-digit (n / get_or tens k 0)) (all_digits-last_digits k n)

pub decimal-digits : (n : ℕ) → all_digits (decimal n) ≡ true
unfolding decimal
decimal-digits n = all_digits-last_digits (size n) n

-- ---- and from 10 on the first is not 0
lead : (k n : ℕ) → k < 10 → get_or tens k 0 ≤ n → n < ten (suc k) → 48 < 48 + n / get_or tens k 0 % 10
unfolding tens ten
lead zero n h low high = omega arith
lead (suc zero) n h low high = omega arith
lead (suc (suc zero)) n h low high = omega arith
lead (suc (suc (suc zero))) n h low high = omega arith
lead (suc (suc (suc (suc zero)))) n h low high = omega arith
lead (suc (suc (suc (suc (suc zero))))) n h low high = omega arith
lead (suc (suc (suc (suc (suc (suc zero)))))) n h low high = omega arith
lead (suc (suc (suc (suc (suc (suc (suc zero))))))) n h low high = omega arith
lead (suc (suc (suc (suc (suc (suc (suc (suc zero)))))))) n h low high = omega arith
lead (suc (suc (suc (suc (suc (suc (suc (suc (suc zero))))))))) n h low high = omega arith
lead (suc (suc (suc (suc (suc (suc (suc (suc (suc (suc k)))))))))) n h low high = absurd (omega (arith, h))

reached : (n k : ℕ) → k ≡ least 9 (λ k. ltb n (get_or tens (k + 1) 0)) → 10 ≤ n → get_or tens k 0 ≤ n
unfolding tens
reached n zero e large = omega arith
reached n (suc k) e large = subst (λ (j : ℕ). get_or tens j 0 ≤ n) (add-one k) (ltb-false n (get_or tens (k + 1) 0) (least-min 9 (λ k. ltb n (get_or tens (k + 1) 0)) k (omega (arith, e))))

pub no-zero-in-front : (n : ℕ) → 10 ≤ n → n < 10000000000 → 48 < get_or (decimal n) 0 0
unfolding decimal size last_digits
no-zero-in-front n large small =
    let k = least 9 (λ k. ltb n (get_or tens (k + 1) 0)) in
    rw (add-one k) (lead k n (omega (arith, least-le 9 (λ k. ltb n (get_or tens (k + 1) 0)))) (reached n k refl large) (subst (λ (j : ℕ). n < ten j) (add-one k) (below n small)))
