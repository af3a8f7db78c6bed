-- The digits of a number. Assumes nothing.
use mathlib.Core.Path.{◌≡◌, refl, sym, ap, ◌∙◌}
use mathlib.Core.Bool.{true, false}
use mathlib.Core.List.{List, ◌++◌}
use Prim.Native.Nat.{ℕ, zero, suc, ◌+◌, ◌-◌, ◌/◌, ◌%◌, ◌≤◌, ◌<◌, min}
use native.Mathlib.Numerals.{add-one}
use native.Mathlib.Omega.{arith}
use lib.Dec.{ltb}
use lib.ListN.{length, get_or, set, take, drop, replicate}
use lib.Seq.{sets, sets-eq, take_at, length-sets}
use Rattle.typeset.proofs.Below.{least-le, least-found, least-none}
use Rattle.text.specs.Decimal.{tens, size, last_digits, decimal, digits}

pub size-found : (n k : ℕ) → ((j : ℕ) → j < k → ltb n (get_or tens (j + 1) 0) ≡ false) → k < 9 → ltb n (get_or tens (k + 1) 0) ≡ true → k + 1 ≡ size n
unfolding size
size-found n k none low found = ap (λ (m : ℕ). m + 1) (sym (least-found 9 (λ k. ltb n (get_or tens (k + 1) 0)) k none low found))

pub size-ten : (n : ℕ) → ((j : ℕ) → j < 9 → ltb n (get_or tens (j + 1) 0) ≡ false) → 10 ≡ size n
unfolding size
size-ten n none = ap (λ (m : ℕ). m + 1) (sym (least-none 9 (λ k. ltb n (get_or tens (k + 1) 0)) none))

pub size_low : (n : ℕ) → (1 ≤ size n) × (size n ≤ 10)
unfolding size
size_low n = (omega arith, omega (arith, least-le 9 (λ k. ltb n (get_or tens (k + 1) 0))))

-- each of the ten counts something
pub tens-some : (k : ℕ) → k < 10 → 0 < get_or tens k 0
unfolding tens
tens-some zero h = omega arith
tens-some (suc zero) h = omega arith
tens-some (suc (suc zero)) h = omega arith
tens-some (suc (suc (suc zero))) h = omega arith
tens-some (suc (suc (suc (suc zero)))) h = omega arith
tens-some (suc (suc (suc (suc (suc zero))))) h = omega arith
tens-some (suc (suc (suc (suc (suc (suc zero)))))) h = omega arith
tens-some (suc (suc (suc (suc (suc (suc (suc zero))))))) h = omega arith
tens-some (suc (suc (suc (suc (suc (suc (suc (suc zero)))))))) h = omega arith
tens-some (suc (suc (suc (suc (suc (suc (suc (suc (suc zero))))))))) h = omega arith
tens-some (suc (suc (suc (suc (suc (suc (suc (suc (suc (suc k)))))))))) h = absurd (omega (arith, h))

pub digits_long : (k n : ℕ) → length (last_digits k n) ≡ k
unfolding last_digits
digits_long zero n = refl
digits_long (suc k) n = ap suc (digits_long k n)

pub decimal-long : (n : ℕ) → length (decimal n) ≡ size n
unfolding decimal
decimal-long n = digits_long (size n) n

-- a number has one to ten digits
pub decimal-some : (n : ℕ) → (1 ≤ length (decimal n)) × (length (decimal n) ≤ 10)
decimal-some n = rw (decimal-long n) (size_low n)

-- the loop stores the next digit, and the last ones after it
pub digit-next : (l : List ℕ) (n len i : ℕ) → i < len
    → sets l i (last_digits (len - i) n) ≡ sets (set l i (48 + n / get_or tens (len - 1 - i) 0 % 10)) (i + 1) (last_digits (len - (i + 1)) n)
unfolding last_digits
digit-next l n len i h =
    let one : len - i ≡ suc (len - (i + 1)) = omega arith in
    let same : len - 1 - i ≡ len - (i + 1) = omega arith in
    rw (one, same, add-one i)

-- the first len places are the digits
pub digits_are : (n : ℕ) → take (digits n).len (digits n).bytes ≡ decimal n
unfolding digits
digits_are n =
    let blank : List ℕ = replicate 10 0 in
    let fits : 0 + length (decimal n) ≤ length blank = omega (arith, (decimal-some n).1) in
    let front : sets blank 0 (decimal n) ≡ decimal n ++ drop (0 + length (decimal n)) blank = sets-eq (decimal n) blank 0 fits in
    ap (take (length (decimal n))) front ∙ take_at (decimal n) (drop (0 + length (decimal n)) blank) (length (decimal n)) refl

digits-size : (n : ℕ) → (digits n).len ≡ length (decimal n)
unfolding digits
digits-size n = refl

-- and so are the first of them, of which there are ten at most
pub digits_cut : (n : ℕ) → take (min (digits n).len 10) (digits n).bytes ≡ decimal n
digits_cut n =
    let low : min (digits n).len 10 ≡ (digits n).len = (let size = digits-size n in omega (arith, size, (decimal-some n).1)) in
    rw low (digits_are n)

pub digits-fit : (n : ℕ) → length (digits n).bytes ≡ 10
unfolding digits
digits-fit n = length-sets (replicate 10 0) 0 (decimal n)
