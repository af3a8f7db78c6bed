-- Numbers to bytes and back, over every width, and rows of numbers. Assumes nothing.
use mathlib.Core.Path.{◌≡◌, refl, sym, ap, ◌∙◌}
use mathlib.Core.List.{List, [], ◌∷◌, ◌++◌, append_assoc}
use Prim.Native.Nat.{ℕ, zero, suc, ◌+◌, ◌*◌, ◌/◌, ◌%◌, ◌^◌, ◌≤◌, ◌<◌}
use native.Mathlib.Nat.{pow-suc, div-lt_iff_lt-mul, not-suc-le-zero}
use native.Mathlib.Omega.{arith}
use lib.ListN.{length, get_or, take, drop, length-drop}
use lib.Seq.{take-suc, take_at, drop_at, take_all, take-add, length-take-le}
use Rattle.planbytes.specs.Numbers.{high, number_after, number, row, numbers, Below}
use Rattle.planbytes.proofs.Lengths.{high-length}

-- ---- each below n

pub below-append : (n : ℕ) (xs ys : List ℕ) → Below n xs → Below n ys → Below n (xs ++ ys)
unfolding Below
below-append n [] ys p q = q
below-append n (x ∷ xs) ys p q = (p.0, below-append n xs ys p.1 q)

pub below-take : (n k : ℕ) (xs : List ℕ) → Below n xs → Below n (take k xs)
unfolding Below
below-take n zero xs p = tt
below-take n (suc k) [] p = tt
below-take n (suc k) (x ∷ xs) p = (p.0, below-take n k xs p.1)

pub below-drop : (n k : ℕ) (xs : List ℕ) → Below n xs → Below n (drop k xs)
unfolding Below
below-drop n zero xs p = p
below-drop n (suc k) [] p = p
below-drop n (suc k) (x ∷ xs) p = below-drop n k xs p.1

pub below_at : (n : ℕ) (xs : List ℕ) (i : ℕ) → Below n xs → i < length xs → get_or xs i 0 < n
unfolding Below
below_at n [] i p h = absurd (not-suc-le-zero h)
below_at n (x ∷ xs) zero p h = p.0
below_at n (x ∷ xs) (suc i) p h = let l : i < length xs = omega arith in below_at n xs i p.1 l

-- ---- one number

after_last : (n : ℕ) (bs : List ℕ) (b : ℕ) → number_after n (bs ++ (b ∷ [])) ≡ number_after n bs * 256 + b
unfolding number_after
after_last n [] b = refl
after_last n (c ∷ bs) b = after_last (n * 256 + c) bs b

number-last : (bs : List ℕ) (b : ℕ) → number (bs ++ (b ∷ [])) ≡ number bs * 256 + b
unfolding number
number-last bs b = after_last 0 bs b

pub high-below : (w n : ℕ) → Below 256 (high w n)
unfolding high Below
high-below zero n = tt
high-below (suc w) n = below-append 256 (high w (n / 256)) (n % 256 ∷ []) (high-below w (n / 256)) (omega arith, tt)

number-none : number [] ≡ 0
unfolding number number_after
number-none = refl

-- a number that w bytes can hold
pub number-high : (w n : ℕ) → n < 256 ^ w → number (high w n) ≡ n
unfolding high
number-high zero n h = let e : 0 ≡ n = omega arith in number-none ∙ e
number-high (suc w) n h =
    let part : n / 256 < 256 ^ w = (div-lt_iff_lt-mul {k = 256} (omega arith)).1 (rw (pow-suc 256 w) at h) in
    number-last (high w (n / 256)) (n % 256) ∙ rw (number-high w (n / 256) part) (omega arith)

-- the bytes of the number that w bytes are
pub high-number : (w : ℕ) (bs : List ℕ) → length bs ≡ w → Below 256 bs → high w (number bs) ≡ bs
unfolding high
high-number zero [] e p = refl
high-number zero (b ∷ bs) e p = let no : ¬ (suc (length bs) ≡ 0) = λ z. omega arith in absurd (no e)
high-number (suc w) bs e p =
    let last : w < length bs = omega arith in
    let split : bs ≡ take w bs ++ (get_or bs w 0 ∷ []) = sym (take_all (suc w) bs (omega arith)) ∙ take-suc bs w 0 last in
    let byte : get_or bs w 0 < 256 = below_at 256 bs w p last in
    let value : number bs ≡ number (take w bs) * 256 + get_or bs w 0 = ap number split ∙ number-last (take w bs) (get_or bs w 0) in
    let upper : number bs / 256 ≡ number (take w bs) = omega arith in
    let lower : number bs % 256 ≡ get_or bs w 0 = omega arith in
    rw (upper, lower, high-number w (take w bs) (length-take-le w bs (omega arith)) (below-take 256 w bs p)) (sym split)

pub number_lt : (w : ℕ) (bs : List ℕ) → length bs ≡ w → Below 256 bs → number bs < 256 ^ w
number_lt zero [] e p = rw number-none (omega arith)
number_lt zero (b ∷ bs) e p = let no : ¬ (suc (length bs) ≡ 0) = λ z. omega arith in absurd (no e)
number_lt (suc w) bs e p =
    let last : w < length bs = omega arith in
    let split : bs ≡ take w bs ++ (get_or bs w 0 ∷ []) = sym (take_all (suc w) bs (omega arith)) ∙ take-suc bs w 0 last in
    let byte : get_or bs w 0 < 256 = below_at 256 bs w p last in
    let value : number bs ≡ number (take w bs) * 256 + get_or bs w 0 = ap number split ∙ number-last (take w bs) (get_or bs w 0) in
    let part : number (take w bs) < 256 ^ w = number_lt w (take w bs) (length-take-le w bs (omega arith)) (below-take 256 w bs p) in
    rw (pow-suc 256 w) (omega arith)

-- ---- rows of numbers of w bytes each

pub row_below : (w : ℕ) (ns : List ℕ) → Below 256 (row w ns)
unfolding row Below
row_below w [] = tt
row_below w (n ∷ ns) = below-append 256 (high w n) (row w ns) (high-below w n) (row_below w ns)

pub numbers-row : (w : ℕ) (ns rest : List ℕ) → Below (256 ^ w) ns → numbers w (length ns) (row w ns ++ rest) ≡ ns
unfolding row numbers Below
numbers-row w [] rest p = refl
numbers-row w (n ∷ ns) rest p =
    rw (
      append_assoc (high w n) (row w ns) rest,
      take_at (high w n) (row w ns ++ rest) w (high-length w n),
      drop_at (high w n) (row w ns ++ rest) w (high-length w n),
      number-high w n p.0,
      numbers-row w ns rest p.1,
    )

pub row-numbers : (w k : ℕ) (bs : List ℕ) → Below 256 bs → w * k ≤ length bs → row w (numbers w k bs) ≡ take (w * k) bs
unfolding row numbers
row-numbers w zero bs p h = let e : w * 0 ≡ 0 = omega arith in rw e
row-numbers w (suc k) bs p h =
    let e : w * suc k ≡ w + w * k = omega arith in
    let first : w ≤ length bs = omega arith in
    let others : w * k ≤ length (drop w bs) = rw (length-drop w bs) (omega arith) in
    rw (high-number w (take w bs) (length-take-le w bs first) (below-take 256 w bs p), row-numbers w k (drop w bs) (below-drop 256 w bs p) others, e) (sym (take-add w (w * k) bs))

pub numbers-below : (w k : ℕ) (bs : List ℕ) → Below 256 bs → w * k ≤ length bs → Below (256 ^ w) (numbers w k bs)
unfolding numbers Below
numbers-below w zero bs p h = tt
numbers-below w (suc k) bs p h =
    let e : w * suc k ≡ w + w * k = omega arith in
    let first : w ≤ length bs = omega arith in
    let others : w * k ≤ length (drop w bs) = rw (length-drop w bs) (omega arith) in
    (number_lt w (take w bs) (length-take-le w bs first) (below-take 256 w bs p), numbers-below w k (drop w bs) (below-drop 256 w bs p) others)
