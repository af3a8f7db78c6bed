-- Numbers as bytes: what the code computes, and that reading and writing undo each other, over every width. Assumes nothing.
use Rattle.std.specs.Int.{to_be_bytes}
use mir.Syntax.{w16, w32}
use mathlib.Core.Path.{◌≡◌, refl, sym, ap, ◌∙◌}
use mathlib.Core.List.{List, [], ◌∷◌, ◌++◌}
use Prim.Native.Nat.{ℕ, zero, suc, ◌+◌, ◌-◌, ◌*◌, ◌/◌, ◌^◌, ◌≤◌, ◌<◌}
use native.Mathlib.Nat.{zero-add, sub-zero, zero-sub, suc-sub-suc}
use native.Mathlib.Numerals.{add-one}
use native.Mathlib.Omega.{arith}
use lib.ListN.{length, get_or, take, drop, set, replicate, length-replicate, length-drop}
use lib.Seq.{drop-cons, drop-drop, sets, sets-eq}
use Rattle.planbytes.specs.Numbers.{high, number_after, number, numbers}

-- ---- the bytes at a place

pub take-one : (bs : List ℕ) (at : ℕ) → at < length bs → take 1 (drop at bs) ≡ get_or bs at 0 ∷ []
take-one bs at h = rw (drop-cons bs at 0 h)

pub take-two : (bs : List ℕ) (at : ℕ) → at + 2 ≤ length bs → take 2 (drop at bs) ≡ get_or bs at 0 ∷ get_or bs (at + 1) 0 ∷ []
take-two bs at h =
    let a : at < length bs = omega arith in
    let b : suc at < length bs = omega arith in
    rw (drop-cons bs at 0 a, drop-cons bs (suc at) 0 b, add-one at)

pub take-four : (bs : List ℕ) (at : ℕ) → at + 4 ≤ length bs
    → take 4 (drop at bs) ≡ get_or bs at 0 ∷ get_or bs (at + 1) 0 ∷ get_or bs (at + 2) 0 ∷ get_or bs (at + 3) 0 ∷ []
take-four bs at h =
    let a : at < length bs = omega arith in
    let b : suc at < length bs = omega arith in
    let c : suc (suc at) < length bs = omega arith in
    let d : suc (suc (suc at)) < length bs = omega arith in
    let e₂ : at + 2 ≡ suc (suc at) = omega arith in
    let e₃ : at + 3 ≡ suc (suc (suc at)) = omega arith in
    rw (drop-cons bs at 0 a, drop-cons bs (suc at) 0 b, drop-cons bs (suc (suc at)) 0 c, drop-cons bs (suc (suc (suc at))) 0 d, add-one at, e₂, e₃)

-- ---- their numbers

pub one_at : (bs : List ℕ) (at : ℕ) → at < length bs → number (take 1 (drop at bs)) ≡ get_or bs at 0
unfolding number number_after
one_at bs at h = rw (take-one bs at h) (omega arith)

pub two_at : (bs : List ℕ) (at : ℕ) → at + 2 ≤ length bs → number (take 2 (drop at bs)) ≡ get_or bs at 0 * 256 + get_or bs (at + 1) 0
unfolding number number_after
two_at bs at h = rw (take-two bs at h) (omega arith)

pub four-at : (bs : List ℕ) (at : ℕ) → at + 4 ≤ length bs
    → number (take 4 (drop at bs)) ≡ ((get_or bs at 0 * 256 + get_or bs (at + 1) 0) * 256 + get_or bs (at + 2) 0) * 256 + get_or bs (at + 3) 0
unfolding number number_after
four-at bs at h = rw (take-four bs at h) (omega arith)

-- ---- a row of numbers, place by place

pub numbers-length : (w k : ℕ) (bs : List ℕ) → length (numbers w k bs) ≡ k
unfolding numbers
numbers-length w zero bs = refl
numbers-length w (suc k) bs = ap suc (numbers-length w k (drop w bs))

pub numbers-at : (w k : ℕ) (bs : List ℕ) (t : ℕ) → t < k → get_or (numbers w k bs) t 0 ≡ number (take w (drop (w * t) bs))
unfolding numbers
numbers-at w zero bs t h = let no : ¬ (t < 0) = λ l. omega arith in absurd (no h)
numbers-at w (suc k) bs zero h = let z : w * 0 ≡ 0 = omega arith in rw z
numbers-at w (suc k) bs (suc t) h =
    let below : t < k = omega arith in
    let e : w * suc t ≡ w + w * t = omega arith in
    numbers-at w k (drop w bs) t below ∙ rw (drop-drop (w * t) w bs, e)

-- ---- storing from a place on: the next number, and the places that none is for

pub store-next : (l xs : List ℕ) (i : ℕ) → i < length xs → sets l i (drop i xs) ≡ sets (set l i (get_or xs i 0)) (i + 1) (drop (i + 1) xs)
store-next l xs i h = rw (drop-cons xs i 0 h, add-one i)

pub store-done : (l xs : List ℕ) (i : ℕ) → length xs ≤ i → sets l i (drop i xs) ≡ l
store-done l xs i h = let e : length (drop i xs) ≡ 0 = simp length-drop (omega arith) in none l (drop i xs) i e
  where
    none : (l vs : List ℕ) (i : ℕ) → length vs ≡ 0 → sets l i vs ≡ l
    none l [] i e = refl
    none l (v ∷ vs) i e = let no : ¬ (suc (length vs) ≡ 0) = λ z. omega arith in absurd (no e)

drop-replicate : (k n a : ℕ) → drop k (replicate n a) ≡ replicate (n - k) a
drop-replicate zero n a = ap (λ (m : ℕ). replicate m a) (sym (sub-zero n))
drop-replicate (suc k) zero a = ap (λ (m : ℕ). replicate m a) (sym (zero-sub (suc k)))
drop-replicate (suc k) (suc n) a = drop-replicate k n a ∙ ap (λ (m : ℕ). replicate m a) (sym (suc-sub-suc n k))

pub stores-pad : (n : ℕ) (xs : List ℕ) → length xs ≤ n → sets (replicate n 0) 0 xs ≡ xs ++ replicate (n - length xs) 0
stores-pad n xs h =
    sets-eq xs (replicate n 0) 0 (simp (length-replicate, zero-add) h)
    ∙ ap (λ (l : List ℕ). xs ++ l) (ap (λ (k : ℕ). drop k (replicate n 0)) (zero-add (length xs)) ∙ drop-replicate (length xs) n 0)

-- a loop that stores k numbers of w bytes, which begin at a place: the next one, and what all of them leave
pub row_next : (bs : List ℕ) (at w k : ℕ) (l : List ℕ) (t : ℕ) → t < k
    → sets l t (drop t (numbers w k (drop at bs)))
    ≡ sets (set l t (number (take w (drop (at + w * t) bs)))) (t + 1) (drop (t + 1) (numbers w k (drop at bs)))
row_next bs at w k l t h =
    let below : t < length (numbers w k (drop at bs)) = rw (numbers-length w k (drop at bs)) h in
    store-next l (numbers w k (drop at bs)) t below
    ∙ ap (λ (v : ℕ). sets (set l t v) (t + 1) (drop (t + 1) (numbers w k (drop at bs))))
    (numbers-at w k (drop at bs) t h ∙ ap (λ (z : List ℕ). number (take w z)) (drop-drop (w * t) at bs))

pub row_done : (bs : List ℕ) (w k : ℕ) (l : List ℕ) → sets l k (drop k (numbers w k bs)) ≡ l
row_done bs w k l = let all : length (numbers w k bs) ≤ k = rw (numbers-length w k bs) (omega arith) in store-done l (numbers w k bs) k all

pub row-pad : (n w k : ℕ) (bs : List ℕ) → k ≤ n → sets (replicate n 0) 0 (numbers w k bs) ≡ numbers w k bs ++ replicate (n - k) 0
row-pad n w k bs h =
    let few : length (numbers w k bs) ≤ n = rw (numbers-length w k bs) h in
    stores-pad n (numbers w k bs) few ∙ ap (λ (m : ℕ). numbers w k bs ++ replicate (n - m) 0) (numbers-length w k bs)

-- ---- as Rust's own numbers give their bytes

pub be-two : (n : ℕ) → to_be_bytes w16 n ≡ high 2 n
unfolding high
be-two n = refl

pub be-four : (n : ℕ) → to_be_bytes w32 n ≡ high 4 n
unfolding high
be-four n =
    let second : n / 256 ^ 2 ≡ n / 256 / 256 = omega arith in
    let third : n / 256 ^ 3 ≡ n / 256 / 256 / 256 = omega arith in
    rw (second, third)
