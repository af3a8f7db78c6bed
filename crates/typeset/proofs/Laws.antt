-- What is in a set: the laws of `has` (`Sets.antt`) under the operations of numbers, and those of `without`, `within`, `lowest` and `size`.
-- A caller's proof goes by these laws and not by the definitions' text. Assumes nothing.
use mathlib.Core.Path.{◌≡◌, refl, sym, ap, ap₂, ◌∙◌, fun_ext}
use mathlib.Core.Logic.{◌⊎◌, inl, inr, ⊎_elim, ◌↔◌}
use mathlib.Core.Bool.{Bool, true, false, not, ◌&&◌, ◌||◌, and-true, true≢false, false≢true}
use Prim.Native.Nat.{ℕ, zero, suc, ◌+◌, ◌-◌, ◌*◌, ◌/◌, ◌%◌, ◌^◌, ◌≤◌, ◌<◌, suc-le-suc, min, max}
use native.Mathlib.Nat.{le_of_suc-le-suc, not-suc-le-zero, zero-lt-suc, lt_irrefl, lt_of_lt_of_le, div-one, zero-div, div-eq_of_lt, mod-lt, mod-eq_of_lt, one-mul, lt_of_le_of_lt}
use native.Mathlib.Numerals.{one-add}
use native.Mathlib.Omega.{arith}
use lib.Dec.{ltb, eqb, eqb-zero-suc, eqb-suc-zero, eqb-suc-suc, lit<}
use lib.Arith.{digits_mod, lt-one}
use lib.Pow.{pow_mono, pow-lt, shr-shr, shl-shr}
use lib.Bits.{bit_and, bit_or, and_step, or_step, and_shr, or_shr, and_lt, and_le_l, or_lt, shifted_half, shifted_even}
use lib.Count.{ones, ones_step, count_trailing_zeros, under}
use borrow.Author.Tests.{eqb-true, eq-eqb, ne_eqb, ltb-true, ltb-false}
use Rattle.typeset.specs.Sets.{has, digit, first_of, least, count, set_of, without, within, lowest, size, join, meet, minus, every, implies, same}
use Rattle.typeset.proofs.Bools.{yes_or_no, clash, fails, both_ways, and_right, imp-at, imp-of}
use Rattle.typeset.proofs.Below.{every-at, every_of, least-le, least-has, least-at-most, count-le, count-ext, count-mono, count_less, count-but, count_none, count-pos, count-zero-at, set_of-lt}

two_pos : 0 < 2
two_pos = zero-lt-suc 1

-- ---- bit by bit: the lowest, and the rest

pub has_first : (s : ℕ) → has 0 s ≡ eqb (s % 2) 1
unfolding has
has_first s = ap (λ (x : ℕ). eqb (x % 2) 1) (div-one s)

pub has-later : (t s : ℕ) → has (suc t) s ≡ has t (s / 2)
unfolding has
has-later t s = ap (λ (x : ℕ). eqb (x % 2) 1) (ap (λ (k : ℕ). s / 2 ^ k) (sym (one-add t)) ∙ sym (shr-shr s 1 t))

-- ---- the empty set, and past the end of a set

pub has-empty : (t : ℕ) → has t 0 ≡ false
unfolding has
has-empty t = ap (λ (x : ℕ). eqb (x % 2) 1) (zero-div (2 ^ t))

pub has-past : {s : ℕ} (n t : ℕ) → s < 2 ^ n → n ≤ t → has t s ≡ false
unfolding has
has-past n t h l = ap (λ (x : ℕ). eqb (x % 2) 1) (div-eq_of_lt (lt_of_lt_of_le h (pow_mono l)))

-- what a set has is below its width
pub has-below : {s : ℕ} (n t : ℕ) → s < 2 ^ n → has t s ≡ true → t < n
has-below {s} n t h e = let past : ¬ (n ≤ t) = λ l. clash e (has-past n t h l) in omega arith

-- ---- two sets with the same members are equal

bit-eq : (x y : ℕ) → x < 2 → y < 2 → eqb x 1 ≡ eqb y 1 → x ≡ y
bit-eq zero zero h l e = refl
bit-eq zero (suc zero) h l e = absurd (false≢true e)
bit-eq (suc zero) zero h l e = absurd (true≢false e)
bit-eq (suc zero) (suc zero) h l e = refl
bit-eq zero (suc (suc y)) h l e = absurd (not-suc-le-zero (le_of_suc-le-suc (le_of_suc-le-suc l)))
bit-eq (suc zero) (suc (suc y)) h l e = absurd (not-suc-le-zero (le_of_suc-le-suc (le_of_suc-le-suc l)))
bit-eq (suc (suc x)) y h l e = absurd (not-suc-le-zero (le_of_suc-le-suc (le_of_suc-le-suc h)))

pub has-ext : (n a b : ℕ) → a < 2 ^ n → b < 2 ^ n → ((t : ℕ) → t < n → has t a ≡ has t b) → a ≡ b
has-ext zero a b ha hb f = omega arith
has-ext (suc n) a b ha hb f =
    let low : a % 2 ≡ b % 2 =
    bit-eq (a % 2) (b % 2) (mod-lt a two_pos) (mod-lt b two_pos) (sym (has_first a) ∙ f 0 (zero-lt-suc n) ∙ has_first b) in
    let rest : a / 2 ≡ b / 2 =
    has-ext n (a / 2) (b / 2) (omega arith) (omega arith)
    (λ t h. sym (has-later t a) ∙ f (suc t) (suc-le-suc h) ∙ has-later t b) in
    omega arith

-- ---- set_of

digit-bit : (b : Bool) (k : ℕ) → eqb ((k * 2 + digit b) % 2) 1 ≡ b
digit-bit true k = ap (λ (x : ℕ). eqb x 1) (digits_mod k (lit< tt))
digit-bit false k = ap (λ (x : ℕ). eqb x 1) (digits_mod k (lit< tt))

digit-half : (b : Bool) (k : ℕ) → (k * 2 + digit b) / 2 ≡ k
digit-half true k = omega arith
digit-half false k = omega arith

pub has-set_of : (n : ℕ) (p : ℕ → Bool) (t : ℕ) → t < n → has t (set_of n p) ≡ p t
unfolding set_of
has-set_of zero p t h = absurd (not-suc-le-zero h)
has-set_of (suc n) p zero h = has_first _ ∙ digit-bit (p 0) (set_of n (λ t. p (suc t)))
has-set_of (suc n) p (suc t) h =
    has-later t _ ∙ ap (has t) (digit-half (p 0) (set_of n (λ t. p (suc t)))) ∙ has-set_of n (λ t. p (suc t)) t (le_of_suc-le-suc h)

-- ---- the operations of numbers, for any two-bit operation f that the truth values' g follows
module _ (op : ℕ → ℕ → ℕ) (f : ℕ → ℕ → ℕ) (g : Bool → Bool → Bool)
    (half : (a b : ℕ) → op a b / 2 ≡ op (a / 2) (b / 2)) (low : (a b : ℕ) → op a b % 2 ≡ f (a % 2) (b % 2))
    (bit : (x y : ℕ) → x < 2 → y < 2 → eqb (f x y) 1 ≡ g (eqb x 1) (eqb y 1)) where
  has-op : (t a b : ℕ) → has t (op a b) ≡ g (has t a) (has t b)
  has-op zero a b =
      has_first (op a b) ∙ ap (λ (x : ℕ). eqb x 1) (low a b) ∙ bit (a % 2) (b % 2) (mod-lt a two_pos) (mod-lt b two_pos)
      ∙ ap₂ g (sym (has_first a)) (sym (has_first b))
  has-op (suc t) a b =
      has-later t (op a b) ∙ ap (has t) (half a b) ∙ has-op t (a / 2) (b / 2) ∙ ap₂ g (sym (has-later t a)) (sym (has-later t b))

and-bit : (x y : ℕ) → x < 2 → y < 2 → eqb (min x y) 1 ≡ (eqb x 1 && eqb y 1)
and-bit zero zero h l = refl
and-bit zero (suc zero) h l = refl
and-bit (suc zero) zero h l = refl
and-bit (suc zero) (suc zero) h l = refl
and-bit zero (suc (suc y)) h l = absurd (not-suc-le-zero (le_of_suc-le-suc (le_of_suc-le-suc l)))
and-bit (suc zero) (suc (suc y)) h l = absurd (not-suc-le-zero (le_of_suc-le-suc (le_of_suc-le-suc l)))
and-bit (suc (suc x)) y h l = absurd (not-suc-le-zero (le_of_suc-le-suc (le_of_suc-le-suc h)))

or-bit : (x y : ℕ) → x < 2 → y < 2 → eqb (max x y) 1 ≡ (eqb x 1 || eqb y 1)
or-bit zero zero h l = refl
or-bit zero (suc zero) h l = refl
or-bit (suc zero) zero h l = refl
or-bit (suc zero) (suc zero) h l = refl
or-bit zero (suc (suc y)) h l = absurd (not-suc-le-zero (le_of_suc-le-suc (le_of_suc-le-suc l)))
or-bit (suc zero) (suc (suc y)) h l = absurd (not-suc-le-zero (le_of_suc-le-suc (le_of_suc-le-suc l)))
or-bit (suc (suc x)) y h l = absurd (not-suc-le-zero (le_of_suc-le-suc (le_of_suc-le-suc h)))

and_low : (a b : ℕ) → bit_and a b % 2 ≡ min (a % 2) (b % 2)
and_low a b = omega (arith, and_step a b)

or-low : (a b : ℕ) → bit_or a b % 2 ≡ max (a % 2) (b % 2)
or-low a b = omega (arith, or_step a b)

pub has-and : (t a b : ℕ) → has t (bit_and a b) ≡ (has t a && has t b)
has-and = has-op bit_and min ◌&&◌ (λ a b. and_shr a b 1) and_low and-bit

pub has-or : (t a b : ℕ) → has t (bit_or a b) ≡ (has t a || has t b)
has-or = has-op bit_or max ◌||◌ (λ a b. or_shr a b 1) or-low or-bit

-- the complement in n bits, as `!s` computes it
not-bit : (x y : ℕ) → x + y ≡ 1 → eqb x 1 ≡ not (eqb y 1)
not-bit zero zero e = absurd (omega arith)
not-bit zero (suc zero) e = refl
not-bit (suc zero) zero e = refl
not-bit zero (suc (suc y)) e = absurd (omega arith)
not-bit (suc zero) (suc y) e = absurd (omega arith)
not-bit (suc (suc x)) y e = absurd (omega arith)

pub has-not : (n t s : ℕ) → s < 2 ^ n → t < n → has t ((2 ^ n - 1) - s) ≡ not (has t s)
has-not zero t s h l = absurd (not-suc-le-zero l)
has-not (suc n) zero s h l =
    has_first _ ∙ not-bit (((2 ^ suc n - 1) - s) % 2) (s % 2) (omega arith) ∙ ap not (sym (has_first s))
has-not (suc n) (suc t) s h l =
    let half : ((2 ^ suc n - 1) - s) / 2 ≡ (2 ^ n - 1) - s / 2 = omega arith in
    has-later t _ ∙ ap (has t) half ∙ has-not n t (s / 2) (omega arith) (le_of_suc-le-suc l) ∙ ap not (sym (has-later t s))

-- one type alone, as `1 << u` computes it
pub has_one : (t u : ℕ) → has t (2 ^ u) ≡ eqb t u
unfolding has
has_one zero zero = refl
has_one zero (suc u) =
    let even : 2 ^ suc u % 2 ≡ 0 = omega arith in
    has_first (2 ^ suc u) ∙ ap (λ (x : ℕ). eqb x 1) even ∙ sym (eqb-zero-suc u)
has_one (suc t) zero = has-later t 1 ∙ has-empty t ∙ sym (eqb-suc-zero t)
has_one (suc t) (suc u) =
    let half : 2 ^ suc u / 2 ≡ 2 ^ u = omega arith in
    has-later t (2 ^ suc u) ∙ ap (has t) half ∙ has_one t u ∙ sym (eqb-suc-suc t u)

-- ---- without

-- t is below n, or not
pub split : (t n : ℕ) → (t < n) ⊎ (n ≤ t)
split t n = ⊎_elim (λ e. inl (ltb-true t n e)) (λ e. inr (ltb-false t n e)) (yes_or_no (ltb t n))

pub without-lt : (s t : ℕ) → without s t < 2 ^ 32
unfolding without
without-lt s t = set_of-lt 32 _

pub has-without-at : (s t u : ℕ) → u < 32 → has u (without s t) ≡ (has u s && not (eqb u t))
unfolding without
has-without-at s t u l = has-set_of 32 _ u l

pub has-without : {s : ℕ} (t u : ℕ) → s < 2 ^ 32 → has u (without s t) ≡ (has u s && not (eqb u t))
unfolding without
has-without {s} t u h =
    ⊎_elim (λ l. has-set_of 32 _ u l)
    (λ l. has-past 32 u (set_of-lt 32 _) l ∙ ap (λ (b : Bool). b && not (eqb u t)) (sym (has-past 32 u h l)))
    (split u 32)

pub without-past : {s : ℕ} (t : ℕ) → s < 2 ^ 32 → 32 ≤ t → without s t ≡ s
without-past {s} t h l =
    has-ext 32 (without s t) s (without-lt s t) h
    (λ u lu. has-without t u h ∙ rw (ne_eqb u t (omega arith)) (and-true (has u s)))

-- `s & !(1 << t)`
pub without-code : {s : ℕ} (t : ℕ) → s < 2 ^ 32 → t < 32 → bit_and s ((2 ^ 32 - 1) - (1 * 2 ^ t) % 2 ^ 32) ≡ without s t
without-code {s} t h l =
    let one : (1 * 2 ^ t) % 2 ^ 32 ≡ 2 ^ t = ap (λ (x : ℕ). x % 2 ^ 32) (one-mul (2 ^ t)) ∙ mod-eq_of_lt (pow-lt l) in
    has-ext 32 _ (without s t) (and_lt 32 s _ h (omega arith)) (without-lt s t)
    (λ u lu. has-and u s _ ∙ ap (λ (x : ℕ). has u s && has u ((2 ^ 32 - 1) - x)) one
    ∙ ap (λ (b : Bool). has u s && b) (has-not 32 u (2 ^ t) (pow-lt l) lu ∙ ap not (has_one u t))
    ∙ sym (has-without t u h))

-- ---- within

pub within-at : {a : ℕ} (b : ℕ) → a < 2 ^ 32 → within a b ≡ true → (t : ℕ) → has t a ≡ true → has t b ≡ true
unfolding within
within-at {a} b h e t m = imp-at (has t a) (has t b) (every-at 32 _ e t (has-below 32 t h m)) m

-- the same of a type below 32, for any number a
pub within-below : (a b : ℕ) → within a b ≡ true → (t : ℕ) → t < 32 → has t a ≡ true → has t b ≡ true
unfolding within
within-below a b e t l m = imp-at (has t a) (has t b) (every-at 32 _ e t l) m

pub within_of : (a b : ℕ) → ((t : ℕ) → t < 32 → has t a ≡ true → has t b ≡ true) → within a b ≡ true
unfolding within
within_of a b f = every_of 32 _ (λ t h. imp-of (has t a) (has t b) (f t h))

and-absorbs : (a b : Bool) → (a ≡ true → b ≡ true) → (a && b) ≡ a
and-absorbs true b f = f refl
and-absorbs false b f = refl

-- `a & b == a`
pub within-code : {a : ℕ} (b : ℕ) → a < 2 ^ 32 → eqb (bit_and a b) a ≡ within a b
within-code {a} b h =
    both_ways (eqb (bit_and a b) a) (within a b)
    (λ e. within_of a b (λ t l m. and_right (has t a) (has t b) (sym (has-and t a b) ∙ ap (has t) (eqb-true (bit_and a b) a e) ∙ m)))
    (λ e. eq-eqb (bit_and a b) a (has-ext 32 (bit_and a b) a (lt_of_le_of_lt (and_le_l a b) h) h
    (λ t l. has-and t a b ∙ and-absorbs (has t a) (has t b) (within-at b h e t))))

-- ---- lowest

under_first : (d k : ℕ) → d < 2 → under d k ≡ first_of (eqb d 1) k
under_first zero k h = refl
under_first (suc zero) k h = refl
under_first (suc (suc d)) k h = absurd (not-suc-le-zero (le_of_suc-le-suc (le_of_suc-le-suc h)))

trailing-least : (n s : ℕ) → count_trailing_zeros n s ≡ least n (λ t. has t s)
unfolding count_trailing_zeros least
trailing-least zero s = refl
trailing-least (suc n) s =
    under_first (s % 2) (count_trailing_zeros n (s / 2)) (mod-lt s two_pos)
    ∙ ap₂ first_of (sym (has_first s)) (trailing-least n (s / 2) ∙ ap (least n) (fun_ext (λ t. sym (has-later t s))))

-- `trailing_zeros`
pub lowest-code : (s : ℕ) → count_trailing_zeros 32 s ≡ lowest s
unfolding lowest
lowest-code s = trailing-least 32 s

pub lowest-le : (s : ℕ) → lowest s ≤ 32
unfolding lowest
lowest-le s = least-le 32 _

-- the lowest type is in the set, if there is one
pub lowest-has : (s : ℕ) → lowest s < 32 → has (lowest s) s ≡ true
unfolding lowest
lowest-has s h = least-has 32 (λ t. has t s) h

-- and no type of the set is lower
pub lowest-min : (s t : ℕ) → has t s ≡ true → lowest s ≤ t
unfolding lowest
lowest-min s t e = least-at-most 32 (λ t. has t s) t e

-- ---- the empty set, and size

pub empty_of : {s : ℕ} → s < 2 ^ 32 → ((t : ℕ) → t < 32 → has t s ≡ false) → s ≡ 0
empty_of {s} h f = has-ext 32 s 0 h (lit< tt) (λ t l. f t l ∙ sym (has-empty t))

-- a set that is not empty has a lowest type
pub lowest-lt : {s : ℕ} → s < 2 ^ 32 → ¬ (s ≡ 0) → lowest s < 32
lowest-lt {s} h ne =
    ⊎_elim (λ l. l)
    (λ (l : 32 ≤ lowest s). absurd (ne (empty_of h (λ t k. fails (has t s) (λ e. lt_irrefl 32 (lt_of_le_of_lt l (lt_of_le_of_lt (lowest-min s t e) k)))))))
    (split (lowest s) 32)

bit-digit : (x : ℕ) → x < 2 → x ≡ digit (eqb x 1)
bit-digit zero h = refl
bit-digit (suc zero) h = refl
bit-digit (suc (suc x)) h = absurd (not-suc-le-zero (le_of_suc-le-suc (le_of_suc-le-suc h)))

ones-count : (n s : ℕ) → s < 2 ^ n → ones s ≡ count n (λ t. has t s)
unfolding count ones
ones-count zero s h = ap ones (lt-one h)
ones-count (suc n) s h =
    ones_step s
    ∙ ap₂ (λ (x y : ℕ). x + y) (bit-digit (s % 2) (mod-lt s two_pos) ∙ ap digit (sym (has_first s)))
    (ones-count n (s / 2) (omega arith) ∙ ap (count n) (fun_ext (λ t. sym (has-later t s))))

-- `count_ones`
pub size-code : {s : ℕ} → s < 2 ^ 32 → ones s ≡ size s
unfolding size
size-code {s} h = ones-count 32 s h

pub size-le : (s : ℕ) → size s ≤ 32
unfolding size
size-le s = count-le 32 _

pub size-empty : size 0 ≡ 0
unfolding size
size-empty = count_none 32 (λ t. has t 0) (λ t h. has-empty t)

pub size-pos : {s : ℕ} (t : ℕ) → s < 2 ^ 32 → has t s ≡ true → 0 < size s
unfolding size
size-pos {s} t h e = count-pos 32 (λ u. has u s) t (has-below 32 t h e) e

pub size-zero : {s : ℕ} → s < 2 ^ 32 → size s ≡ 0 → s ≡ 0
unfolding size
size-zero {s} h z = empty_of h (count-zero-at 32 (λ u. has u s) z)

pub size-without : {s : ℕ} (t : ℕ) → s < 2 ^ 32 → has t s ≡ true → size s ≡ suc (size (without s t))
unfolding size
size-without {s} t h e =
    count-but 32 (λ u. has u s) t (has-below 32 t h e) e ∙ ap suc (count-ext 32 _ (λ u. has u (without s t)) (λ u l. sym (has-without t u h)))

-- a part is no larger, and smaller where it lacks a type
pub size_mono : (a b : ℕ) → ((t : ℕ) → t < 32 → has t a ≡ true → has t b ≡ true) → size a ≤ size b
unfolding size
size_mono a b f = count-mono 32 (λ t. has t a) (λ t. has t b) f

pub size_less : (a b : ℕ) → ((t : ℕ) → t < 32 → has t a ≡ true → has t b ≡ true)
    → (u : ℕ) → u < 32 → has u a ≡ false → has u b ≡ true → size a < size b
unfolding size
size_less a b f u h p q = count_less 32 (λ t. has t a) (λ t. has t b) f u h p q

-- ---- join and minus

pub join-lt : (a b : ℕ) → join a b < 2 ^ 32
unfolding join
join-lt a b = set_of-lt 32 _

pub has-join-at : (a b t : ℕ) → t < 32 → has t (join a b) ≡ (has t a || has t b)
unfolding join
has-join-at a b t l = has-set_of 32 _ t l

pub has_join : {a b : ℕ} (t : ℕ) → a < 2 ^ 32 → b < 2 ^ 32 → has t (join a b) ≡ (has t a || has t b)
unfolding join
has_join {a} {b} t ha hb =
    ⊎_elim (λ l. has-set_of 32 _ t l)
    (λ l. has-past 32 t (set_of-lt 32 _) l ∙ ap₂ ◌||◌ (sym (has-past 32 t ha l)) (sym (has-past 32 t hb l)))
    (split t 32)

-- `a | b`
pub join-code : {a b : ℕ} → a < 2 ^ 32 → b < 2 ^ 32 → bit_or a b ≡ join a b
join-code {a} {b} ha hb = has-ext 32 (bit_or a b) (join a b) (or_lt 32 a b ha hb) (join-lt a b) (λ t l. has-or t a b ∙ sym (has_join t ha hb))

pub minus-lt : (a b : ℕ) → minus a b < 2 ^ 32
unfolding minus
minus-lt a b = set_of-lt 32 _

pub has-minus-at : (a b t : ℕ) → t < 32 → has t (minus a b) ≡ (has t a && not (has t b))
unfolding minus
has-minus-at a b t l = has-set_of 32 _ t l

pub has-minus : {a : ℕ} (b t : ℕ) → a < 2 ^ 32 → has t (minus a b) ≡ (has t a && not (has t b))
unfolding minus
has-minus {a} b t ha =
    ⊎_elim (λ l. has-set_of 32 _ t l)
    (λ l. has-past 32 t (set_of-lt 32 _) l ∙ ap (λ (x : Bool). x && not (has t b)) (sym (has-past 32 t ha l)))
    (split t 32)

-- `a & !b`
pub minus-code : {a b : ℕ} → a < 2 ^ 32 → b < 2 ^ 32 → bit_and a ((2 ^ 32 - 1) - b) ≡ minus a b
minus-code {a} {b} ha hb =
    has-ext 32 (bit_and a ((2 ^ 32 - 1) - b)) (minus a b) (and_lt 32 a _ ha (omega arith)) (minus-lt a b)
    (λ t l. has-and t a _ ∙ ap (λ (x : Bool). has t a && x) (has-not 32 t b hb l) ∙ sym (has-minus b t ha))

pub meet-lt : (a b : ℕ) → meet a b < 2 ^ 32
unfolding meet
meet-lt a b = set_of-lt 32 _

pub has-meet-at : (a b t : ℕ) → t < 32 → has t (meet a b) ≡ (has t a && has t b)
unfolding meet
has-meet-at a b t l = has-set_of 32 _ t l

-- `a & b`
pub meet-code : {a : ℕ} (b : ℕ) → a < 2 ^ 32 → bit_and a b ≡ meet a b
meet-code {a} b h =
    has-ext 32 (bit_and a b) (meet a b) (lt_of_le_of_lt (and_le_l a b) h) (meet-lt a b) (λ t l. has-and t a b ∙ sym (has-meet-at a b t l))

-- a and b have the same types of s: `s & a == s & b`
alike : (r a b : Bool) → (r && a) ≡ (r && b) → implies r (same a b) ≡ true
alike true true b e = sym e
alike true false true e = e
alike true false false e = refl
alike false a b e = refl

alike-and : (r a b : Bool) → implies r (same a b) ≡ true → (r && a) ≡ (r && b)
alike-and true true b e = sym e
alike-and true false true e = e
alike-and true false false e = refl
alike-and false a b e = refl

pub same_code : (s a b : ℕ) → eqb (meet s a) (meet s b) ≡ every 32 (λ t. implies (has t s) (same (has t a) (has t b)))
same_code s a b =
    both_ways (eqb (meet s a) (meet s b)) (every 32 (λ t. implies (has t s) (same (has t a) (has t b))))
    (λ e. every_of 32 _ (λ t l. alike (has t s) (has t a) (has t b)
    (sym (has-meet-at s a t l) ∙ ap (has t) (eqb-true (meet s a) (meet s b) e) ∙ has-meet-at s b t l)))
    (λ e. eq-eqb (meet s a) (meet s b) (has-ext 32 (meet s a) (meet s b) (meet-lt s a) (meet-lt s b)
    (λ t l. has-meet-at s a t l ∙ alike-and (has t s) (has t a) (has t b) (every-at 32 (λ t. implies (has t s) (same (has t a) (has t b))) e t l)
    ∙ sym (has-meet-at s b t l))))

-- ---- shifts

-- `s >> k`
pub has-shr : (t s k : ℕ) → has t (s / 2 ^ k) ≡ has (k + t) s
unfolding has
has-shr t s k = ap (λ (x : ℕ). eqb (x % 2) 1) (shr-shr s k t)

-- `s << k`, where nothing is shifted out: the types move up by k, and none is below k
pub has-shl : (t s k : ℕ) → has (k + t) (s * 2 ^ k) ≡ has t s
has-shl t s k = sym (has-shr t (s * 2 ^ k) k) ∙ ap (has t) (shl-shr s k)

pub has-shl-below : (t s k : ℕ) → t < k → has t (s * 2 ^ k) ≡ false
has-shl-below t s zero h = absurd (not-suc-le-zero h)
has-shl-below zero s (suc k) h = has_first (s * 2 ^ suc k) ∙ ap (λ (x : ℕ). eqb x 1) (shifted_even s k)
has-shl-below (suc t) s (suc k) h = has-later t (s * 2 ^ suc k) ∙ ap (has t) (shifted_half s k) ∙ has-shl-below t s k (le_of_suc-le-suc h)

-- ---- two ways to say that a lies within b

pub within-and : {a : ℕ} (b : ℕ) → a < 2 ^ 32 → (bit_and a b ≡ a) ↔ (within a b ≡ true)
within-and {a} b h = (λ e. sym (within-code b h) ∙ eq-eqb (bit_and a b) a e, λ e. eqb-true (bit_and a b) a (within-code b h ∙ e))
