-- The laws of `every`, `some`, `least`, `count` and `set_of` (`Sets.antt`), for any test p on the numbers below n. Assumes nothing.
use mathlib.Core.Path.{◌≡◌, refl, sym, ap, ap₂, ◌∙◌}
use mathlib.Core.Logic.{⊎_elim}
use mathlib.Core.Bool.{Bool, true, false, not, ◌&&◌, ◌||◌, and-true, and_assoc, or-false, or_assoc, false≢true}
use Prim.Native.Nat.{ℕ, zero, suc, ◌+◌, ◌*◌, ◌^◌, ◌≤◌, ◌<◌, zero-le, suc-le-suc}
use native.Mathlib.Nat.{le_of_suc-le-suc, not-suc-le-zero, zero-lt-suc, le_refl, lt_irrefl, lt_of_lt_of_le, le_of_lt}
use native.Mathlib.Numerals.{add-one}
use native.Mathlib.Omega.{arith}
use lib.Dec.{eqb, eqb-zero-suc, eqb-suc-zero, eqb-suc-suc}
use Rattle.typeset.specs.Sets.{digit, every, some, first_of, least, count, set_of}
use borrow.Author.Tests.{eqb-true}
use Rattle.typeset.proofs.Bools.{yes_or_no, both_ways, and-make, not_of_false, clash, fails, and_left, and_right, or_cases, or_left, or_right}

-- the test at the next number
abbrev later : (ℕ → Bool) → ℕ → Bool
later p t = p (suc t)

-- ---- every

pub every-at : (n : ℕ) (p : ℕ → Bool) → every n p ≡ true → (t : ℕ) → t < n → p t ≡ true
unfolding every
every-at zero p e t h = absurd (not-suc-le-zero h)
every-at (suc n) p e zero h = and_left (p 0) (every n (later p)) e
every-at (suc n) p e (suc t) h = every-at n (later p) (and_right (p 0) (every n (later p)) e) t (le_of_suc-le-suc h)

pub every_of : (n : ℕ) (p : ℕ → Bool) → ((t : ℕ) → t < n → p t ≡ true) → every n p ≡ true
unfolding every
every_of zero p f = refl
every_of (suc n) p f = ap₂ ◌&&◌ (f 0 (zero-lt-suc n)) (every_of n (later p) (λ t h. f (suc t) (suc-le-suc h)))

-- ---- some

pub some_of : (n : ℕ) (p : ℕ → Bool) (t : ℕ) → t < n → p t ≡ true → some n p ≡ true
unfolding some
some_of zero p t h e = absurd (not-suc-le-zero h)
some_of (suc n) p zero h e = or_left (some n (later p)) e
some_of (suc n) p (suc t) h e = or_right (p 0) (some_of n (later p) t (le_of_suc-le-suc h) e)

pub some_at : (n : ℕ) (p : ℕ → Bool) → some n p ≡ true → (t : ℕ) × (t < n) × (p t ≡ true)
unfolding some
some_at zero p e = absurd (false≢true e)
some_at (suc n) p e =
    ⊎_elim (λ h. (0, zero-lt-suc n, h))
    (λ h. let r = some_at n (later p) h in (suc r.0, suc-le-suc r.1, r.2))
    (or_cases (p 0) (some n (later p)) e)

-- ---- least

first-le : (b : Bool) (k n : ℕ) → k ≤ n → first_of b k ≤ suc n
first-le true k n h = zero-le
first-le false k n h = suc-le-suc h

pub least-le : (n : ℕ) (p : ℕ → Bool) → least n p ≤ n
unfolding least
least-le zero p = zero-le
least-le (suc n) p = first-le (p 0) (least n (later p)) n (least-le n (later p))

first-has : (p : ℕ → Bool) (b : Bool) (k n : ℕ) → p 0 ≡ b → (k < n → p (suc k) ≡ true) → first_of b k < suc n → p (first_of b k) ≡ true
first-has p true k n e ih h = e
first-has p false k n e ih h = ih (le_of_suc-le-suc h)

-- it passes the test, if it is below n
pub least-has : (n : ℕ) (p : ℕ → Bool) → least n p < n → p (least n p) ≡ true
unfolding least
least-has zero p h = absurd (not-suc-le-zero h)
least-has (suc n) p h = first-has p (p 0) (least n (later p)) n refl (least-has n (later p)) h

first-min : (p : ℕ → Bool) (b : Bool) (k : ℕ) → p 0 ≡ b → ((t : ℕ) → t < k → p (suc t) ≡ false) → (t : ℕ) → t < first_of b k → p t ≡ false
first-min p true k e ih t h = absurd (not-suc-le-zero h)
first-min p false k e ih zero h = e
first-min p false k e ih (suc t) h = ih t (le_of_suc-le-suc h)

-- nothing below it passes
pub least-min : (n : ℕ) (p : ℕ → Bool) (t : ℕ) → t < least n p → p t ≡ false
unfolding least
least-min zero p t h = absurd (not-suc-le-zero h)
least-min (suc n) p t h = first-min p (p 0) (least n (later p)) refl (least-min n (later p)) t h

-- so it is at most any number that passes
pub least-at-most : (n : ℕ) (p : ℕ → Bool) (t : ℕ) → p t ≡ true → least n p ≤ t
least-at-most n p t e = let low : ¬ (t < least n p) = λ h. clash e (least-min n p t h) in omega arith

pub least-ext : (n : ℕ) (p q : ℕ → Bool) → ((t : ℕ) → t < n → p t ≡ q t) → least n p ≡ least n q
unfolding least
least-ext zero p q f = refl
least-ext (suc n) p q f = ap₂ first_of (f 0 (zero-lt-suc n)) (least-ext n (later p) (later q) (λ t h. f (suc t) (suc-le-suc h)))

-- a loop that searches upwards: it stops at i, where the test passes, or finds none below n
pub least-found : (n : ℕ) (p : ℕ → Bool) (i : ℕ) → ((k : ℕ) → k < i → p k ≡ false) → i < n → p i ≡ true → least n p ≡ i
least-found n p i f h e =
    let most : least n p ≤ i = least-at-most n p i e in
    let no_lower : ¬ (least n p < i) = λ l. clash (least-has n p (lt_of_lt_of_le l (le_of_lt h))) (f (least n p) l) in
    omega arith

pub least-none : (n : ℕ) (p : ℕ → Bool) → ((k : ℕ) → k < n → p k ≡ false) → least n p ≡ n
least-none n p f =
    let most : least n p ≤ n = least-le n p in
    let no_lower : ¬ (least n p < n) = λ l. clash (least-has n p l) (f (least n p) l) in
    omega arith

-- ---- count

digit-le : (b : Bool) → digit b ≤ 1
digit-le true = le_refl 1
digit-le false = zero-le

pub count-le : (n : ℕ) (p : ℕ → Bool) → count n p ≤ n
unfolding count
count-le zero p = zero-le
count-le (suc n) p = omega (arith, digit-le (p 0), count-le n (later p))

pub count-ext : (n : ℕ) (p q : ℕ → Bool) → ((t : ℕ) → t < n → p t ≡ q t) → count n p ≡ count n q
unfolding count
count-ext zero p q f = refl
count-ext (suc n) p q f =
    ap₂ (λ (b : Bool) (k : ℕ). digit b + k) (f 0 (zero-lt-suc n)) (count-ext n (later p) (later q) (λ t h. f (suc t) (suc-le-suc h)))

digit-mono : (a b : Bool) → (a ≡ true → b ≡ true) → digit a ≤ digit b
digit-mono true b f = rw (f refl) (le_refl 1)
digit-mono false b f = zero-le

pub count-mono : (n : ℕ) (p q : ℕ → Bool) → ((t : ℕ) → t < n → p t ≡ true → q t ≡ true) → count n p ≤ count n q
unfolding count
count-mono zero p q f = zero-le
count-mono (suc n) p q f =
    omega (arith, digit-mono (p 0) (q 0) (f 0 (zero-lt-suc n)), count-mono n (later p) (later q) (λ t h. f (suc t) (suc-le-suc h)))

-- one number more: u passes q and not p
pub count_less : (n : ℕ) (p q : ℕ → Bool) → ((t : ℕ) → t < n → p t ≡ true → q t ≡ true)
    → (u : ℕ) → u < n → p u ≡ false → q u ≡ true → count n p < count n q
unfolding count
count_less zero p q f u h a b = absurd (not-suc-le-zero h)
count_less (suc n) p q f zero h a b =
    rw (a, b) (omega (arith, count-mono n (later p) (later q) (λ t l. f (suc t) (suc-le-suc l))))
count_less (suc n) p q f (suc u) h a b =
    omega (arith, digit-mono (p 0) (q 0) (f 0 (zero-lt-suc n)), count_less n (later p) (later q) (λ t l. f (suc t) (suc-le-suc l)) u (le_of_suc-le-suc h) a b)

-- without u, which passes, there is one less
pub count-but : (n : ℕ) (p : ℕ → Bool) (u : ℕ) → u < n → p u ≡ true → count n p ≡ suc (count n (λ t. p t && not (eqb t u)))
unfolding count
count-but zero p u h e = absurd (not-suc-le-zero h)
count-but (suc n) p zero h e =
    rw e (omega (arith, count-ext n (later p) (λ t. p (suc t) && not (eqb (suc t) 0)) (λ t l. rw (eqb-suc-zero t) (sym (and-true (p (suc t)))))))
count-but (suc n) p (suc u) h e =
    let here : digit (p 0 && not (eqb 0 (suc u))) ≡ digit (p 0) = rw (eqb-zero-suc u, and-true (p 0)) in
    let rest : count n (λ t. p (suc t) && not (eqb (suc t) (suc u))) ≡ count n (λ t. p (suc t) && not (eqb t u)) =
    count-ext n _ _ (λ t l. rw (eqb-suc-suc t u)) in
    omega (arith, count-but n (later p) u (le_of_suc-le-suc h) e)

-- none passes: none is counted, and the other way round
pub count_none : (n : ℕ) (p : ℕ → Bool) → ((t : ℕ) → t < n → p t ≡ false) → count n p ≡ 0
unfolding count
count_none zero p f = refl
count_none (suc n) p f = rw (f 0 (zero-lt-suc n)) (omega (arith, count_none n (later p) (λ t h. f (suc t) (suc-le-suc h))))

pub count-pos : (n : ℕ) (p : ℕ → Bool) (t : ℕ) → t < n → p t ≡ true → 0 < count n p
count-pos n p t h e = omega (arith, count-but n p t h e)

pub count-zero-at : (n : ℕ) (p : ℕ → Bool) → count n p ≡ 0 → (t : ℕ) → t < n → p t ≡ false
count-zero-at n p z t h = fails (p t) (λ e. lt_irrefl 0 (rw z at (count-pos n p t h e)))

-- ---- set_of

pub set_of-lt : (n : ℕ) (p : ℕ → Bool) → set_of n p < 2 ^ n
unfolding set_of
set_of-lt zero p = le_refl 1
set_of-lt (suc n) p = omega (arith, digit-le (p 0), set_of-lt n (later p))

pub set_of-ext : (n : ℕ) (p q : ℕ → Bool) → ((t : ℕ) → t < n → p t ≡ q t) → set_of n p ≡ set_of n q
unfolding set_of
set_of-ext zero p q f = refl
set_of-ext (suc n) p q f =
    ap₂ (λ (k : ℕ) (b : Bool). k * 2 + digit b) (set_of-ext n (later p) (later q) (λ t h. f (suc t) (suc-le-suc h))) (f 0 (zero-lt-suc n))

-- ---- the last number, for a loop that goes upwards

pub some-last : (n : ℕ) (p : ℕ → Bool) → some (suc n) p ≡ (some n p || p n)
unfolding some
some-last zero p = or-false (p 0)
some-last (suc n) p = ap (λ (b : Bool). p 0 || b) (some-last n (later p)) ∙ sym (or_assoc (p 0) (some n (later p)) (p (suc n)))

pub every-last : (n : ℕ) (p : ℕ → Bool) → every (suc n) p ≡ (every n p && p n)
unfolding every
every-last zero p = and-true (p 0)
every-last (suc n) p = ap (λ (b : Bool). p 0 && b) (every-last n (later p)) ∙ sym (and_assoc (p 0) (every n (later p)) (p (suc n)))

-- a loop that goes upwards: no number yet, one number more, and a number that fails
pub every-none : (p : ℕ → Bool) → every 0 p ≡ true
unfolding every
every-none p = refl

pub every_more : (n : ℕ) (p : ℕ → Bool) → every n p ≡ true → p n ≡ true → every (n + 1) p ≡ true
every_more n p e h = ap (λ (k : ℕ). every k p) (add-one n) ∙ every-last n p ∙ ap₂ ◌&&◌ e h

pub every-no : (n : ℕ) (p : ℕ → Bool) (t : ℕ) → t < n → p t ≡ false → every n p ≡ false
every-no n p t h e = fails (every n p) (λ all. clash (every-at n p all t h) e)

pub some-ext : (n : ℕ) (p q : ℕ → Bool) → ((t : ℕ) → t < n → p t ≡ q t) → some n p ≡ some n q
unfolding some
some-ext zero p q f = refl
some-ext (suc n) p q f = ap₂ ◌||◌ (f 0 (zero-lt-suc n)) (some-ext n (later p) (later q) (λ t h. f (suc t) (suc-le-suc h)))

-- one number apart from the others, for a loop that takes the members of a set out one by one
pub some-but : (n : ℕ) (p : ℕ → Bool) (u : ℕ) → u < n → some n p ≡ (p u || some n (λ t. p t && not (eqb t u)))
some-but n p u h =
    let rest = some n (λ t. p t && not (eqb t u)) in
    both_ways (some n p) (p u || rest)
    (λ e.
    let r = some_at n p e in
    ⊎_elim
    (λ q. or_left rest (ap p (sym (eqb-true r.0 u q)) ∙ r.2))
    (λ q. or_right (p u) (some_of n (λ t. p t && not (eqb t u)) r.0 r.1 (and-make r.2 (not_of_false q))))
    (yes_or_no (eqb r.0 u)))
    (λ e.
    ⊎_elim
    (λ q. some_of n p u h q)
    (λ q. let r = some_at n (λ t. p t && not (eqb t u)) q in some_of n p r.0 r.1 (and_left (p r.0) (not (eqb r.0 u)) r.2))
    (or_cases (p u) rest e))

pub every-ext : (n : ℕ) (p q : ℕ → Bool) → ((t : ℕ) → t < n → p t ≡ q t) → every n p ≡ every n q
unfolding every
every-ext zero p q f = refl
every-ext (suc n) p q f = ap₂ ◌&&◌ (f 0 (zero-lt-suc n)) (every-ext n (later p) (later q) (λ t h. f (suc t) (suc-le-suc h)))

-- two tests at once
pub every-and : (n : ℕ) (p q : ℕ → Bool) → every n (λ t. p t && q t) ≡ (every n p && every n q)
every-and n p q =
    both_ways (every n (λ t. p t && q t)) (every n p && every n q)
    (λ e. and-make (every_of n p (λ t h. and_left (p t) (q t) (every-at n (λ t. p t && q t) e t h)))
    (every_of n q (λ t h. and_right (p t) (q t) (every-at n (λ t. p t && q t) e t h))))
    (λ e. every_of n (λ t. p t && q t)
    (λ t h. and-make (every-at n p (and_left (every n p) (every n q) e) t h) (every-at n q (and_right (every n p) (every n q) e) t h)))
