-- The types of a set as a list (`Sets.antt`): what comes first and what then, and a test of each of them. Assumes nothing.
use mathlib.Core.Path.{◌≡◌, refl, sym, ap, ap₂, ◌∙◌}
use mathlib.Core.Bool.{Bool, true, false, not, ◌&&◌, and-true, and-false}
use mathlib.Core.List.{List, [], ◌∷◌, map}
use Prim.Native.Nat.{ℕ, zero, suc, ◌+◌, ◌-◌, ◌^◌, ◌<◌, suc-le-suc}
use native.Mathlib.Nat.{le_of_suc-le-suc, zero-lt-suc}
use native.Mathlib.Omega.{arith}
use borrow.Author.Tests.{leb-true, le-leb}
use lib.ListN.{length, get_or}
use lib.Dec.{leb, eqb, eqb-suc-zero, eqb-suc-suc}
use Rattle.std.specs.List.{list_all, range_with_len}
use Rattle.std.proofs.lemmas.List.Folds.{list_all-map}
use Rattle.std.specs.Iterator.{YieldsFirst}
use Rattle.std.proofs.lemmas.Iterator.{YieldsList}
use Rattle.std.proofs.lemmas.Iterator.Consumers.{YieldsList-from_first}
use Rattle.typeset.specs.declared.Members.{Members}
use Rattle.typeset.specs.Sets.{has, every, first_of, least, put_first, listed, members, without, lowest, implies}
use Rattle.typeset.proofs.Bools.{both_ways, imp-at, imp-of}
use Rattle.typeset.proofs.Below.{every-at, every_of, every-ext}
use Rattle.typeset.proofs.Laws.{has-empty, has-without-at, lowest-lt}

abbrev later : (ℕ → Bool) → ℕ → Bool
later p t = p (suc t)

pub listed-ext : (n : ℕ) (p q : ℕ → Bool) → ((t : ℕ) → t < n → p t ≡ q t) → listed n p ≡ listed n q
unfolding listed
listed-ext zero p q f = refl
listed-ext (suc n) p q f =
    ap₂ put_first (f 0 (zero-lt-suc n)) (ap (map suc) (listed-ext n (later p) (later q) (λ t h. f (suc t) (suc-le-suc h))))

pub listed-none : (n : ℕ) (p : ℕ → Bool) → ((t : ℕ) → t < n → p t ≡ false) → listed n p ≡ []
unfolding listed
listed-none zero p f = refl
listed-none (suc n) p f = ap₂ put_first (f 0 (zero-lt-suc n)) (ap (map suc) (listed-none n (later p) (λ t h. f (suc t) (suc-le-suc h))))

-- the least that passes comes first, and then the others
by-first : (n : ℕ) (p : ℕ → Bool) (b : Bool) (k : ℕ) → p 0 ≡ b
    → (b ≡ false → listed n (later p) ≡ k ∷ listed n (λ t. p (suc t) && not (eqb t k)))
    → put_first b (map suc (listed n (later p))) ≡ first_of b k ∷ listed (suc n) (λ t. p t && not (eqb t (first_of b k)))
unfolding listed
by-first n p true k e f =
    let rest : listed n (λ t. p (suc t) && not (eqb (suc t) 0)) ≡ listed n (later p) =
    listed-ext n _ (later p) (λ t h. rw (eqb-suc-zero t) (and-true (p (suc t)))) in
    rw (and-false (p 0), rest) refl
by-first n p false k e f =
    let rest : listed n (λ t. p (suc t) && not (eqb (suc t) (suc k))) ≡ listed n (λ t. p (suc t) && not (eqb t k)) =
    listed-ext n _ _ (λ t h. rw (eqb-suc-suc t k) refl) in
    rw (e, rest, f refl) refl

pub listed_first : (n : ℕ) (p : ℕ → Bool) → least n p < n → listed n p ≡ least n p ∷ listed n (λ t. p t && not (eqb t (least n p)))
unfolding listed least
listed_first zero p h = absurd (omega arith)
listed_first (suc n) p h = by-first n p (p 0) (least n (later p)) refl (λ e. listed_first n (later p) (le_of_suc-le-suc (rw e at h)))

-- a test of each one listed is a test of each one that passes
by-all : (b : Bool) (q : ℕ → Bool) (ts : List ℕ) → list_all q (put_first b (map suc ts)) ≡ (implies b (q 0) && list_all (λ t. q (suc t)) ts)
by-all true q ts = ap (λ b. q 0 && b) (list_all-map q suc ts)
by-all false q ts = list_all-map q suc ts

pub listed-all : (n : ℕ) (p q : ℕ → Bool) → list_all q (listed n p) ≡ every n (λ t. implies (p t) (q t))
unfolding listed every
listed-all zero p q = refl
listed-all (suc n) p q = by-all (p 0) q (listed n (later p)) ∙ ap (λ b. implies (p 0) (q 0) && b) (listed-all n (later p) (λ t. q (suc t)))

-- ---- a set

pub members-empty : members 0 ≡ []
unfolding members
members-empty = listed-none 32 _ (λ t h. has-empty t)

pub members-next : {s : ℕ} → s < 2 ^ 32 → ¬ (s ≡ 0) → members s ≡ lowest s ∷ members (without s (lowest s))
unfolding members lowest
members-next {s} h ne =
    listed_first 32 (λ t. has t s) (lowest-lt h ne)
    ∙ ap (λ ts. lowest s ∷ ts) (listed-ext 32 _ _ (λ t l. sym (has-without-at s (lowest s) t l)))

-- a test that passes outside the set asks all 32 types
pub members-all : (s : ℕ) (q : ℕ → Bool) → ((t : ℕ) → has t s ≡ false → q t ≡ true) → list_all q (members s) ≡ every 32 q
unfolding members
members-all s q f = listed-all 32 (λ t. has t s) q ∙ every-ext 32 _ q (λ t l. by-has (has t s) (q t) (f t))
  where
    by-has : (a b : Bool) → (a ≡ false → b ≡ true) → implies a b ≡ b
    by-has true b f = refl
    by-has false b f = sym (f refl)

-- ---- the numbers below n

pub numbers-from : (a n : ℕ) (q : ℕ → Bool) → list_all q (range_with_len a n) ≡ every n (λ t. q (a + t))
unfolding every
numbers-from a zero q = refl
numbers-from a (suc n) q =
    ap₂ ◌&&◌ (ap q (omega arith))
    (numbers-from (a + 1) n q ∙ every-ext n _ _ (λ t h. ap q (omega arith)))

pub numbers-all : (n : ℕ) (q : ℕ → Bool) → list_all q (range_with_len 0 n) ≡ every n q
numbers-all n q = numbers-from 0 n q ∙ every-ext n _ q (λ t h. ap q (omega arith))

-- ---- a list, place by place

pub items-all : {A : Type 0} (q : A → Bool) (xs : List A) (d : A) → list_all q xs ≡ every (length xs) (λ k. q (get_or xs k d))
unfolding every
items-all q [] d = refl
items-all q (x ∷ xs) d = ap (λ b. q x && b) (items-all q xs d)

-- a test of the n places from a on, as one of all places that passes the first a
pub every-from : (a n : ℕ) (p : ℕ → Bool) → every n (λ k. p (a + k)) ≡ every (a + n) (λ i. implies (leb a i) (p i))
every-from a n p =
    both_ways (every n (λ k. p (a + k))) (every (a + n) (λ i. implies (leb a i) (p i)))
    (λ e. every_of (a + n) _ (λ i h. imp-of (leb a i) (p i) (λ l.
    let back : a + (i - a) ≡ i = omega (arith, leb-true a i l) in
    rw back at (every-at n (λ k. p (a + k)) e (i - a) (omega (arith, leb-true a i l))))))
    (λ e. every_of n (λ k. p (a + k)) (λ k h. imp-at (leb a (a + k)) (p (a + k)) (every-at (a + n) _ e (a + k) (omega arith)) (le-leb a (a + k) (omega arith))))

-- ---- what a `Members` gives: the types of its set

pub members-given : {m : Members} (s : ℕ) → m.left ≡ s → YieldsList (YieldsFirst (λ k. members k.left)) (λ t. t) m (members s)
members-given s e = YieldsList-from_first (λ t. t) (λ k. members k.left) (members s) (ap members e)
