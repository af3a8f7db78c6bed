-- The rules of a subscriber's box numbers place by place, as `rules::boxes_sound` goes through them and `rules::numbers_listed` tests them at once. Assumes nothing.
use mathlib.Core.Path.{◌≡◌, refl, sym, ap, ap₂, ◌∙◌}
use mathlib.Core.Bool.{Bool, false, true, not, ◌&&◌, and-true, and_assoc}
use Prim.Native.Nat.{ℕ, zero, suc, ◌≤◌, ◌<◌, min}
use native.Mathlib.Omega.{arith}
use lib.Dec.{eqb, ltb, leb, eqb-suc-zero}
use borrow.Author.Tests.{le-leb, lt-ltb, ltb-true}
use Rattle.typeset.specs.Sets.{every, implies}
use Rattle.typeset.proofs.Bools.{both_ways, imp-at, imp-of}
use Rattle.typeset.proofs.Below.{every-and, every-at, every_of, every-ext}
use Rattle.plan.specs.declared.Subscriber.{Subscriber}
use Rattle.plan.specs.Parts.{box_number, box}
use Rattle.plan.specs.Rules.{numbers_given, numbers_differ, boxes_blank}
use Rattle.plan.specs.Sound.{boxes_sound}
use Rattle.plan.specs.Steps.{differs_from, differs_at, box_sound}

-- L13, L16 and L20, each of them for every place, are the three together for every place
pub boxes-places : (s : Subscriber) → every 4 (box_sound s) ≡ boxes_sound s
unfolding box_sound boxes_sound numbers_given numbers_differ boxes_blank differs_at differs_from
boxes-places s =
    let given : ℕ → Bool = λ x. implies (ltb x s.count) (box_number (box s x)) in
    let blank : ℕ → Bool = λ x. implies (leb s.count x) (eqb (box s x) 0) in
    every-and 4 (λ x. given x && differs_at s x) blank ∙ ap (λ (b : Bool). b && every 4 blank) (every-and 4 given (differs_at s))

-- L16 says nothing of a place past the count
pub differs-past : (s : Subscriber) (x : ℕ) → ltb x s.count ≡ false → differs_at s x ≡ true
unfolding differs_at differs_from
differs-past s x e = every_of x (differs_from s x) (λ y h. rw e)

-- a test of each number that a subscriber has is the test of the first m places, as many as there are; a count above four says no more than four
pub numbers-first : (p : ℕ → Bool) (count m : ℕ) → m ≡ min count 4 → every 4 (λ x. implies (ltb x count) (p x)) ≡ every m p
numbers-first p count m e =
    both_ways (every 4 (λ x. implies (ltb x count) (p x))) (every m p)
    (λ all. every_of m p (λ x h. imp-at (ltb x count) (p x) (every-at 4 (λ x. implies (ltb x count) (p x)) all x (omega arith)) (lt-ltb x count (omega arith))))
    (λ first. every_of 4 (λ x. implies (ltb x count) (p x)) (λ x h. imp-of (ltb x count) (p x) (λ l. every-at m p first x (omega (arith, ltb-true x count l)))))

-- what is asked of each only where a test passes is asked of all where it passes
every-under : (n : ℕ) (a : Bool) (p : ℕ → Bool) → every n (λ y. implies a (p y)) ≡ implies a (every n p)
every-under n true p = refl
every-under n false p = every_of n (λ y. true) (λ y h. refl)

abbrev number : Subscriber → ℕ → Bool
number s x = box_number (box s x)

abbrev differ : Subscriber → ℕ → ℕ → Bool
differ s x y = not (eqb (box s x) (box s y))

-- L13 and L16 of the first m places: in each a box number, and none of those before it
listed-first : (s : Subscriber) (m : ℕ) → m ≡ min s.count 4 → (numbers_given s && numbers_differ s) ≡ every m (λ x. number s x && every x (differ s x))
unfolding numbers_given numbers_differ
listed-first s m e =
    ap₂ ◌&&◌ (numbers-first (number s) s.count m e)
    (every-ext 4 _ _ (λ x h. every-under x (ltb x s.count) (differ s x)) ∙ numbers-first (λ x. every x (differ s x)) s.count m e)
    ∙ sym (every-and m (number s) (λ x. every x (differ s x)))

-- so by how many there are, in the groups in which `rules::numbers_listed` tests them
abbrev pub first_two : Subscriber → Bool
first_two s = (number s 0 && number s 1) && differ s 1 0

abbrev pub first_three : Subscriber → Bool
first_three s = first_two s && (number s 2 && (differ s 2 0 && differ s 2 1))

abbrev pub all_four : Subscriber → Bool
all_four s = first_three s && ((number s 3 && differ s 3 0) && (differ s 3 1 && differ s 3 2))

pub listed-none : (s : Subscriber) → s.count ≡ 0 → (numbers_given s && numbers_differ s) ≡ true
unfolding every
listed-none s e = listed-first s 0 (omega arith)

pub listed-one : (s : Subscriber) → s.count ≡ 1 → (numbers_given s && numbers_differ s) ≡ box_number (box s 0)
unfolding every
listed-one s e = listed-first s 1 (omega arith) ∙ simp and-true

pub listed-two : (s : Subscriber) → s.count ≡ 2 → (numbers_given s && numbers_differ s) ≡ first_two s
unfolding every
listed-two s e = listed-first s 2 (omega arith) ∙ simp (and-true, and_assoc)

pub listed-three : (s : Subscriber) → s.count ≡ 3 → (numbers_given s && numbers_differ s) ≡ first_three s
unfolding every
listed-three s e = listed-first s 3 (omega arith) ∙ simp (and-true, and_assoc)

pub listed-four : (s : Subscriber) → 4 ≤ s.count → (numbers_given s && numbers_differ s) ≡ all_four s
unfolding every
listed-four s h = listed-first s 4 (omega arith) ∙ simp (and-true, and_assoc)

-- a number of 16 bits is a box number unless it is 0
pub number-code : (n : ℕ) → n < 65536 → not (eqb n 0) ≡ box_number n
unfolding box_number
number-code zero h = refl
number-code (suc n) h =
    let small : leb (suc n) 65535 ≡ true = le-leb (suc n) 65535 (omega arith) in
    let some : leb 1 (suc n) ≡ true = le-leb 1 (suc n) (omega arith) in
    rw (small, some, eqb-suc-zero n)
