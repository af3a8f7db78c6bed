-- Tests as truth values: how two tests are shown equal, and what a test that passed says. Assumes nothing.
use mathlib.Core.Path.{◌≡◌, refl, sym, ◌∙◌}
use mathlib.Core.Logic.{◌⊎◌, inl, inr}
use mathlib.Core.Bool.{Bool, true, false, not, ◌&&◌, ◌||◌, true≢false, false≢true}

pub yes_or_no : (b : Bool) → (b ≡ true) ⊎ (b ≡ false)
yes_or_no true = inl refl
yes_or_no false = inr refl

-- never both
pub clash : {b : Bool} → b ≡ true → b ≡ false → ⊥
clash p q = true≢false (sym p ∙ q)

-- a test that cannot pass fails
pub fails : (b : Bool) → (b ≡ true → ⊥) → b ≡ false
fails true h = absurd (h refl)
fails false h = refl

-- two tests that pass together are equal
pub both_ways : (a b : Bool) → (a ≡ true → b ≡ true) → (b ≡ true → a ≡ true) → a ≡ b
both_ways true b f g = sym (f refl)
both_ways false true f g = g refl
both_ways false false f g = refl

pub and_left : (a b : Bool) → (a && b) ≡ true → a ≡ true
and_left true b e = refl
and_left false b e = e

pub and_right : (a b : Bool) → (a && b) ≡ true → b ≡ true
and_right true b e = e
and_right false b e = absurd (false≢true e)

pub and-make : {a b : Bool} → a ≡ true → b ≡ true → (a && b) ≡ true
and-make p q = λ i. p i && q i

pub or_cases : (a b : Bool) → (a || b) ≡ true → (a ≡ true) ⊎ (b ≡ true)
or_cases true b e = inl refl
or_cases false b e = inr e

pub or_left : {a : Bool} (b : Bool) → a ≡ true → (a || b) ≡ true
or_left b p = λ i. p i || b

pub or_right : (a : Bool) {b : Bool} → b ≡ true → (a || b) ≡ true
or_right true q = refl
or_right false q = q

pub not-true : (b : Bool) → not b ≡ true → b ≡ false
not-true true e = sym e
not-true false e = refl

pub not_of_false : {b : Bool} → b ≡ false → not b ≡ true
not_of_false p = λ i. not (p i)

-- "a only where b", as a test
pub imp-at : (a b : Bool) → (not a || b) ≡ true → a ≡ true → b ≡ true
imp-at true b e h = e
imp-at false b e h = absurd (false≢true h)

pub imp-of : (a b : Bool) → (a ≡ true → b ≡ true) → (not a || b) ≡ true
imp-of true b f = f refl
imp-of false b f = refl

-- a function answered the test b, and the code went on by `if !r`: the test passed, or failed
pub passed : {b r : Bool} → r ≡ b → not r ≡ false → b ≡ true
passed {r = true} p q = sym p
passed {r = false} p q = absurd (true≢false q)

pub failed : {b r : Bool} → r ≡ b → not r ≡ true → b ≡ false
failed {r = true} p q = absurd (false≢true q)
failed {r = false} p q = sym p
