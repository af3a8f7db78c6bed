-- Orders of the 32 types: row a holds the types that a comes before (manual 3.4). The rules L2 to L5 of one order, and L8 and L9 of two.
-- Assumes nothing.
use Rattle.std.specs.Prelude.{ℕ, Bool, not, ◌&&◌, ◌||◌, List, eqb, get_or}
use Rattle.typeset.specs.Sets.{has, every, within, implies, same}

-- a precedes b: b is in row a
unfoldable pub precedes : List ℕ → ℕ → ℕ → Bool
precedes rows a b = has b (get_or rows a 0)

-- ---- one order, of a region whose choice is `chosen`

-- L2: a row has only types of the region's choice
unfoldable pub rows_in_choice : ℕ → List ℕ → Bool
rows_in_choice chosen rows = every 32 (λ t. within (get_or rows t 0) chosen)

-- L3: the row of a type outside the choice is empty
unfoldable pub empty_outside : ℕ → List ℕ → Bool
empty_outside chosen rows = every 32 (λ t. has t chosen || eqb (get_or rows t 0) 0)

-- L4: no type precedes itself
unfoldable pub irreflexive : List ℕ → Bool
irreflexive rows = every 32 (λ t. not (precedes rows t t))

-- L5: where a precedes b and b precedes c, a precedes c
unfoldable pub transitive : List ℕ → Bool
transitive rows =
    every 32 (λ a. every 32 (λ b. implies (precedes rows a b) (every 32 (λ c. implies (precedes rows b c) (precedes rows a c)))))

-- ---- the two orders

-- a and b are two types of the set s
unfoldable pub two_of : ℕ → ℕ → ℕ → Bool
two_of s a b = has a s && has b s && not (eqb a b)

-- any two types of the set s pass the test
abbrev pub any_two : ℕ → (ℕ → ℕ → Bool) → Bool
any_two s test = every 32 (λ a. every 32 (λ b. implies (two_of s a b) (test a b)))

-- L8: any two reversible types are ordered in the source order
unfoldable pub reversible_ordered : ℕ → List ℕ → Bool
reversible_ordered reversible source = any_two reversible (λ a b. precedes source a b || precedes source b a)

-- L9: and the other way round in the target order
unfoldable pub reversible_opposed : ℕ → List ℕ → List ℕ → Bool
reversible_opposed reversible source target = any_two reversible (λ a b. same (precedes source a b) (precedes target b a))

-- L2 to L5
unfoldable pub order_sound : ℕ → List ℕ → Bool
order_sound chosen rows = rows_in_choice chosen rows && empty_outside chosen rows && irreflexive rows && transitive rows
