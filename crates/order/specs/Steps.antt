-- What the small functions of an order's test answer: a rule at one type, or at one pair of types. Assumes nothing.
use Rattle.std.specs.Prelude.{ℕ, ◌≡◌, Bool, not, ◌&&◌, ◌||◌, List, eqb, get_or}
use Rattle.typeset.specs.Sets.{has, every, within, implies}

-- ---- L5: a row that holds b holds whatever b comes before; so for each b
unfoldable pub carries : List ℕ → ℕ → ℕ → Bool
carries rows row b = implies (has b row) (within (get_or rows b 0) row)

unfoldable pub closed : List ℕ → ℕ → Bool
closed rows row = every 32 (carries rows row)

-- L3: t is chosen, or its row is empty
unfoldable pub empty_unless : ℕ → ℕ → ℕ → Bool
empty_unless chosen t row = has t chosen || eqb row 0

-- L2 to L5 at the type t
unfoldable pub row_sound : ℕ → List ℕ → ℕ → Bool
row_sound chosen rows t =
    within (get_or rows t 0) chosen && empty_unless chosen t (get_or rows t 0) && not (has t (get_or rows t 0))
    && closed rows (get_or rows t 0)

-- ---- what a test of pairs answers, where each call of it answers what a law says: r is what the whole says of that law
abbrev pub Tests : (ℕ → ℕ → Bool → Type 0) → ((ℕ → ℕ → Bool) → Bool) → Bool → Type 0
Tests answers whole r = (law : ℕ → ℕ → Bool) → ((x y : ℕ) (b : Bool) → answers x y b → b ≡ law x y) → r ≡ whole law
