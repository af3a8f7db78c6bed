-- What the small functions of a subscriber's test (`rules`, `soundness`) answer: a rule at one box number, or beside the subscriber before. Assumes nothing.
use Rattle.std.specs.Prelude.{ℕ, Bool, not, ◌&&◌, eqb, ltb, leb}
use Rattle.typeset.specs.Sets.{every, implies}
use Rattle.plan.specs.declared.Subscriber.{Subscriber}
use Rattle.plan.specs.Parts.{box_number, box}

-- ---- a subscriber's box number at place x: L16 beside the number at place y, L16, and L13, L16 and L20
unfoldable pub differs_from : Subscriber → ℕ → ℕ → Bool
differs_from s x y = implies (ltb x s.count) (not (eqb (box s x) (box s y)))

unfoldable pub differs_at : Subscriber → ℕ → Bool
differs_at s x = every x (differs_from s x)

unfoldable pub box_sound : Subscriber → ℕ → Bool
box_sound s x =
    implies (ltb x s.count) (box_number (box s x)) && differs_at s x && implies (leb s.count x) (eqb (box s x) 0)

-- ---- L19: the address at place i and the one before it
unfoldable pub above : ℕ → ℕ → ℕ → Bool
above i before address = implies (ltb 0 i) (ltb before address)
