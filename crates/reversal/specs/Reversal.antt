-- WHAT A REVERSAL MEETS (02, ask 13; manual 5.6 with 3.4 and 3.5). A box that reverses sends the call back through the other zone of its subscriber. Of the reversible boxes there it meets exactly those that stood before it on the way there, each once, and the last of them first. Assumes nothing.
use Rattle.std.specs.Prelude.{ℕ, ◌<◌, ◌≡◌, ◌⊎◌, true, cond, List, [], ◌∷◌, reverse, eqb}
use Rattle.typeset.specs.Sets.{has}
use Rattle.plan.specs.declared.Region.{Region}
use Rattle.plan.specs.declared.Region.TheVariants.{Source, Target}
use Rattle.plan.specs.declared.Plan.{Plan}
use Rattle.plan.specs.Parts.{at}
use Rattle.plan.specs.Sound.{sound}
use Rattle.zone.specs.Answer.{zone_at}
use Rattle.routing.specs.Steps.{suffix_after}

-- what stands before t in a list: the whole list where t is not in it
unfoldable pub types_before : ℕ → List ℕ → List ℕ
types_before t [] = []
types_before t (x ∷ xs) = cond (eqb t x) [] (x ∷ types_before t xs)

-- what stands after t: nothing where t is not in the list
unfoldable pub types_after : ℕ → List ℕ → List ℕ
types_after t [] = []
types_after t (x ∷ xs) = cond (eqb t x) xs (types_after t xs)

-- those of a list that are in the set s, in the list's order
unfoldable pub those : ℕ → List ℕ → List ℕ
those s [] = []
those s (x ∷ xs) = cond (has x s) (x ∷ those s xs) (those s xs)

-- the reversible types before t, and those after it, in the zone of address a in a region
unfoldable pub reversible_before : Plan → Region → ℕ → ℕ → List ℕ
reversible_before p r a t = those p.types.reversible (types_before t (zone_at p r a))

unfoldable pub reversible_after : Plan → Region → ℕ → ℕ → List ℕ
reversible_after p r a t = those p.types.reversible (types_after t (zone_at p r a))

-- The reversible types left after t in one zone of a are those before it in the other, in reverse order. And what is left after t is what routing leaves of the zone for a suffix route at t (manual 6.3), which is how a reversed setup without a new routing address is routed.
pub record Mirrored (p : Plan) (a t : ℕ) : Type 0 where
  pub in_target : reversible_after p Target a t ≡ reverse (reversible_before p Source a t)
  pub in_source : reversible_after p Source a t ≡ reverse (reversible_before p Target a t)
  pub suffix_in_target : suffix_after t (zone_at p Target a) ≡ types_after t (zone_at p Target a)
  pub suffix_in_source : suffix_after t (zone_at p Source a) ≡ types_after t (zone_at p Source a)

-- REVERSAL MEETS EACH REVERSIBLE BOX ONCE: for a sound plan, a subscriber (the one at place i), and a reversible type that it has, in its source set or in its target set.
abbrev pub Reversal : Type 0
Reversal =
    (p : Plan) → sound p ≡ true → (i : ℕ) → i < p.count → (t : ℕ) → t < 32 → has t p.types.reversible ≡ true
    → (has t (at p.subscribers i).source ≡ true) ⊎ (has t (at p.subscribers i).target ≡ true)
    → Mirrored p (at p.subscribers i).address t
