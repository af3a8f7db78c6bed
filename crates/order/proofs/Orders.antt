-- The rules of an order type by type: what the loops of `order_sound`, `reversible_ordered` and `reversible_opposed` gather is what the rules say. Assumes nothing.
use mathlib.Core.Path.{◌≡◌, ap, ◌∙◌}
use mathlib.Core.Bool.{Bool, not, ◌&&◌}
use mathlib.Core.List.{List}
use Prim.Native.Nat.{ℕ}
use lib.ListN.{get_or}
use Rattle.typeset.specs.Sets.{has, every, within}
use Rattle.typeset.proofs.Below.{every-and}
use Rattle.order.specs.Rules.{precedes}
use Rattle.order.specs.Rules.{rows_in_choice, empty_outside, irreflexive, transitive}
use Rattle.order.specs.Rules.{order_sound}
use Rattle.order.specs.Steps.{carries, closed, empty_unless, row_sound}

-- L2 to L5, each of them for every type, are the four together for every type
pub order-rows : (chosen : ℕ) (rows : List ℕ) → every 32 (row_sound chosen rows) ≡ order_sound chosen rows
unfolding row_sound order_sound rows_in_choice empty_outside irreflexive transitive empty_unless closed carries precedes within
order-rows chosen rows =
    let inChoice : ℕ → Bool = λ t. within (get_or rows t 0) chosen in
    let empty : ℕ → Bool = λ t. empty_unless chosen t (get_or rows t 0) in
    let notItself : ℕ → Bool = λ t. not (has t (get_or rows t 0)) in
    let carried : ℕ → Bool = λ t. closed rows (get_or rows t 0) in
    every-and 32 (λ t. inChoice t && empty t && notItself t) carried
    ∙ ap (λ (b : Bool). b && every 32 carried)
    (every-and 32 (λ t. inChoice t && empty t) notItself ∙ ap (λ (b : Bool). b && every 32 notItself) (every-and 32 inChoice empty))
