-- The callee box by what is left of the route. Assumes nothing.
use mathlib.Core.Path.{◌≡◌, refl}
use mathlib.Core.List.{List, [], ◌∷◌}
use Prim.Native.Nat.{ℕ}
use native.Mathlib.Omega.{arith}
use lib.ListN.{length, get_or}
use Rattle.routing.specs.declared.Callee.{Callee}
use Rattle.routing.specs.declared.Callee.TheVariants.{Feature}
use Rattle.routing.specs.Steps.{chosen}

pub chosen_none : (l : List ℕ) (a : ℕ) (interface : Callee) → length l ≡ 0 → chosen l a interface ≡ interface
chosen_none [] a interface e = refl
chosen_none (t ∷ l) a interface e = absurd (omega (arith, e))

pub chosen-some : (l : List ℕ) (a : ℕ) (interface : Callee) → (length l ≡ 0 → ⊥) → chosen l a interface ≡ Feature (get_or l 0 0) a
chosen-some [] a interface ne = absurd (ne refl)
chosen-some (t ∷ l) a interface ne = refl
