-- Which tests pass unasked: those of a type that is none of a set's, and those of an empty row. So a test of a set's types asks what a test over all types does. Assumes nothing.
use mathlib.Core.Path.{◌≡◌, refl, sym, ap, ◌∙◌}
use mathlib.Core.Bool.{Bool, true, false, not, ◌&&◌, ◌||◌, or-true}
use mathlib.Core.List.{List}
use Prim.Native.Nat.{ℕ, ◌≤◌}
use lib.ListN.{length, get_or}
use lib.Dec.{eqb}
use Rattle.std.specs.List.{list_all}
use Rattle.std.proofs.lemmas.List.{get_or_past}
use Rattle.typeset.specs.Sets.{has, every, implies, listed, members}
use Rattle.typeset.proofs.Bools.{clash}
use Rattle.typeset.proofs.Below.{every_of, every-ext}
use Rattle.typeset.proofs.Laws.{has-empty, within_of}
use Rattle.typeset.proofs.Listed.{listed-all}
use Rattle.order.specs.Rules.{precedes, two_of, any_two}
use Rattle.order.specs.Steps.{carries, closed, empty_unless, row_sound}

-- ---- L5

pub carries-none : (rows : List ℕ) (row b : ℕ) → has b row ≡ false → carries rows row b ≡ true
unfolding carries
carries-none rows row b e = rw e

closed-empty : (rows : List ℕ) → closed rows 0 ≡ true
unfolding closed
closed-empty rows = every_of 32 _ (λ t h. carries-none rows 0 t (has-empty t))

-- an empty row keeps L2 to L5
pub row-empty : (chosen : ℕ) (rows : List ℕ) (t : ℕ) → get_or rows t 0 ≡ 0 → row_sound chosen rows t ≡ true
unfolding row_sound empty_unless
row-empty chosen rows t e = rw (e, within_of 0 chosen (λ u l m. absurd (clash m (has-empty u))), or-true (has t chosen), has-empty t) (closed-empty rows)

-- ---- L8 and L9: a test of any two types of a set asks those of the set alone

pub precedes-past : (rows : List ℕ) (a b : ℕ) → length rows ≤ a → precedes rows a b ≡ false
unfolding precedes
precedes-past rows a b l = ap (has b) (get_or_past rows a 0 l) ∙ has-empty b

implied : (p q e r : Bool) → implies p (implies q (e || r)) ≡ implies (p && q && not e) r
implied true true true r = refl
implied true true false r = refl
implied true false e r = refl
implied false q e r = refl

pub any_two-members : (s : ℕ) (law : ℕ → ℕ → Bool) → list_all (λ a. list_all (λ b. eqb a b || law a b) (members s)) (members s) ≡ any_two s law
unfolding two_of members
any_two-members s law =
    listed-all 32 (λ t. has t s) _
    ∙ every-ext 32 _ _ (λ a la. by-first a (has a s) ∙ every-ext 32 _ _ (λ b lb. implied (has a s) (has b s) (eqb a b) (law a b)))
  where
    by-first : (a : ℕ) (p : Bool) → implies p (list_all (λ b. eqb a b || law a b) (listed 32 (λ t. has t s))) ≡ every 32 (λ b. implies p (implies (has b s) (eqb a b || law a b)))
    by-first a true = listed-all 32 (λ t. has t s) _
    by-first a false = sym (every_of 32 _ (λ b l. refl))
