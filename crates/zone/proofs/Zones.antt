-- The steps of `zone_list` (`Order.antt`), and of a loop that stores it. Assumes nothing.
use mathlib.Core.Path.{◌≡◌, ap}
use mathlib.Core.List.{List, [], ◌∷◌}
use Prim.Native.Nat.{ℕ, suc, ◌+◌, ◌^◌, ◌<◌}
use native.Mathlib.Numerals.{add-one}
use native.Mathlib.Omega.{arith}
use lib.ListN.{set}
use lib.Seq.{sets}
use Rattle.typeset.specs.Sets.{without, size}
use Rattle.typeset.proofs.Laws.{size-without, size-empty}
use Rattle.zone.specs.Order.{next, zone_from, zone_list}
use Rattle.zone.proofs.Rows.{next-has}

pub zone-none : (rows : List ℕ) (s : ℕ) → size s ≡ 0 → zone_list rows s ≡ []
unfolding zone_list zone_from
zone-none rows s e = rw e

pub zone-empty : (rows : List ℕ) → zone_list rows 0 ≡ []
zone-empty rows = zone-none rows 0 size-empty

-- a set with a type in it is not the empty one
pub some_type : {s : ℕ} → 0 < size s → ¬ (s ≡ 0)
some_type {s} h e = absurd (omega (arith, ap size e, size-empty))

-- the next type, and then the zone of what remains
pub zone-step : (rows : List ℕ) {s : ℕ} → s < 2 ^ 32 → ¬ (s ≡ 0)
    → zone_list rows s ≡ next rows s ∷ zone_list rows (without s (next rows s))
unfolding zone_list zone_from
zone-step rows {s} h ne = rw (size-without (next rows s) h (next-has rows h ne))

-- storing a zone: the next type at place i, and then the zone of what remains from place i + 1 on
pub store_step : (rows : List ℕ) {s : ℕ} (l : List ℕ) (i : ℕ) → s < 2 ^ 32 → ¬ (s ≡ 0)
    → sets l i (zone_list rows s) ≡ sets (set l i (next rows s)) (i + 1) (zone_list rows (without s (next rows s)))
store_step rows {s} l i h ne = rw (zone-step rows h ne, add-one i)

-- what remains has one type less
pub size_step : (rows : List ℕ) {s : ℕ} → s < 2 ^ 32 → ¬ (s ≡ 0) → size s ≡ suc (size (without s (next rows s)))
size_step rows {s} h ne = size-without (next rows s) h (next-has rows h ne)
