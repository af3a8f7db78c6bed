-- The zone of a set of types under an order of 32 rows (manual 3.4, 3.5). The text of the manual makes zones from the choice of a region;
-- what a subscriber subscribes to is meant. House choice: next comes the lowest-numbered remaining type that no remaining type precedes.
-- Assumes nothing.
use Rattle.std.specs.Prelude.{ℕ, zero, suc, ◌-◌, ◌&&◌, cond, List, [], ◌∷◌, ◌++◌, eqb, length, take, replicate}
use Rattle.typeset.specs.Sets.{has, some, set_of, without, lowest, size, minus}
use Rattle.order.specs.Rules.{precedes}
use Rattle.zone.specs.declared.Zone.{Zone}

-- the types that some type of s precedes
unfoldable pub preceded : List ℕ → ℕ → ℕ
preceded rows s = set_of 32 (λ t. some 32 (λ u. has u s && precedes rows u t))

-- the types of s that no type of s precedes
unfoldable pub unpreceded : List ℕ → ℕ → ℕ
unpreceded rows s = minus s (preceded rows s)

-- the lowest type of s that no type of s precedes. In an order with a cycle, which no sound plan has, there may be none: then the lowest type of s.
unfoldable pub next : List ℕ → ℕ → ℕ
next rows s = cond (eqb (unpreceded rows s) 0) (lowest s) (lowest (unpreceded rows s))

-- n types of s: the next one, and n - 1 of those that then remain
unfoldable pub zone_from : ℕ → List ℕ → ℕ → List ℕ
zone_from zero rows s = []
zone_from (suc n) rows s = next rows s ∷ zone_from n rows (without s (next rows s))

-- the zone: as many types as s has, in order
unfoldable pub zone_list : List ℕ → ℕ → List ℕ
zone_list rows s = zone_from (size s) rows s

-- a list of types as the program holds it: then 0 in each place that is left of 32, and how many types there are
unfoldable pub held : List ℕ → Zone
held l = record { types = l ++ replicate (32 - length l) 0; len = length l }

-- what such a row of places holds: the first len places
unfoldable pub list_of : Zone → List ℕ
list_of z = take z.len z.types
