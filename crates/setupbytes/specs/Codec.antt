-- A setup as 110 bytes: tagged fields as in the plan file (a tag of one byte, a length of two, numbers high byte first), each with one length, so that every field has one place.
-- Assumes nothing.
use Rattle.std.specs.Prelude.{ℕ, Bool, ◌&&◌, cond, List, [], ◌∷◌, ◌++◌, eqb, length, get_or, take, drop, Option, Some, None}
use Rattle.typeset.specs.Sets.{every}
use Rattle.plan.specs.declared.Region.{Region}
use Rattle.plan.specs.declared.Region.TheVariants.{Source, Target}
use Rattle.setup.specs.declared.Route.{Route}
use Rattle.setup.specs.declared.Route.TheVariants.{Whole, Suffix, Listed}
use Rattle.setup.specs.declared.Setup.{Setup}
use Rattle.setup.specs.Setups.{blank}
use Rattle.planbytes.specs.Numbers.{high, number}
use Rattle.planbytes.specs.Format.{field}

-- ---- the numbers of the cases

-- 1 for the source region, 2 for the target region
abbrev pub region_number : Region → ℕ
region_number Source = 1
region_number Target = 2

-- 1 whole, 2 suffix, 3 a list
abbrev pub route_number : Route → ℕ
route_number Whole = 1
route_number Suffix = 2
route_number Listed = 3

-- a placing type or an outer address: 0 and 0 for none; else 1 and its number
abbrev pub given : {A : Type 0} → Option A → ℕ
given None = 0
given (Some n) = 1

abbrev pub or_zero : Option ℕ → ℕ
or_zero None = 0
or_zero (Some n) = n

-- ---- the bytes

-- tags 1 to 6: region, source, target, route, placing type, outer address
unfoldable pub head_of : ℕ → ℕ → ℕ → ℕ → ℕ → ℕ → ℕ → ℕ → List ℕ
head_of region source target route placed type given outer =
    field 1 (region ∷ []) ++ field 2 (high 4 source) ++ field 3 (high 4 target) ++ field 4 (route ∷ []) ++ field 5 (placed ∷ type ∷ []) ++ field 6 (given ∷ high 4 outer)

unfoldable pub head : Setup → List ℕ
head s =
    head_of (region_number s.region) s.source s.target (route_number s.route) (given s.placing) (or_zero s.placing) (given s.outer) (or_zero s.outer)

-- tag 7: how many symbols the string has, and its 32 places; tag 8: how many types the list has, and its 32 places; tag 127, no body
unfoldable pub setup_bytes : Setup → List ℕ
setup_bytes s =
    head s ++ field 7 (s.dialled.len ∷ s.dialled.symbols) ++ field 8 (s.list.len ∷ s.list.types) ++ field 127 []

-- ---- what 110 bytes say, each field at its place, whatever stands there

abbrev pub region_said : ℕ → Region
region_said n = cond (eqb n 1) Source Target

abbrev pub route_said : ℕ → Route
route_said n = cond (eqb n 1) Whole (cond (eqb n 2) Suffix Listed)

-- none where 0 stands before the number
abbrev pub said : {A : Type 0} → ℕ → A → Option A
said k n = cond (eqb k 0) None (Some n)

unfoldable pub fields_in : List ℕ → Setup
fields_in b = record {
  region = region_said (get_or b 3 0);
  source = number (take 4 (drop 7 b));
  dialled = record { symbols = take 32 (drop 39 b); len = get_or b 38 0 };
  target = number (take 4 (drop 14 b));
  route = route_said (get_or b 21 0);
  list = record { types = take 32 (drop 75 b); len = get_or b 74 0 };
  placing = said (get_or b 25 0) (get_or b 26 0);
  outer = said (get_or b 30 0) (number (take 4 (drop 31 b)));
}

-- two runs of 110 bytes are the same
unfoldable pub same : List ℕ → List ℕ → Bool
same a b = every 110 (λ i. eqb (get_or a i 0) (get_or b i 0))

-- The setup that some bytes are: the one whose 110 bytes they are. Bytes that are no setup's stand for the blank setup, which is not well formed (it has no routing address), so that
-- every operation refuses them where it refuses such a setup: with 5, or with an earlier refusal that applies.
unfoldable pub setup_in : List ℕ → Setup
setup_in b = cond (eqb (length b) 110 && same (setup_bytes (fields_in b)) b) (fields_in b) blank
