-- Document 01's table of refusals for the three ways to make a setup: which rows a way can give, each as the table words it, in 01's order (23, then 1 to 9 ascending).
-- Assumes nothing.
use Rattle.std.specs.Prelude.{ℕ, Bool, true, false, not, ◌&&◌, ◌||◌, cond, List, [], ◌∷◌, eqb}
use Rattle.typeset.specs.Sets.{has}
use Rattle.plan.specs.declared.Region.{Region}
use Rattle.plan.specs.declared.Plan.{Plan}
use Rattle.plan.specs.Parts.{legal}
use Rattle.plan.specs.Sound.{sound}
use Rattle.setup.specs.declared.Setup.{Setup}
use Rattle.setup.specs.Dialling.{legal_string}
use Rattle.setup.specs.Setups.{routing, routing_address, well_formed}
use Rattle.making.specs.declared.Maker.{Maker}
use Rattle.making.specs.Making.{box_address, box_type, type_exists, makes_new, makes_more, address_held, turned, is_list}

-- a row of the table: its number, and whether it applies
pub record Row : Type 0 where
  pub number : ℕ
  pub applies : Bool

abbrev pub row : ℕ → Bool → Row
row n b = record { number = n; applies = b }

-- the number of the first row that applies; 0 where none does
unfoldable pub first_of : List Row → ℕ
first_of [] = 0
first_of (r ∷ rs) = cond r.applies r.number (first_of rs)

-- no row applies
unfoldable pub none_of : List Row → Bool
none_of [] = true
none_of (r ∷ rs) = not r.applies && none_of rs

-- the row numbered n applies, and none that is before it
unfoldable pub given_in : ℕ → List Row → Bool
given_in n [] = false
given_in n (r ∷ rs) = cond (eqb r.number n) r.applies (not r.applies && given_in n rs)

-- ---- rows that two ways share

-- 8: there is an argument for the routing address of region r, and it is the box's own address
unfoldable pub own_given : Region → ℕ → ℕ → ℕ → Bool
own_given r box sourceArg targetArg = not (eqb (routing r sourceArg targetArg) 0) && eqb (routing r sourceArg targetArg) box

-- 9: an address argument above 999,999,999
unfoldable pub too_large : ℕ → ℕ → Bool
too_large sourceArg targetArg = not (legal sourceArg) || not (legal targetArg)

-- ---- the rows of each way

unfoldable pub new_rows : Plan → Maker → List ℕ → ℕ → List Row
new_rows p m string targetArg =
    row 23 (not (sound p))
    ∷ row 1 (not (type_exists p m))
    ∷ row 2 (not (makes_new m))
    ∷ row 3 (not (address_held p m))
    ∷ row 7 (not (legal_string string))
    ∷ row 9 (not (legal targetArg))
    ∷ []

unfoldable pub continued_rows : Plan → Maker → Setup → ℕ → List ℕ → ℕ → List Row
continued_rows p m s sourceArg string targetArg =
    row 23 (not (sound p))
    ∷ row 1 (not (type_exists p m))
    ∷ row 2 (not (makes_more m))
    ∷ row 3 (not (address_held p m))
    ∷ row 5 (not (well_formed p s) || not (is_list s.route))
    ∷ row 6 (not (eqb (routing_address s) (box_address m)))
    ∷ row 7 (not (legal_string string))
    ∷ row 8 (own_given s.region (box_address m) sourceArg targetArg)
    ∷ row 9 (too_large sourceArg targetArg)
    ∷ []

unfoldable pub reversed_rows : Plan → Maker → Setup → ℕ → List ℕ → ℕ → List Row
reversed_rows p m s sourceArg string targetArg =
    row 23 (not (sound p))
    ∷ row 1 (not (type_exists p m))
    ∷ row 2 (not (makes_more m))
    ∷ row 3 (not (address_held p m))
    ∷ row 4 (not (has (box_type m) p.types.reversible))
    ∷ row 5 (not (well_formed p s))
    ∷ row 7 (not (legal_string string))
    ∷ row 8 (own_given (turned s.region) (box_address m) sourceArg targetArg)
    ∷ row 9 (too_large sourceArg targetArg)
    ∷ []
