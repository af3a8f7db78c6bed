-- The journey of a setup when no box changes anything: each feature box sends on what it received (5.5, without an argument), until a box is reached that is no feature box.
-- Assumes nothing.
use Rattle.std.specs.Prelude.{ℕ, zero, suc, List, [], ◌∷◌, ◌++◌, length}
use Rattle.plan.specs.declared.Region.TheVariants.{Source, Target}
use Rattle.plan.specs.declared.Plan.{Plan}
use Rattle.zone.specs.Answer.{zone_at}
use Rattle.setup.specs.declared.Setup.{Setup}
use Rattle.making.specs.Making.{continued_setup}
use Rattle.routing.specs.declared.Callee.{Callee}
use Rattle.routing.specs.declared.Callee.TheVariants.{Feature, Line, Trunk, Resource, Error}
use Rattle.routing.specs.Interface.{interface_at, address_of}
use Rattle.routing.specs.Steps.{callee_of, received_of, left_of}

-- a hop: the callee box, and how many types are left in the setup that it receives
pub record Hop : Type 0 where
  pub callee : Callee
  pub left : ℕ

abbrev pub hop : Callee → ℕ → Hop
hop c n = record { callee = c; left = n }

-- what a feature box at address a sends on
unfoldable pub passed_on : ℕ → Setup → Setup
passed_on a s = continued_setup a s 0 [] 0

-- a journey goes on from a feature box
abbrev pub onward : Callee → List Hop → List Hop
onward (Feature t a) rest = rest
onward (Line n a) rest = []
onward (Trunk n a) rest = []
onward (Resource n a) rest = []
onward (Error a) rest = []

-- at most n hops of the journey of a setup
unfoldable pub hops : ℕ → Plan → Setup → List Hop
hops zero p s = []
hops (suc n) p s = hop (callee_of p s) (left_of p s) ∷ onward (callee_of p s) (hops n p (passed_on (address_of (callee_of p s)) (received_of p s)))

-- two zones of at most 32 types, and one box more
abbrev pub all : ℕ
all = 65

unfoldable pub journey : Plan → Setup → List Hop
journey p s = hops all p s

-- ---- what a journey is: the zone of an address visited, type by type

unfoldable pub visits : List ℕ → ℕ → List Hop
visits [] a = []
visits (t ∷ ts) a = hop (Feature t a) (length ts) ∷ visits ts a

-- the source zone, then the target zone, then one interface or error box
unfoldable pub both_zones : Plan → ℕ → ℕ → List Hop
both_zones p source target = visits (zone_at p Source source) source ++ visits (zone_at p Target target) target ++ hop (interface_at p target) 0 ∷ []
