-- Setups (manual 5.2), and which fault one has. What stands past the length of a string or of a list does not count. Assumes nothing.
use Rattle.std.specs.Prelude.{ℕ, ◌+◌, ◌-◌, Bool, true, false, not, ◌&&◌, cond, List, [], eqb, leb, length, get_or, take, Option, Some, None}
use Rattle.typeset.specs.Sets.{has, every}
use Rattle.plan.specs.declared.Region.{Region}
use Rattle.plan.specs.declared.Region.TheVariants.{Source, Target}
use Rattle.plan.specs.declared.Plan.{Plan}
use Rattle.plan.specs.Parts.{legal}
use Rattle.zone.specs.declared.Zone.{Zone}
use Rattle.zone.specs.Order.{held, list_of}
use Rattle.zone.specs.Answer.{zone_at}
use Rattle.setup.specs.declared.Route.{Route}
use Rattle.setup.specs.declared.Route.TheVariants.{Whole, Suffix, Listed}
use Rattle.setup.specs.declared.Setup.{Setup}
use Rattle.setup.specs.declared.Fault.{Fault}
use Rattle.setup.specs.declared.Fault.TheVariants.{BadAddressOrString, NoRoutingAddress, NoEndPart, WrongPlacing, WrongOuter}
use Rattle.setup.specs.Dialling.{dialled, legal_dialled}

-- of a source and a target, the one that a region routes by: the source in the source region, the target in the target region; and the other one
abbrev pub routing : Region → ℕ → ℕ → ℕ
routing Source source target = source
routing Target source target = target

abbrev pub other : Region → ℕ → ℕ → ℕ
other Source source target = target
other Target source target = source

-- the routing address of a setup
unfoldable pub routing_address : Setup → ℕ
routing_address s = routing s.region s.source s.target

-- a list is an end part of a zone: its last types, in their order. The empty list is one, and so is the whole zone
unfoldable pub end_part : List ℕ → List ℕ → Bool
end_part l z = leb (length l) (length z) && every (length l) (λ i. eqb (get_or l i 0) (get_or z (length z - length l + i) 0))

-- ---- what a well-formed setup keeps, in the order in which faults are named

abbrev pub outer_legal : Option ℕ → Bool
outer_legal None = true
outer_legal (Some a) = legal a

-- its addresses are in range and its string is legal
unfoldable pub in_range : Setup → Bool
in_range s = legal s.source && legal s.target && outer_legal s.outer && legal_dialled s.dialled

-- a list is an end part of the routing address's zone
unfoldable pub list_fits : List ℕ → Zone → Bool
list_fits zone l = leb l.len 32 && end_part (list_of l) zone

abbrev pub route_fits : Route → Bool → Bool
route_fits Whole fits = true
route_fits Suffix fits = true
route_fits Listed fits = fits

-- suffix has a reversible placing type, and other routes have none
abbrev pub unplaced : Option ℕ → Bool
unplaced None = true
unplaced (Some t) = false

abbrev pub placed_by : ℕ → Option ℕ → Bool
placed_by reversible None = false
placed_by reversible (Some t) = has t reversible

abbrev pub placing_fits : ℕ → Route → Option ℕ → Bool
placing_fits reversible Whole placing = unplaced placing
placing_fits reversible Suffix placing = placed_by reversible placing
placing_fits reversible Listed placing = unplaced placing

-- outer is absent in the target region and, where present, not 0
abbrev pub outer_absent : Option ℕ → Bool
outer_absent None = true
outer_absent (Some a) = false

abbrev pub outer_given : Option ℕ → Bool
outer_given None = true
outer_given (Some a) = not (eqb a 0)

abbrev pub outer_fits : Region → Option ℕ → Bool
outer_fits Source outer = outer_given outer
outer_fits Target outer = outer_absent outer

-- the first of these that a setup does not keep, if any, where `zone` is the zone of its routing address
unfoldable pub fault_in : List ℕ → ℕ → Setup → Option Fault
fault_in zone reversible s =
    cond (not (in_range s)) (Some BadAddressOrString)
    (cond (eqb (routing_address s) 0) (Some NoRoutingAddress)
    (cond (not (route_fits s.route (list_fits zone s.list))) (Some NoEndPart)
    (cond (not (placing_fits reversible s.route s.placing)) (Some WrongPlacing)
    (cond (not (outer_fits s.region s.outer)) (Some WrongOuter) None))))

-- the zone that a route is held against: only a list needs one
abbrev pub zone_asked : Route → List ℕ → List ℕ
zone_asked Whole zone = []
zone_asked Suffix zone = []
zone_asked Listed zone = zone

unfoldable pub fault : Plan → Setup → Option Fault
fault p s = fault_in (zone_at p s.region (routing_address s)) p.types.reversible s

abbrev pub faultless : Option Fault → Bool
faultless None = true
faultless (Some f) = false

unfoldable pub well_formed : Plan → Setup → Bool
well_formed p s = faultless (fault p s)

-- ---- the blank setup: nothing in it

unfoldable pub blank : Setup
blank = record {
  region = Source;
  source = 0;
  dialled = dialled [];
  target = 0;
  route = Whole;
  list = held [];
  placing = None;
  outer = None;
}
