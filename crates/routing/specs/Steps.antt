-- The four steps of routing (manual 6.2 to 6.5), for any plan and any setup. `out` is the setup sent. Assumes nothing.
use Rattle.std.specs.Prelude.{ℕ, ◌+◌, Bool, true, false, cond, List, [], ◌∷◌, eqb, ltb, length, get_or, drop, Option, Some, None}
use Rattle.typeset.specs.Sets.{least}
use Rattle.plan.specs.declared.Region.{Region}
use Rattle.plan.specs.declared.Region.TheVariants.{Source, Target}
use Rattle.plan.specs.declared.Plan.{Plan}
use Rattle.zone.specs.Order.{held, list_of}
use Rattle.zone.specs.Answer.{zone_at}
use Rattle.setup.specs.declared.Route.{Route}
use Rattle.setup.specs.declared.Route.TheVariants.{Whole, Suffix, Listed}
use Rattle.setup.specs.declared.Setup.{Setup}
use Rattle.setup.specs.Dialling.{dialled, string_of}
use Rattle.setup.specs.Setups.{routing}
use Rattle.embedded.specs.Embedded.{embedded}
use Rattle.routing.specs.declared.Callee.{Callee}
use Rattle.routing.specs.declared.Callee.TheVariants.{Feature}
use Rattle.routing.specs.Interface.{interface_at}

-- ---- step 1 (6.2): no target and the string embeds one: take it

abbrev pub dials : Option ℕ → ℕ
dials None = 0
dials (Some a) = a

unfoldable pub target1 : Setup → ℕ
target1 out = cond (eqb out.target 0) (dials (embedded (string_of out.dialled))) out.target

-- ---- step 2 (6.3): whole becomes the zone; suffix the part after the placing type, or the whole zone if that type isn't in it; a list is itself

-- the place at which type t first stands in a zone; the zone's length where it does not
unfoldable pub place_of : ℕ → List ℕ → ℕ
place_of t zone = least (length zone) (λ i. eqb (get_or zone i 0) t)

-- it stands there
unfoldable pub stands : ℕ → List ℕ → Bool
stands t zone = ltb (place_of t zone) (length zone)

-- how much of the zone lies before its suffix after t, t itself included
unfoldable pub before : ℕ → List ℕ → ℕ
before t zone = cond (stands t zone) (place_of t zone + 1) 0

unfoldable pub suffix_after : ℕ → List ℕ → List ℕ
suffix_after t zone = drop (before t zone) zone

abbrev pub suffix : Option ℕ → List ℕ → List ℕ
suffix None zone = zone
suffix (Some t) zone = suffix_after t zone

abbrev pub expanded : Route → Option ℕ → List ℕ → List ℕ → List ℕ
expanded Whole _ l zone = zone
expanded Suffix placing l zone = suffix placing zone
expanded Listed _ l zone = l

-- the zone in which a setup is expanded: that of its routing address, after step 1
unfoldable pub zone2 : Plan → Setup → List ℕ
zone2 p out = zone_at p out.region (routing out.region out.source (target1 out))

unfoldable pub route2 : Plan → Setup → List ℕ
route2 p out = expanded out.route out.placing (list_of out.list) (zone2 p out)

-- ---- step 3 (6.4): source region with nothing left: target region, the target's zone, outer dropped

abbrev pub empty : List ℕ → Bool
empty [] = true
empty (t ∷ ts) = false

abbrev pub exhausted : Region → List ℕ → Bool
exhausted Source rest = empty rest
exhausted Target rest = false

unfoldable pub region3 : Region → List ℕ → Region
region3 r rest = cond (exhausted r rest) Target r

unfoldable pub route3 : Region → List ℕ → List ℕ → List ℕ
route3 r rest targetZone = cond (exhausted r rest) targetZone rest

unfoldable pub outer3 : Region → List ℕ → Option ℕ → Option ℕ
outer3 r rest outer = cond (exhausted r rest) None outer

-- ---- step 4 (6.5): something left: the head type at the routing address, the tail stays in the setup. Nothing left: the target's interface box

abbrev pub chosen : List ℕ → ℕ → Callee → Callee
chosen [] address interface = interface
chosen (t ∷ ts) address interface = Feature t address

abbrev pub tail : List ℕ → List ℕ
tail [] = []
tail (t ∷ ts) = ts

-- the callee box, for what steps 1 to 3 gave: the target, the region and what is left of the route
unfoldable pub callee4 : Plan → ℕ → ℕ → Region → List ℕ → Callee
callee4 p source target r rest = chosen rest (routing r source target) (interface_at p target)

-- the setup received: source and string as they were sent, the tail of the route, no placing type
unfoldable pub received4 : Setup → ℕ → Region → Option ℕ → List ℕ → Setup
received4 out target r outer rest = record {
  region = r;
  source = out.source;
  dialled = dialled (string_of out.dialled);
  target = target;
  route = Listed;
  list = held (tail rest);
  placing = None;
  outer = outer;
}

-- ---- the whole: what is left after step 3, the callee box, and the setup received

unfoldable pub region_of : Plan → Setup → Region
region_of p out = region3 out.region (route2 p out)

unfoldable pub route_of : Plan → Setup → List ℕ
route_of p out = route3 out.region (route2 p out) (zone_at p Target (target1 out))

unfoldable pub callee_of : Plan → Setup → Callee
callee_of p out = callee4 p out.source (target1 out) (region_of p out) (route_of p out)

unfoldable pub received_of : Plan → Setup → Setup
received_of p out = received4 out (target1 out) (region_of p out) (outer3 out.region (route2 p out) out.outer) (route_of p out)

-- how many types are left in the setup received
unfoldable pub left_of : Plan → Setup → ℕ
left_of p out = length (tail (route_of p out))
