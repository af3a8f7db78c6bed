-- The zone of an address in a region of a plan. Assumes nothing.
use Rattle.std.specs.Prelude.{ℕ, List, [], Option, Some, None, Result, Ok}
use Rattle.refusal.specs.declared.Refusal.{Refusal}
use Rattle.refusal.specs.Numbers.{◌>>=◌}
use Rattle.plan.specs.declared.Region.{Region}
use Rattle.plan.specs.declared.Plan.{Plan}
use Rattle.plan.specs.Parts.{order, subscribed, at}
use Rattle.plan.specs.Sound.{verdict}
use Rattle.plan.specs.Find.{lookup}
use Rattle.zone.specs.declared.Zone.{Zone}
use Rattle.zone.specs.Order.{zone_list, held}

-- the types that the subscriber who was found subscribes to in the region, in that region's order; nobody's zone is empty
unfoldable pub zone_for : Plan → Region → Option ℕ → List ℕ
zone_for p r (Some i) = zone_list (order r p) (subscribed r (at p.subscribers i))
zone_for p r None = []

-- the zone of an address in a region; an address that is not in the plan, or 0, has an empty one
unfoldable pub zone_at : Plan → Region → ℕ → List ℕ
zone_at p r a = zone_for p r (lookup p a)

-- what is answered for any plan: the zone, or 23 at place 0
unfoldable pub answer : Plan → Region → ℕ → Result Zone Refusal
answer p r a = verdict p >>= λ ok. Ok (held (zone_at p r a))
