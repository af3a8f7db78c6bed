-- The parts of a plan that the rules speak of. Assumes nothing.
use Rattle.std.specs.Prelude.{ℕ, Bool, not, ◌&&◌, List, [], eqb, leb, get_or, replicate}
use Rattle.plan.specs.declared.Region.{Region}
use Rattle.plan.specs.declared.Region.TheVariants.{Source, Target}
use Rattle.plan.specs.declared.Types.{Types}
use Rattle.plan.specs.declared.Subscriber.{Subscriber}
use Rattle.plan.specs.declared.Plan.{Plan}

-- of what the source region has and what the target region has, what this region has
abbrev pub of_region : {A : Type 0} → Region → A → A → A
of_region Source source target = source
of_region Target source target = target

-- what is the plan's, or a subscriber's, in each region: the types that can be routed to, their order, and those subscribed to
abbrev pub choice : Region → Types → ℕ
choice Source t = t.source_choice
choice Target t = t.target_choice

abbrev pub order : Region → Plan → List ℕ
order Source p = p.source_order
order Target p = p.target_order

abbrev pub subscribed : Region → Subscriber → ℕ
subscribed Source s = s.source
subscribed Target s = s.target

-- an address as a number: 0, which is no address, or 1 to 999,999,999
unfoldable pub legal : ℕ → Bool
legal a = leb a 999999999

-- one that somebody can have: it is not 0
unfoldable pub given : ℕ → Bool
given a = legal a && not (eqb a 0)

-- a box number: 1 to 65,535
unfoldable pub box_number : ℕ → Bool
box_number n = leb 1 n && leb n 65535

-- what stands past the last of the 256 places: nobody
abbrev pub nobody : Subscriber
nobody = record { kind = 0; address = 0; source = 0; target = 0; boxes = []; count = 0 }

-- a place that nobody has: all zero
abbrev pub no_subscriber : Subscriber
no_subscriber = record { kind = 0; address = 0; source = 0; target = 0; boxes = replicate 4 0; count = 0 }

-- the subscriber at place i
abbrev pub at : List Subscriber → ℕ → Subscriber
at subs i = get_or subs i nobody

-- the box number at place x of a subscriber
abbrev pub box : Subscriber → ℕ → ℕ
box s x = get_or s.boxes x 0
