-- The look-up of an address, in any plan. Assumes nothing.
use Rattle.std.specs.Prelude.{ℕ, min, Bool, true, false, ◌&&◌, eqb, ltb, Option, Some, None}
use Rattle.typeset.specs.Sets.{least}
use Rattle.plan.specs.declared.Subscriber.{Subscriber}
use Rattle.plan.specs.declared.Plan.{Plan}
use Rattle.plan.specs.declared.Seen.{Seen}
use Rattle.plan.specs.Parts.{given, at, no_subscriber}

-- how many places are looked at: those in use, and never more than there are
unfoldable pub used : Plan → ℕ
used p = min p.count 256

-- the first place in use that has the address, or how many are in use
unfoldable pub first_with : Plan → ℕ → ℕ
first_with p a = least (used p) (λ i. eqb (at p.subscribers i).address a)

abbrev pub found_at : Bool → ℕ → Option ℕ
found_at true i = Some i
found_at false i = None

-- the subscriber of an address: at the first place in use that has it, or nothing. Nobody has 0, or a number that is no address
unfoldable pub lookup : Plan → ℕ → Option ℕ
lookup p a = found_at (given a && ltb (first_with p a) (used p)) (first_with p a)

-- ---- what a plan shows to an operation on one setup, which asks for two addresses

-- the subscriber who was found; all zero where there is none
abbrev pub holder_of : Plan → Option ℕ → Subscriber
holder_of p (Some i) = at p.subscribers i
holder_of p None = no_subscriber

unfoldable pub holder_at : Plan → ℕ → Subscriber
holder_at p a = holder_of p (lookup p a)

-- the types, the two orders, and the subscribers of the two addresses
unfoldable pub seen : Plan → ℕ → ℕ → Seen
seen p first second =
    record {
      types = p.types;
      source_order = p.source_order;
      target_order = p.target_order;
      first = holder_at p first;
      second = holder_at p second;
    }
