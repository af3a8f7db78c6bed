-- A journey as the program makes it, hop by hop: what its parts promise. That this is the journey (Hops.antt) is proved (proofs/Trips.antt). Assumes nothing.
use Rattle.std.specs.Prelude.{ℕ, ◌+◌, List, [], length, Option, Some, None, Result, Ok, Err}
use Rattle.refusal.specs.declared.Refusal.{Refusal}
use Rattle.plan.specs.declared.Plan.{Plan}
use Rattle.setup.specs.declared.Setup.{Setup}
use Rattle.making.specs.declared.Maker.TheVariants.{Feature as FeatureMaker}
use Rattle.making.specs.Making.{continued_answer}
use Rattle.routing.specs.declared.Callee.{Callee}
use Rattle.routing.specs.declared.Callee.TheVariants.{Feature, Line, Trunk, Resource, Error}
use Rattle.routing.specs.declared.Routed.{Routed}
use Rattle.routing.specs.Routing.{answer}
use Rattle.journey.specs.declared.Trip.{Trip}
use Rattle.journey.specs.Listing.{line}

-- the setup that was made, if one was
abbrev pub made : Result Setup Refusal → Option Setup
made (Ok s) = Some s
made (Err r) = None

-- what a box sends on when it changes nothing: a box that is no feature box sends nothing
abbrev pub sent_on : Plan → Callee → Setup → Option Setup
sent_on p (Feature t a) s = made (continued_answer p (FeatureMaker t a) s 0 [] 0)
sent_on p (Line n a) s = None
sent_on p (Trunk n a) s = None
sent_on p (Resource n a) s = None
sent_on p (Error a) s = None

-- the line of a hop, and the setup that is sent on after it; a refusal, which no journey meets, ends it
abbrev pub line_of : Result Routed Refusal → ℕ → List ℕ
line_of (Ok r) k = line k r.callee r.left
line_of (Err e) k = []

abbrev pub sent_after : Plan → Result Routed Refusal → Option Setup
sent_after p (Ok r) = sent_on p r.callee r.setup
sent_after p (Err e) = None

-- the line of the next hop, if there is one
abbrev pub text_of : Plan → Option Setup → ℕ → List ℕ
text_of p (Some s) k = line_of (answer p s (Ok tt) 32 32) k
text_of p None k = []

unfoldable pub hop_text : Plan → Trip → ℕ → List ℕ
hop_text p t k = text_of p t.next k

-- the journey after it
abbrev pub next_of : Plan → Option Setup → Option Setup
next_of p (Some s) = sent_after p (answer p s (Ok tt) 32 32)
next_of p None = None

unfoldable pub hopped : Plan → Trip → ℕ → Trip
hopped p t k = record { next = next_of p t.next; at = t.at + length (hop_text p t k) }
