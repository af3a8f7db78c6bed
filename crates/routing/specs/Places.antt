-- Where the route lies in the two lent lists: what is left of it is an end part of the zone that the region chooses. The parts of the program that work on the lists promise these;
-- that they are the steps of routing is proved (proofs/Parts.antt). Assumes nothing.
use Rattle.std.specs.Prelude.{ℕ, ◌-◌, ◌≡◌, Bool, false, cond, List, eqb, length, Option, Some, None, Result, is_ok, ⊤}
use Rattle.refusal.specs.declared.Refusal.TheVariants.{RuleBroken, Malformed, ListTooShort}
use Rattle.plan.specs.declared.Region.{Region}
use Rattle.plan.specs.declared.Subscriber.{Subscriber}
use Rattle.plan.specs.declared.Plan.{Plan}
use Rattle.plan.specs.Parts.{box}
use Rattle.setup.specs.declared.Route.{Route}
use Rattle.setup.specs.declared.Route.TheVariants.{Whole, Suffix, Listed}
use Rattle.setup.specs.declared.Setup.{Setup}
use Rattle.setup.specs.Setups.{fault_in, faultless}
use Rattle.routing.specs.declared.Routed.{Routed}
use Rattle.routing.specs.Steps.{before, tail, region3, route3, outer3, callee4, received4}
use Rattle.refusal.specs.Numbers.{unless}
use Rattle.routing.specs.Routing.{roomy}
use Rattle.refusal.specs.declared.Refusal.{Refusal}

-- the place of the zone at which the expanded route begins
abbrev pub suffix_begins : Option ℕ → List ℕ → ℕ
suffix_begins None zone = 0
suffix_begins (Some t) zone = before t zone

abbrev pub begins : Route → Option ℕ → List ℕ → List ℕ → ℕ
begins Whole _ l zone = 0
begins Suffix placing l zone = suffix_begins placing zone
begins Listed _ l zone = length zone - length l

-- step 4, for what steps 1 to 3 gave
unfoldable pub delivered : Plan → Setup → ℕ → Region → Option ℕ → List ℕ → Routed
delivered p out target r outer rest = record { callee = callee4 p out.source target r rest; setup = received4 out target r outer rest; left = length (tail rest) }

-- steps 3 and 4, for what steps 1 and 2 gave
unfoldable pub advanced : Plan → Setup → ℕ → List ℕ → List ℕ → Routed
advanced p out target rest targetZone =
    delivered p out target (region3 out.region rest) (outer3 out.region rest out.outer) (route3 out.region rest targetZone)

-- what is settled before them, by the zone in which the setup is expanded and the reversible types: whoever asks need not have the plan
unfoldable pub settled_in : Bool → List ℕ → ℕ → Setup → Result ⊤ Refusal → ℕ → ℕ → Result ⊤ Refusal
settled_in kept zone reversible out later sourceRoom targetRoom =
    unless kept (RuleBroken 0)
    (unless (faultless (fault_in zone reversible out)) Malformed
    (unless (roomy sourceRoom targetRoom) ListTooShort later))

-- ---- the look-up of an interface box: the kind and number of the first that the subscriber lists, or nothing
abbrev pub first_listed : Subscriber → Option (ℕ × ℕ)
first_listed s = cond (eqb s.count 0) None (Some (s.kind, box s 0))

-- ---- whatever a part of a plan shows

-- what was lent, beside an answer: after a refusal it is as it was before
abbrev pub KeptBeside : {A : Type 0} → Result A Refusal → List ℕ → List ℕ → Type 0
KeptBeside o before after = is_ok o ≡ false → after ≡ before
