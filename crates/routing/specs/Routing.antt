-- Routing as an operation: what is answered for any plan, setup and lent lists, and what the lists hold afterwards. Refusals 23, 5, 18 in this order; then one of the caller's own,
-- where the caller has more to settle (placing: 16, 11). Assumes nothing.
use Rattle.std.specs.Prelude.{ℕ, Bool, not, ◌&&◌, cond, List, ◌++◌, leb, length, drop, Option, Some, None, Result, Ok, Err, ⊤}
use Rattle.refusal.specs.declared.Refusal.{Refusal}
use Rattle.refusal.specs.declared.Refusal.TheVariants.{RuleBroken, Malformed, ListTooShort}
use Rattle.refusal.specs.Numbers.{◌>>=◌, unless, number_said, place_said}
use Rattle.plan.specs.declared.Region.TheVariants.{Source, Target}
use Rattle.plan.specs.declared.Plan.{Plan}
use Rattle.plan.specs.Sound.{sound}
use Rattle.zone.specs.Answer.{zone_at}
use Rattle.setup.specs.declared.Setup.{Setup}
use Rattle.setup.specs.Setups.{well_formed}
use Rattle.routing.specs.declared.Callee.{Callee}
use Rattle.routing.specs.declared.Routed.{Routed}
use Rattle.routing.specs.Steps.{target1, callee_of, received_of, left_of}

-- 18: each of the two lists has room for 32 types
unfoldable pub roomy : ℕ → ℕ → Bool
roomy sourceRoom targetRoom = leb 32 sourceRoom && leb 32 targetRoom

-- the first refusal that applies, or nothing, by the verdict on the plan
unfoldable pub settled_by : Bool → Plan → Setup → Result ⊤ Refusal → ℕ → ℕ → Result ⊤ Refusal
settled_by kept p out later sourceRoom targetRoom =
    unless kept (RuleBroken 0)
    (unless (well_formed p out) Malformed
    (unless (roomy sourceRoom targetRoom) ListTooShort later))

abbrev pub settled : Plan → Setup → Result ⊤ Refusal → ℕ → ℕ → Result ⊤ Refusal
settled p out later sourceRoom targetRoom = settled_by (sound p) p out later sourceRoom targetRoom

-- the callee box, where nothing is refused
unfoldable pub outcome_by : Bool → Plan → Setup → Result ⊤ Refusal → ℕ → ℕ → Result Callee Refusal
outcome_by kept p out later sourceRoom targetRoom = settled_by kept p out later sourceRoom targetRoom >>= λ ok. Ok (callee_of p out)

abbrev pub outcome : Plan → Setup → Result ⊤ Refusal → ℕ → ℕ → Result Callee Refusal
outcome p out later sourceRoom targetRoom = outcome_by (sound p) p out later sourceRoom targetRoom

-- what is answered: the callee box, the setup received and how many types are left in it; or the refusal
abbrev pub answered : Result Callee Refusal → Setup → ℕ → Result Routed Refusal
answered o s n = o >>= λ c. Ok (record { callee = c; setup = s; left = n })

unfoldable pub answer_by : Bool → Plan → Setup → Result ⊤ Refusal → ℕ → ℕ → Result Routed Refusal
answer_by kept p out later sourceRoom targetRoom = answered (outcome_by kept p out later sourceRoom targetRoom) (received_of p out) (left_of p out)

abbrev pub answer : Plan → Setup → Result ⊤ Refusal → ℕ → ℕ → Result Routed Refusal
answer p out later sourceRoom targetRoom = answer_by (sound p) p out later sourceRoom targetRoom

-- a lent list afterwards: the zone from place 0 on and the old places past it; as it was, beside a refusal
abbrev pub lent : Result Callee Refusal → List ℕ → List ℕ → List ℕ
lent (Ok c) zone l = zone ++ drop (length zone) l
lent (Err r) zone l = l

-- the list for the source's zone, and the list for the target's, the target as after step 1
unfoldable pub source_list_after : Plan → Setup → Result Callee Refusal → List ℕ → List ℕ
source_list_after p out o l = lent o (zone_at p Source out.source) l

unfoldable pub target_list_after : Plan → Setup → Result Callee Refusal → List ℕ → List ℕ
target_list_after p out o l = lent o (zone_at p Target (target1 out)) l

-- 23 for a plan that breaks a rule, 5 for a setup that is not well formed, 18 for a list shorter than 32, in this order; then the caller's own
unfoldable pub number_given : Plan → Setup → Result ⊤ Refusal → ℕ → ℕ → ℕ
number_given p out later sourceRoom targetRoom =
    cond (not (sound p)) 23 (cond (not (well_formed p out)) 5 (cond (not (roomy sourceRoom targetRoom)) 18 (number_said later)))

unfoldable pub place_given : Plan → Setup → Result ⊤ Refusal → ℕ → ℕ → Option ℕ
place_given p out later sourceRoom targetRoom =
    cond (not (sound p)) (Some 0) (cond (well_formed p out && roomy sourceRoom targetRoom) (place_said later) None)
