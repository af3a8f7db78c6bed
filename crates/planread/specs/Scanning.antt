-- What the plan of a file shows of two addresses, and the parts of the code that find it. Assumes nothing.
use Rattle.std.specs.Prelude.{ℕ, List, drop, replicate, Result, Ok, Err, ⊤}
use Rattle.refusal.specs.declared.Refusal.{Refusal}
use Rattle.refusal.specs.Numbers.{◌>>=◌}
use Rattle.plan.specs.declared.Types.{Types}
use Rattle.plan.specs.declared.Subscriber.{Subscriber}
use Rattle.plan.specs.declared.Plan.{Plan}
use Rattle.plan.specs.declared.Seen.{Seen}
use Rattle.plan.specs.Parts.{no_subscriber}
use Rattle.plan.specs.Find.{seen}
use Rattle.planread.specs.declared.Head.{Head}
use Rattle.planread.specs.Reading.{plan_of, ended, read_from}

-- what the plan that was read shows of two addresses; or the refusal of reading
unfoldable pub scanned : ℕ → ℕ → Result Plan Refusal → Result Seen Refusal
scanned first second r = r >>= λ p. Ok (seen p first second)

-- a reading without its plan
abbrev pub judged : Result Plan Refusal → Result ⊤ Refusal
judged (Ok p) = Ok tt
judged (Err r) = Err r

-- ---- parts of the code

-- the five sets, the orders and two subscribers
abbrev pub sight : Types → List ℕ → List ℕ → Subscriber → Subscriber → Seen
sight t source target one other = record { types = t; source_order = source; target_order = target; first = one; second = other }

-- what looking through the subscribers answers, with the five sets and the orders beside it
abbrev pub sighted : Result (Subscriber × Subscriber) Refusal → Types → List ℕ → List ℕ → Result Seen Refusal
sighted r t source target = r >>= λ two. Ok (sight t source target two.0 two.1)

-- after the end field: what is shown, or bytes too many
unfoldable pub shown_end : Types → List ℕ → List ℕ → Subscriber → Subscriber → ℕ → List ℕ → Result Seen Refusal
shown_end t source target first second at left = ended (sight t source target first second) at left

-- reading on after the four fixed fields, by what they say
abbrev pub onward : Result Head Refusal → List ℕ → Result Plan Refusal
onward h bytes = h >>= λ f. read_from 257 4 (plan_of f.types f.source f.target (replicate 256 no_subscriber) 0) 289 (drop 289 bytes)
