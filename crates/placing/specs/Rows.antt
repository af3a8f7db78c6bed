-- PLACING in a lent row (01 'Calls'): routing's refusals 23, 5, 18, then the row's own, 16 and 11; else the lowest free record takes the call. A port is a row of one. Assumes nothing.
use Rattle.std.specs.Prelude.{ℕ, Bool, cond, List, length, ltb, Result, Ok, Err, ⊤}
use Rattle.refusal.specs.declared.Refusal.TheVariants.{RowTooLong, NoFreeRecord}
use Rattle.plan.specs.declared.Plan.{Plan}
use Rattle.plan.specs.Sound.{sound}
use Rattle.setup.specs.declared.Setup.{Setup}
use Rattle.routing.specs.declared.Routed.{Routed}
use Rattle.refusal.specs.Numbers.{◌>>=◌}
use Rattle.call.specs.Protocol.{next_use}
use Rattle.routing.specs.Routing.{outcome_by, answer_by}
use Rattle.call.specs.declared.Call.{Call}
use Rattle.call.specs.Row.{Turn, place, record_at, lowest_free, refuses, turn}
use Rattle.placing.specs.declared.Placed.{Placed}
use Rattle.refusal.specs.declared.Refusal.{Refusal}
use Rattle.routing.specs.declared.Callee.{Callee}

-- what a row of n whose lowest free record is r refuses by itself: 16, 11
abbrev pub later_by : ℕ → ℕ → Result ⊤ Refusal
later_by n r = cond (ltb 1024 n) (Err RowTooLong) (cond (ltb r n) (Ok tt) (Err NoFreeRecord))

abbrev pub later_for : List Call → Result ⊤ Refusal
later_for row = later_by (length row) (lowest_free row)

-- what routing says with that, where the two lists have n and m places, by the verdict on the plan
abbrev pub outcome_in_by : Bool → List Call → Plan → Setup → ℕ → ℕ → Result Callee Refusal
outcome_in_by kept row p s n m = outcome_by kept p s (later_for row) n m

abbrev pub outcome_in : List Call → Plan → Setup → ℕ → ℕ → Result Callee Refusal
outcome_in row p s n m = outcome_in_by (sound p) row p s n m

abbrev pub answer_in_by : Bool → List Call → Plan → Setup → ℕ → ℕ → Result Routed Refusal
answer_in_by kept row p s n m = answer_by kept p s (later_for row) n m

abbrev pub answer_in : List Call → Plan → Setup → ℕ → ℕ → Result Routed Refusal
answer_in row p s n m = answer_in_by (sound p) row p s n m

-- Where the call is routed, the row places it; a refusal leaves the row as it was.
abbrev pub turned : List Call → Result Callee Refusal → Turn
turned row (Ok c) = turn row place
turned row (Err x) = refuses x row

-- Placing answers with the lowest free record, its use number stepped, and what routing gave; or with the refusal.
abbrev pub answered : List Call → Result Routed Refusal → Result Placed Refusal
answered row o =
    o >>= λ a. Ok (record { record_number = lowest_free row; use_number = next_use (record_at row (lowest_free row)).use_number; routed = a })

abbrev pub placed_in_by : Bool → List Call → Plan → Setup → ℕ → ℕ → Result Placed Refusal
placed_in_by kept row p s n m = answered row (answer_in_by kept row p s n m)

abbrev pub placed_in : List Call → Plan → Setup → ℕ → ℕ → Result Placed Refusal
placed_in row p s n m = placed_in_by (sound p) row p s n m

abbrev pub row_after_by : Bool → List Call → Plan → Setup → ℕ → ℕ → List Call
row_after_by kept row p s n m = (turned row (outcome_in_by kept row p s n m)).row

abbrev pub row_after : List Call → Plan → Setup → ℕ → ℕ → List Call
row_after row p s n m = row_after_by (sound p) row p s n m
