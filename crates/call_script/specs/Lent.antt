-- A row and a port BY VALUE, as the trials hold them: what a command and a placing leave of the first n of four records. Assumes nothing.
use Rattle.std.specs.Prelude.{ℕ, cond, List, [], ◌∷◌, ◌++◌, take, drop, ltb, Ok, None}
use Rattle.plan.specs.declared.Plan.{Plan}
use Rattle.setup.specs.declared.Setup.{Setup}
use Rattle.call.specs.declared.Call.{Call}
use Rattle.call.specs.declared.Command.{Command}
use Rattle.call.specs.Protocol.{Answer}
use Rattle.call.specs.Row.{Reply, Turn, placed_at, says, command, record_at, turn}
use Rattle.placing.specs.Rows.{placed_in, row_after}
use Rattle.call_script.specs.declared.Answered.{Answered}
use Rattle.call_script.specs.declared.PortPlaced.{PortPlaced}
use Rattle.call_script.specs.declared.RowPlaced.{RowPlaced}

-- the first n of the records, all four where n is above
abbrev pub within : ℕ → ℕ
within n = cond (ltb 4 n) 4 n

abbrev pub row_in : List Call → ℕ → List Call
row_in calls n = take (within n) calls

-- what a reply to a command answers: it places no call
abbrev pub answer_of : Reply → Answer
answer_of (placed_at r n) = Ok None
answer_of (says a) = a

-- the row's turn that a command comes to; the records past the row stay
abbrev pub turn_in : List Call → ℕ → ℕ → ℕ → Command → Turn
turn_in calls n r u k = turn (row_in calls n) (command r u k)

abbrev pub commanded_in : List Call → ℕ → ℕ → ℕ → Command → Answered
commanded_in calls n r u k =
    record { answer = answer_of (turn_in calls n r u k).reply; calls = (turn_in calls n r u k).row ++ drop (within n) calls }

-- a port's record, and the first k of the records; those past them stay
abbrev pub port_placed : Call → Plan → Setup → ℕ → ℕ → PortPlaced
port_placed c p s n m = record { call = record_at (row_after (c ∷ []) p s n m) 0; placed = placed_in (c ∷ []) p s n m }

abbrev pub row_placed : List Call → ℕ → Plan → Setup → ℕ → ℕ → RowPlaced
row_placed calls k p s n m = record { placed = placed_in (row_in calls k) p s n m; calls = row_after (row_in calls k) p s n m ++ drop (within k) calls }
