-- A ROW OF CALLS IN LENT BYTES, 614 to a record, for programs in other languages: which records some bytes hold, and what clearing, commands and placing leave of the bytes.
-- Bytes past the last whole record belong to none. A port is a row of one. Assumes nothing.
use Rattle.std.specs.Prelude.{ℕ, zero, suc, ◌+◌, ◌*◌, ◌/◌, ◌%◌, cond, List, [], ◌∷◌, ◌++◌, length, drop, replicate}
use Rattle.std.proofs.lemmas.List.Edits.{sets}
use Rattle.ends.specs.declared.State.TheVariants.{Requesting, Waiting}
use Rattle.signalbytes.specs.Numbers.{state_number}
use Rattle.call.specs.declared.Call.{Call}
use Rattle.call.specs.declared.Command.{Command}
use Rattle.call.specs.Row.{Reply, placed_at, says, command, turn, granted}
use Rattle.recordbytes.specs.Records.{call_at}
use Rattle.recordbytes.specs.Steps.{step_at}

-- ---- the records of some bytes

-- how many whole records
abbrev pub records_in : List ℕ → ℕ
records_in b = length b / 614

-- n records, one after the other
unfoldable pub records : ℕ → List ℕ → ℕ → List Call
records zero b at = []
records (suc n) b at = call_at b at ∷ records n b (at + 614)

unfoldable pub row_in : List ℕ → List Call
row_in b = records (records_in b) b 0

-- ---- what is left of the bytes

-- every record cleared: 0 in all its bytes
unfoldable pub cleared_in : List ℕ → List ℕ
cleared_in b = replicate (614 * records_in b) 0 ++ drop (614 * records_in b) b

-- A command that the row grants changes what the record's own step changes; a refusal leaves every byte.
abbrev pub commanded_in : List ℕ → ℕ → ℕ → Command → List ℕ
commanded_in b r u k = cond (granted (turn (row_in b) (command r u k)).reply) (step_at b (614 * r) k).bytes b

-- A call placed under a use number: the caller requests, the callee waits, and nothing waits for either, so that all past the first four bytes is 0, whatever the record held.
abbrev pub placed_bytes : ℕ → List ℕ
placed_bytes n = state_number Requesting ∷ state_number Waiting ∷ n / 256 % 256 ∷ n % 256 ∷ replicate 610 0

-- by the row's reply: the record that placing answers with; a refusal leaves every byte
abbrev pub placed_by : Reply → List ℕ → List ℕ
placed_by (placed_at r n) b = sets b (614 * r) (placed_bytes n)
placed_by (says a) b = b
