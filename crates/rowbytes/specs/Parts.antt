-- Where a command finds its record, and what the code makes of the bytes once a call is routed. Contracts of parts of the code go by this. Assumes nothing.
use Rattle.std.specs.Prelude.{ℕ, ◌*◌, Bool, true, false, cond, List, Result, Ok, Err, nat_lt}
use Rattle.std.proofs.lemmas.List.Edits.{sets}
use Rattle.refusal.specs.declared.Refusal.TheVariants.{NoSuchCall, RowTooLong}
use Rattle.call.specs.declared.Command.{Command}
use Rattle.call.specs.Row.{named}
use Rattle.recordbytes.specs.Steps.{Stepped, refusing_at, command_at}
use Rattle.rowbytes.specs.Rows.{records_in, row_in, placed_bytes}
use Rattle.refusal.specs.declared.Refusal.{Refusal}

-- a call is placed in the record r under this use number, where the row has the record
abbrev pub put_placed : List ℕ → ℕ → ℕ → List ℕ
put_placed b r n = cond (nat_lt r (records_in b)) (sets b (614 * r) (placed_bytes n)) b

-- A command that is named finds the record r, where it is not free and of this use: 16, 10. One for a port finds the first record.
abbrev pub found_in : Bool → List ℕ → ℕ → ℕ → Result ℕ Refusal
found_in true b r u = cond (nat_lt 1024 (records_in b)) (Err RowTooLong) (cond (named (row_in b) r u) (Ok (614 * r)) (Err NoSuchCall))
found_in false b r u = Ok 0

-- and what it does there
abbrev pub commanded_by : Result ℕ Refusal → List ℕ → Command → Stepped
commanded_by (Err x) b k = refusing_at b x
commanded_by (Ok at) b k = command_at b at k
