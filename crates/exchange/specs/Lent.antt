-- What is taken from a lent row, what names a record of it, and an answer beside it, in the words of the call's own `Row` and `Protocol`. What a command comes to is in the crate `commanding`. Assumes nothing.
use Rattle.std.specs.Prelude.{ℕ, Bool, false, List, Option, Some, None, slice_get}
use Rattle.call.specs.declared.Call.{Call}
use Rattle.call.specs.Protocol.{Answer}
use Rattle.call.specs.Row.{Turn, says, in_use}

-- an answer, and the row after it
abbrev pub answering : Answer → List Call → Turn
answering a row = record { reply = says a; row = row }

-- a record of a row, if the row has it
abbrev pub taken_at : List Call → ℕ → Option Call
taken_at row r = slice_get row r

-- there is such a record, not free, and of this use
abbrev pub answers_to : Option Call → ℕ → Bool
answers_to None u = false
answers_to (Some c) u = in_use c u
