-- What a command comes to in a row, by the record taken from it. Assumes nothing.
use Rattle.std.specs.Prelude.{ℕ, cond, List, length, ltb}
use Rattle.refusal.specs.declared.Refusal.TheVariants.{NoSuchCall, RowTooLong}
use Rattle.call.specs.declared.Call.{Call}
use Rattle.call.specs.declared.Command.{Command}
use Rattle.call.specs.Protocol.{step}
use Rattle.call.specs.Row.{Turn, record_at, refuses, put}
use Rattle.exchange.specs.Lent.{taken_at, answers_to}

-- 16, 10, or the record's own step. A refusal leaves the row as it was. (It is the row's `turn`: `commanded-is` in proofs/Turns.antt.)
abbrev pub commanded : List Call → ℕ → ℕ → Command → Turn
commanded row r u k =
    cond (ltb 1024 (length row)) (refuses RowTooLong row)
    (cond (answers_to (taken_at row r) u) (put row r (step (record_at row r) k)) (refuses NoSuchCall row))
