-- The answers of a command in a row in document 01's numbers (exchange/specs/Said.antt). Assumes nothing.
use Prim.Native.Nat.{ℕ}
use mathlib.Core.Path.{◌≡◌, refl}
use mathlib.Core.Bool.{Bool, true, false, cond}
use mathlib.Core.List.{List}
use lib.ListN.{length}
use lib.Dec.{ltb}
use Rattle.refusal.specs.declared.Refusal.TheVariants.{NoSuchCall, RowTooLong}
use Rattle.call.specs.declared.Call.{Call}
use Rattle.call.specs.declared.Command.{Command}
use Rattle.call.specs.declared.Step.{Step}
use Rattle.call.specs.Protocol.{step, number_in}
use Rattle.call.specs.Row.{record_at, named, command, refuses, put, turn, number_of_reply}
use Rattle.exchange.specs.Said.{number_stepped, number_commanded}
use Rattle.exchange.proofs.Numbered.{step-number}

by_tests : (row : List Call) (r : ℕ) (s : Step) (n : ℕ) (long is_named : Bool) → number_in s.answer ≡ n
    → number_of_reply (cond long (refuses RowTooLong row) (cond is_named (put row r s) (refuses NoSuchCall row))).reply ≡ cond long 16 (cond is_named n 10)
by_tests row r s n true is_named e = refl
by_tests row r s n false true e = e
by_tests row r s n false false e = refl

pub command-number : (row : List Call) (r u : ℕ) (k : Command) → number_of_reply (turn row (command r u k)).reply ≡ number_commanded row r u k
command-number row r u k = by_tests row r (step (record_at row r) k) (number_stepped (record_at row r) k) (ltb 1024 (length row)) (named row r u) (step-number (record_at row r) k)
