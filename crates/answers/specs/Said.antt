-- What a C program is told: a number and a value. Number 0 is accepted, and the value is the operation's; else the number is the refusal's, as documents 01 and 02 have it, and the value its
-- place, 0 where it has none. Assumes nothing.
use Rattle.std.specs.Prelude.{ℕ, Option, Some, None, Result, Ok, Err}
use Rattle.refusal.specs.declared.Refusal.{Refusal}
use Rattle.refusal.specs.Numbers.{number_of, place_of}
use Rattle.answers.specs.declared.Answer.{Answer}

abbrev pub place_number : Option ℕ → ℕ
place_number None = 0
place_number (Some n) = n

abbrev pub accepted : ℕ → Answer
accepted v = record { number = 0; value = v }

abbrev pub refusal : Refusal → Answer
refusal r = record { number = number_of r; value = place_number (place_of r) }

-- what an operation answers with: its value, or the refusal
abbrev pub answered : Result ℕ Refusal → Answer
answered (Ok v) = accepted v
answered (Err r) = refusal r
