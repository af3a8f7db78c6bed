-- What the archive's functions tell a C program of each answer of `links`. Assumes nothing.
use Rattle.std.specs.Prelude.{ℕ, Result, Ok, Err, ⊤}
use Rattle.refusal.specs.declared.Refusal.{Refusal}
use Rattle.answers.specs.declared.Answer.{Answer}
use Rattle.answers.specs.Said.{accepted, refusal, answered}
use Rattle.links.specs.declared.Termination.{Termination}

-- the termination at a port and a channel
abbrev pub at : ℕ → ℕ → Termination
at p c = record { port = p; channel = c }

abbrev pub told : Result ⊤ Refusal → Answer
told (Ok _) = accepted 0
told (Err r) = refusal r

-- how many sources are summed into a termination
abbrev pub counted : Result ℕ Refusal → Answer
counted r = answered r
