-- What a C program is told of operational data, over a plan file. Assumes nothing.
use Rattle.std.specs.Prelude.{ℕ, List, Result, Ok, Err, Some, None}
use Rattle.refusal.specs.declared.Refusal.{Refusal}
use Rattle.refusal.specs.Numbers.{◌>>=◌}
use Rattle.planread.specs.Reading.{read_of}
use Rattle.store.specs.declared.Who.{Who}
use Rattle.store.specs.Operations.{StoreOperation, Answer as StoreAnswer, effect}
use Rattle.owners.specs.Who.{who_of}
use Rattle.answers.specs.declared.Answer.{Answer}
use Rattle.answers.specs.Said.{accepted, refusal}

-- 0 and the number read, 0 and 0 for what is done, or the refusal
abbrev pub data_said : StoreAnswer → Answer
data_said (Ok (Some n)) = accepted n
data_said (Ok None) = accepted 0
data_said (Err x) = refusal x

-- a box of a type at an address, by the plan of the file: who it is to the store, or the refusal of what is no plan file
unfoldable pub known_in : List ℕ → List ℕ → List ℕ → ℕ → ℕ → Result Who Refusal
known_in file features owners t a = read_of file >>= λ p. Ok (who_of p features owners t a)

-- its operation: what the program is told, and the data rows after it, which are as they were where the file is refused
abbrev pub told_of : Result Who Refusal → List ℕ → List ℕ → StoreOperation → Answer
told_of (Ok w) relations b c = data_said (effect relations b w c).answer
told_of (Err r) relations b c = refusal r

abbrev pub rows_told_of : Result Who Refusal → List ℕ → List ℕ → StoreOperation → List ℕ
rows_told_of (Ok w) relations b c = (effect relations b w c).rows
rows_told_of (Err r) relations b c = b
