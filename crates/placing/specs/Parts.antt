-- What the code makes of one record once routing has answered: only the contract of a private function, and the laws in proofs/Settles, go by these. Assumes nothing.
use Rattle.std.specs.Prelude.{ℕ, Result, Ok, Err}
use Rattle.refusal.specs.declared.Refusal.{Refusal}
use Rattle.routing.specs.declared.Routed.{Routed}
use Rattle.call.specs.declared.Call.{Call}
use Rattle.call.specs.Protocol.{placing_in}
use Rattle.placing.specs.declared.Placed.{Placed}

-- what is answered for the record r, which held c, where the call was routed
abbrev pub put_as : ℕ → Call → Routed → Placed
put_as r c a = record { record_number = r; use_number = (placing_in c).call.use_number; routed = a }

-- and for any answer of routing
abbrev pub answer_for : Result Routed Refusal → ℕ → Call → Result Placed Refusal
answer_for (Ok a) r c = Ok (put_as r c a)
answer_for (Err x) r c = Err x

-- the record c afterwards: with the call placed in it, or as it was
abbrev pub record_after : Result Routed Refusal → Call → Call
record_after (Ok a) c = (placing_in c).call
record_after (Err x) c = c
