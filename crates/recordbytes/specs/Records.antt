-- A CALL RECORD IN BYTES, 614 of them from a place on: the caller's state, the callee's, the use number (high byte first); then the queue towards the caller and the queue towards the callee, each a count and 16 places of three bytes: kind, tunnel, code; then
-- the caller's channels and the callee's, 256 bytes each, a state for each tunnel. Any 614 bytes are a record (signalbytes/specs/Numbers says what any number of a state or a signal stands for; a channel's byte is its state's number, as it stands). Bytes that are all 0 are the cleared record. Assumes nothing.
use Rattle.std.specs.Prelude.{ℕ, zero, suc, ◌+◌, ◌*◌, List, [], ◌∷◌, get_or}
use Rattle.ends.specs.declared.End.{End}
use Rattle.signalbytes.specs.Numbers.{state_said, signal_said}
use Rattle.ends.specs.declared.Signal.{Signal}
use Rattle.call.specs.declared.Queue.{Queue}
use Rattle.ends.specs.declared.Side.{Side}
use Rattle.ends.specs.declared.Side.TheVariants.{Caller, Callee}
use Rattle.call.specs.declared.Call.{Call}

-- where a side's state stands in a record, and where the queue towards it begins, with its count
abbrev pub state_place : Side → ℕ
state_place Caller = 0
state_place Callee = 1

abbrev pub queue_place : Side → ℕ
queue_place Caller = 4
queue_place Callee = 53

-- where a side's channels begin
abbrev pub channel_place : Side → ℕ
channel_place Caller = 102
channel_place Callee = 358

-- the signal of a place
abbrev pub slot_at : List ℕ → ℕ → Signal
slot_at b at = signal_said (get_or b at 0) (get_or b (at + 1) 0) (get_or b (at + 2) 0)

-- n places, one after the other
unfoldable pub slots_from : ℕ → List ℕ → ℕ → List Signal
slots_from zero b at = []
slots_from (suc n) b at = slot_at b at ∷ slots_from n b (at + 3)

-- the queue that begins at a place
abbrev pub queue_at : List ℕ → ℕ → Queue
queue_at b q = record { slots = slots_from 16 b (q + 1); count = get_or b q 0 }

-- n bytes as they stand
unfoldable pub bytes_from : ℕ → List ℕ → ℕ → List ℕ
bytes_from zero b at = []
bytes_from (suc n) b at = get_or b at 0 ∷ bytes_from n b (at + 1)

-- a side's end
abbrev pub end_at : List ℕ → ℕ → Side → End
end_at b at s = record { state = state_said (get_or b (at + state_place s) 0); channels = bytes_from 256 b (at + channel_place s) }

-- THE RECORD of the 614 bytes from a place on
unfoldable pub call_at : List ℕ → ℕ → Call
call_at b at = record {
  caller = end_at b at Caller;
  callee = end_at b at Callee;
  to_caller = queue_at b (at + queue_place Caller);
  to_callee = queue_at b (at + queue_place Callee);
  use_number = get_or b (at + 2) 0 * 256 + get_or b (at + 3) 0;
}
