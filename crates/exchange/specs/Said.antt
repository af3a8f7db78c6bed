-- What a command answers in the numbers of documents 01 and 02, 0 for what is accepted: the lines of its table in its order, 16, 10, then 17 for counts, 12, 15, 40, 41, 13, 14, and 17 for the rest. Assumes nothing.
use Rattle.std.specs.Prelude.{ℕ, ◌+◌, Bool, true, false, cond, ◌&&◌, List, [], ◌∷◌, length, ltb, leb, eqb}
use Rattle.ends.specs.declared.State.{State}
use Rattle.ends.specs.declared.State.TheVariants.{Idle, Requesting, Waiting, Linked, Unlinking}
use Rattle.ends.specs.declared.Signal.{Signal}
use Rattle.ends.specs.declared.Signal.TheVariants.{Upack, Ordinary, Teardown, Downack}
use Rattle.ends.specs.declared.Side.{Side}
use Rattle.ends.specs.Ends.{is_open, fits}
use Rattle.call.specs.declared.Call.{Call}
use Rattle.call.specs.declared.Command.{Command}
use Rattle.call.specs.declared.Command.TheVariants.{Accept, Busy, Unobtainable, Send, Teardown as Hang-up, Deliver}
use Rattle.call.specs.Protocol.{actor, other, end_of, state_of, queue_to, waiting, is_waiting, is_linked, is_ordinary, sends}
use Rattle.call.specs.Row.{record_at, named}

-- whether an end in this state, with these channels, can take the signal
abbrev pub can_take : State → Side → List ℕ → Signal → Bool
can_take Idle e cs x = false
can_take Requesting e cs Upack = true
can_take Requesting e cs (Ordinary tunnel x) = false
can_take Requesting e cs Teardown = false
can_take Requesting e cs Downack = false
can_take Waiting e cs x = false
can_take Linked e cs Upack = false
can_take Linked e cs (Ordinary tunnel x) = is_ordinary tunnel x && fits e false tunnel x cs
can_take Linked e cs Teardown = true
can_take Linked e cs Downack = false
can_take Unlinking e cs Upack = false
can_take Unlinking e cs (Ordinary tunnel x) = is_ordinary tunnel x && fits e false tunnel x cs
can_take Unlinking e cs Teardown = true
can_take Unlinking e cs Downack = true

-- for an end in state s with the channels cs and the signals w waiting for it, and n waiting for the other end: 12, 15, 40, 41, 13, 14, and 17 for a signal that can't be taken
abbrev pub number_decided : Command → State → List ℕ → List Signal → ℕ → ℕ
number_decided Accept s cs w n = cond (is_waiting s) 0 12
number_decided Busy s cs w n = cond (is_waiting s) 0 12
number_decided Unobtainable s cs w n = cond (is_waiting s) 0 12
number_decided (Send e tunnel x) s cs w n =
    cond (is_linked s) (cond (is_ordinary tunnel x) (cond (fits e true tunnel x cs) (cond (ltb n 14) 0 13) (cond (is_open x) 40 41)) 15) 12
number_decided (Hang-up e) s cs w n = cond (is_linked s) 0 12
number_decided (Deliver e) s cs [] n = 14
number_decided (Deliver e) s cs (x ∷ w) n = cond (can_take s e cs x) 0 17

-- the first of two numbers that is not 0
abbrev pub or_else : ℕ → ℕ → ℕ
or_else a b = cond (eqb a 0) b a

-- before those 17 where a count is above 16; after them 17 where there is no room for what must be sent
abbrev pub number_stepped : Call → Command → ℕ
number_stepped c k =
    cond (leb c.to_caller.count 16 && leb c.to_callee.count 16)
    (or_else (number_decided k (state_of (actor k) c) (end_of (actor k) c).channels (waiting (actor k) c) (queue_to (other (actor k)) c).count)
    (cond (leb ((queue_to (other (actor k)) c).count + length (sends k (waiting (actor k) c))) 16) 0 17))
    17

-- in a row: 16, 10, and then those
abbrev pub number_commanded : List Call → ℕ → ℕ → Command → ℕ
number_commanded row r u k = cond (ltb 1024 (length row)) 16 (cond (named row r u) (number_stepped (record_at row r) k) 10)
