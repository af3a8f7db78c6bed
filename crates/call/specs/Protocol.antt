-- The call protocol (01 'Calls', manual 8; channels: 02 'Ask 2', manual 9): what a command on a call record answers, and the record after it. Every definition computes. Assumes nothing.
use Rattle.std.specs.Prelude.{ℕ, zero, suc, ◌+◌, ◌-◌, ◌%◌, Bool, true, false, cond, ◌&&◌, List, [], ◌∷◌, ◌++◌, Option, Some, None, Result, Ok, Err, length, drop, replicate, nat_le, slice_index_or, slice_set}
use Rattle.refusal.specs.declared.Refusal.{Refusal}
use Rattle.refusal.specs.declared.Refusal.TheVariants.{NoFreeRecord, NothingWaiting, BrokenRecord}
use Rattle.refusal.specs.Numbers.{number_of}
use Rattle.ends.specs.declared.State.{State}
use Rattle.ends.specs.declared.State.TheVariants.{Idle, Requesting, Waiting, Linked, Unlinking}
use Rattle.ends.specs.declared.End.{End}
use Rattle.ends.specs.declared.Status.TheVariants.{Unknown, Unavail}
use Rattle.ends.specs.declared.Signal.{Signal}
use Rattle.ends.specs.declared.Signal.TheVariants.{Upack, Ordinary, Teardown, Downack}
use Rattle.call.specs.declared.Queue.{Queue}
use Rattle.call.specs.declared.Call.{Call}
use Rattle.ends.specs.declared.Side.{Side}
use Rattle.ends.specs.declared.Side.TheVariants.{Caller, Callee}
use Rattle.call.specs.declared.Command.{Command}
use Rattle.call.specs.declared.Command.TheVariants.{Accept, Busy, Unobtainable, Send, Teardown as Hang-up, Deliver}
use Rattle.call.specs.declared.Step.{Step}
pub use Rattle.ends.specs.Ends.{other, is_idle, is_waiting, is_linked, is_ordinary, within, passed, answers, speaks, tears, hears, takes}

-- THE TWO SIDES
-- Only the callee answers; every other command names the side it is for. That side's end acts.
abbrev pub actor : Command → Side
actor Accept = Callee
actor Busy = Callee
actor Unobtainable = Callee
actor (Send s t x) = s
actor (Hang-up s) = s
actor (Deliver s) = s

-- a side's end with its state, and the queue towards it
abbrev pub end_of : Side → Call → End
end_of Caller c = c.caller
end_of Callee c = c.callee

abbrev pub state_of : Side → Call → State
state_of s c = (end_of s c).state

abbrev pub queue_to : Side → Call → Queue
queue_to Caller c = c.to_caller
queue_to Callee c = c.to_callee

-- A record is free when both ends are idle.
abbrev pub is_free : Call → Bool
is_free c = is_idle (state_of Caller c) && is_idle (state_of Callee c)

-- QUEUES
-- A slot that holds nothing is blank: it has one fixed value, so that no signal of the past can be read there.
abbrev pub blank : Signal
blank = Upack

abbrev pub empty_queue : Queue
empty_queue = record { slots = replicate 16 blank; count = 0 }

-- The head is at slot 0, and the first `count` slots hold the signals that wait, the oldest first.
abbrev pub slot : List Signal → ℕ → Signal
slot xs i = slice_index_or xs i blank

abbrev pub signals : ℕ → List Signal → List Signal
signals zero xs = []
signals (suc n) xs = slot xs 0 ∷ signals n (drop 1 xs)

abbrev pub held : Queue → List Signal
held q = signals q.count q.slots

-- the signals that wait for a side's end
abbrev pub waiting : Side → Call → List Signal
waiting s c = held (queue_to s c)

-- A signal goes in at the count.
abbrev pub push : Queue → Signal → Queue
push q x = record { slots = slice_set q.slots q.count x; count = q.count + 1 }

abbrev pub pushes : Queue → List Signal → Queue
pushes q [] = q
pushes q (x ∷ xs) = pushes (push q x) xs

-- n slots from slot j on
abbrev pub slots_from : ℕ → ℕ → List Signal → List Signal
slots_from zero j xs = []
slots_from (suc n) j xs = slot xs j ∷ slots_from n (suc j) xs

-- The head goes out: the others move one slot down, and the last slot is blank.
abbrev pub pop : Queue → Queue
pop q = record { slots = slots_from 15 1 q.slots ++ blank ∷ []; count = q.count - 1 }

-- Delivery takes the head of what waits; 14 where nothing does.
abbrev pub deliver : Side → End → List Signal → Result State Refusal
deliver s e [] = Err NothingWaiting
deliver s e (x ∷ w) = takes s e x

-- What comes of a command for an end, with the signals w waiting for it, and n signals waiting for the other end.
abbrev pub decide : Command → End → List Signal → ℕ → Result State Refusal
decide Accept e w n = answers e.state Linked
decide Busy e w n = answers e.state Unlinking
decide Unobtainable e w n = answers e.state Unlinking
decide (Send s tunnel x) e w n = speaks s e tunnel x n
decide (Hang-up s) e w n = tears e.state
decide (Deliver s) e w n = deliver s e w

-- WHAT IS SENT
-- A teardown that is handed over is answered by a downack; nothing else is.
abbrev pub reply : List Signal → List Signal
reply [] = []
reply (Upack ∷ w) = []
reply (Ordinary tunnel x ∷ w) = []
reply (Teardown ∷ w) = Downack ∷ []
reply (Downack ∷ w) = []

-- Accept sends upack; busy upack, unavail, teardown (manual 10.1); unobtainable upack, unknown, teardown (2.1). What a delivery sends goes by the signal handed over, the first of w.
abbrev pub sends : Command → List Signal → List Signal
sends Accept w = Upack ∷ []
sends Busy w = Upack ∷ Ordinary 0 Unavail ∷ Teardown ∷ []
sends Unobtainable w = Upack ∷ Ordinary 0 Unknown ∷ Teardown ∷ []
sends (Send e tunnel x) w = Ordinary tunnel x ∷ []
sends (Hang-up e) w = Teardown ∷ []
sends (Deliver e) w = reply w

-- THE VERDICT, in the order of 01 and, for 40 and 41, of 02
-- 17 where the other end's queue would hold more than 16
abbrev pub fit : Result State Refusal → ℕ → Result State Refusal
fit (Err r) n = Err r
fit (Ok s) n = cond (nat_le n 16) (Ok s) (Err BrokenRecord)

-- 12, 15, 40, 41, 13, 14, and then 17 for a signal that the end can't take and for no room
abbrev pub judged : Call → Command → Result State Refusal
judged c k =
    fit (decide k (end_of (actor k) c) (waiting (actor k) c) (queue_to (other (actor k)) c).count)
    ((queue_to (other (actor k)) c).count + length (sends k (waiting (actor k) c)))

-- before those, for every command, 17 where either queue's count is above 16
abbrev pub verdict : Call → Command → Result State Refusal
verdict c k = cond (nat_le c.to_caller.count 16 && nat_le c.to_callee.count 16) (judged c k) (Err BrokenRecord)

-- THE STEP
-- the record with a side's end, the queue towards it and the queue from it replaced
abbrev pub moved : Side → End → Queue → Queue → Call → Call
moved Caller e i o c =
    record { caller = e; callee = c.callee; to_caller = i; to_callee = o; use_number = c.use_number }
moved Callee e i o c =
    record { caller = c.caller; callee = e; to_caller = o; to_callee = i; use_number = c.use_number }

-- A delivery takes the head out of the queue towards the acting end.
abbrev pub pops : Command → Queue → Queue
pops Accept q = q
pops Busy q = q
pops Unobtainable q = q
pops (Send e tunnel x) q = q
pops (Hang-up e) q = q
pops (Deliver e) q = pop q

-- AN ANSWER: what is accepted, with the signal that a delivery hands over; or a refusal
abbrev pub Answer : Type 0
Answer = Result (Option Signal) Refusal

-- A delivery answers with the signal handed over. (With nothing waiting it was refused before.)
abbrev pub hands : Command → List Signal → Answer
hands Accept w = Ok None
hands Busy w = Ok None
hands Unobtainable w = Ok None
hands (Send e tunnel x) w = Ok None
hands (Hang-up e) w = Ok None
hands (Deliver e) [] = Ok None
hands (Deliver e) (x ∷ w) = Ok (Some x)

-- A signal that is sent, or taken, passes the channel of its tunnel at the acting end.
abbrev pub channels_by : Command → List Signal → List ℕ → List ℕ
channels_by Accept w cs = cs
channels_by Busy w cs = cs
channels_by Unobtainable w cs = cs
channels_by (Send s tunnel x) w cs = passed s true (Ordinary tunnel x) cs
channels_by (Hang-up s) w cs = cs
channels_by (Deliver s) [] cs = cs
channels_by (Deliver s) (x ∷ w) cs = passed s false x cs

-- A refusal leaves the record as it was.
abbrev pub refusing : Call → Refusal → Step
refusing c r = record { answer = Err r; call = c }

abbrev pub outcome : Call → Command → Result State Refusal → Step
outcome c k (Err r) = refusing c r
outcome c k (Ok s) =
    record {
      answer = hands k (waiting (actor k) c);
      call =
          moved (actor k) (within s (channels_by k (waiting (actor k) c) (end_of (actor k) c).channels)) (pops k (queue_to (actor k) c))
          (pushes (queue_to (other (actor k)) c) (sends k (waiting (actor k) c))) c;
    }

-- A STEP OF A RECORD: the answer, and the record after it
abbrev pub step : Call → Command → Step
step c k = outcome c k (verdict c k)

-- the step of a record whose counts are at most 16
abbrev pub acted : Call → Command → Step
acted c k = outcome c k (judged c k)

-- the number of 01 that an answer is; 0 for what is accepted
abbrev pub number_in : Answer → ℕ
number_in (Ok x) = 0
number_in (Err r) = number_of r

-- PLACING
-- The use number is stepped by one; 65,535 is followed by 0.
abbrev pub next_use : ℕ → ℕ
next_use n = (n + 1) % 65536

-- Every tunnel unused, which is the state 0; there is a place for tunnel 0 too, which has no channel.
abbrev pub all_unused : List ℕ
all_unused = replicate 256 0

-- A record in which nothing waits, with every tunnel unused at both ends.
abbrev pub quiet : State → State → ℕ → Call
quiet a b n =
    record {
      caller = within a all_unused;
      callee = within b all_unused;
      to_caller = empty_queue;
      to_callee = empty_queue;
      use_number = n;
    }

-- Placed: the caller requesting and the callee waiting, both queues empty, and the use number stepped. Nothing else of what the record held before is left.
abbrev pub placed : Call → Call
placed c = quiet Requesting Waiting (next_use c.use_number)

-- Placing takes a free record, empties its queues, and steps its use number. 11 where the record is not free: it is left as it was.
abbrev pub placing_in : Call → Step
placing_in c = cond (is_free c) (record { answer = Ok None; call = placed c }) (refusing c NoFreeRecord)

-- A cleared record: ends idle, queues empty, use number 0.
abbrev pub cleared : Call
cleared = quiet Idle Idle 0
