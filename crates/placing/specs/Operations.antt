-- The public operations on a lent row and on a lent port, one after the other, refused ones included; and what holds of a row or a port to which nothing else was done. The statements are proved in proofs/Operations.antt. Assumes nothing.
use Rattle.std.specs.Prelude.{ℕ, ◌≤◌, ◌<◌, ◌≡◌, ◌≢◌, List, [], ◌∷◌, ◌++◌, map, T, true, false, not, length, set, replicate, Result, Ok, Err}
use Rattle.refusal.specs.declared.Refusal.TheVariants.{NoSuchCall}
use Rattle.plan.specs.declared.Plan.{Plan}
use Rattle.setup.specs.declared.Setup.{Setup}
use Rattle.routing.specs.declared.Callee.{Callee}
use Rattle.refusal.specs.Numbers.{number_said}
use Rattle.routing.specs.Routing.{outcome, answer}
use Rattle.call.specs.declared.Call.{Call}
use Rattle.call.specs.declared.Command.{Command}
use Rattle.call.specs.Row.{Act, place, command, record_at, refuses, put, turn, turns, number_of_reply, Event, placing as new-call, doing, lives, own, placings}
use Rattle.ends.specs.declared.Side.{Side}
use Rattle.ends.specs.declared.Status.{Status}
use Rattle.ends.specs.declared.Signal.{Signal}
use Rattle.ends.specs.declared.Signal.TheVariants.{Ordinary}
use Rattle.ends.specs.Ends.{fits}
use Rattle.call.specs.Protocol.{actor, other, end_of, waiting, is_free, step, number_in, cleared, placed, next_use}
use Rattle.call.specs.History.{allows, after, sent, received, sent_of}
use Rattle.teardown.specs.Media.{open_in}
use Rattle.teardown.specs.Teardown.{FirstTeardown, Closes, OfFour, PlacedLowest, FirstTeardownIn, ClosesIn}
use Rattle.placing.specs.declared.Placed.{Placed}
use Rattle.placing.specs.Rows.{outcome_in, placed_in, row_after}
use Rattle.refusal.specs.declared.Refusal.{Refusal}

-- a placing of a setup under a plan, with n and m places in the two lists; or a command for a record and a use number
pub data Operation : Type 0 where
  placing : (p : Plan) (s : Setup) (n m : ℕ) → Operation
  commanding : (r u : ℕ) → Command → Operation

-- the row after it, and the number of 01 that is answered; 0 for what is accepted
abbrev pub row_of : List Call → Operation → List Call
row_of row (placing p s n m) = row_after row p s n m
row_of row (commanding r u k) = (turn row (command r u k)).row

abbrev pub number_for : List Call → Operation → ℕ
number_for row (placing p s n m) = number_said (outcome_in row p s n m)
number_for row (commanding r u k) = number_of_reply (turn row (command r u k)).reply

abbrev pub rows_of : List Call → List Operation → List Call
rows_of row [] = row
rows_of row (x ∷ xs) = rows_of (row_of row x) xs

-- The public operations on a lent port, which is one record: placing as in a row of one, and the record's own commands.
pub data PortOperation : Type 0 where
  placing_there : (p : Plan) (s : Setup) (n m : ℕ) → PortOperation
  commanding_it : Command → PortOperation

abbrev pub port_of : Call → PortOperation → Call
port_of c (placing_there p s n m) = record_at (row_after (c ∷ []) p s n m) 0
port_of c (commanding_it k) = (step c k).call

abbrev pub port_number : Call → PortOperation → ℕ
port_number c (placing_there p s n m) = number_said (outcome_in (c ∷ []) p s n m)
port_number c (commanding_it k) = number_in (step c k).answer

-- A row may be placed in, commanded, cleared, or have one record used as a port. Storing a record by hand (`exchange::store`) is not counted: it could put in a record that no call ever led to.
pub data Use : Type 0 where
  operating : Operation → Use
  lending : (r : ℕ) → PortOperation → Use
  clearing : Use

abbrev pub used : List Call → List Use → List Call
used row [] = row
used row (operating x ∷ xs) = used (row_of row x) xs
used row (lending r x ∷ xs) = used (set row r (port_of (record_at row r) x)) xs
used row (clearing ∷ xs) = used (replicate (length row) cleared) xs

-- and to a port
pub data PortUse : Type 0 where
  operating_it : PortOperation → PortUse
  clearing_it : PortUse

abbrev pub port_used : Call → List PortUse → Call
port_used c [] = c
port_used c (operating_it x ∷ xs) = port_used (port_of c x) xs
port_used c (clearing_it ∷ xs) = port_used cleared xs

-- IN A ROW THAT BEGAN CLEARED 17 NEVER OCCURS, whatever was done before: neither in an operation on the row nor in one on a record of it that is lent as a port.
pub record Never17 : Type 0 where
  pub in_row : (n : ℕ) (before : List Use) (x : Operation) → number_for (used (replicate n cleared) before) x ≢ 17
  pub in_record : (n : ℕ) (before : List Use) (r : ℕ) (x : PortOperation) → port_number (record_at (used (replicate n cleared) before) r) x ≢ 17

-- Nor does it in a port that began cleared.
abbrev pub PortNever17 : Type 0
PortNever17 = (before : List PortUse) (x : PortOperation) → port_number (port_used cleared before) x ≢ 17

-- IN A ROW THAT BEGAN CLEARED NO CHANNEL SIGNAL IS UNFIT, whatever was done before: what waits first for an end of a call is fit for the channel of its tunnel there. Nor is one in a port.
abbrev pub HeadsFit : Call → Type 0
HeadsFit c =
    T (not (is_free c)) → (s : Side) (t : ℕ) (x : Status) (w : List Signal) → waiting s c ≡ Ordinary t x ∷ w → fits s false t x (end_of s c).channels ≡ true

pub record NeverUnfit : Type 0 where
  pub in_row : (n : ℕ) (before : List Use) (r : ℕ) → HeadsFit (record_at (used (replicate n cleared) before) r)
  pub in_port : (before : List PortUse) → HeadsFit (port_used cleared before)

-- THE CALL'S THEOREMS HOLD OF THESE OPERATIONS: what they do to a row is what the acts do that the call's own theorems speak of. A placing that is refused is no act.
abbrev pub act_by : Result Callee Refusal → List Act
act_by (Ok c) = place ∷ []
act_by (Err x) = []

abbrev pub act_of : List Call → Operation → List Act
act_of row (placing p s n m) = act_by (outcome_in row p s n m)
act_of row (commanding r u k) = command r u k ∷ []

abbrev pub acts_of : List Call → List Operation → List Act
acts_of row [] = []
acts_of row (x ∷ xs) = act_of row x ++ acts_of (row_of row x) xs

abbrev pub AsActs : Type 0
AsActs = (row : List Call) (xs : List Operation) → rows_of row xs ≡ turns row (acts_of row xs)

-- THE THIRD DEMAND of every call: a call is placed, whatever the row held before, and answered with record r and use number u; then come any operations, of which those on r are the commands before, k, later, and k sends the first teardown.
pub record CallPlaced (row : List Call) (p : Plan) (s : Setup) (n m r u : ℕ) : Type 0 where
  pub callee : Callee
  pub routed : outcome_in row p s n m ≡ Ok callee
  pub given : Placed
  pub given_is : placed_in row p s n m ≡ Ok given
  pub record_is : given.record_number ≡ r
  pub use_is : given.use_number ≡ u

abbrev pub Demand3 : Type 0
Demand3 =
    (row : List Call) (p : Plan) (s : Setup) (n m r u : ℕ) (xs : List Operation) (before : List Command) (k : Command) (later : List Command)
    → CallPlaced row p s n m r u → FirstTeardownIn row r u (acts_of (row_after row p s n m) xs) before k later
    → (rows_of row (placing p s n m ∷ xs) ≡ turns row (place ∷ acts_of (row_after row p s n m) xs)) × ClosesIn row r u (acts_of (row_after row p s n m) xs) before k later

-- A PORT: what its operations do is what these events do to its record, a new call for a placing that is accepted, and each command. A placing that is refused is none, and in a port in use every one is.
abbrev pub event_by : Result Callee Refusal → List Event
event_by (Ok c) = new-call ∷ []
event_by (Err x) = []

abbrev pub event_of : Call → PortOperation → List Event
event_of c (placing_there p s n m) = event_by (outcome_in (c ∷ []) p s n m)
event_of c (commanding_it k) = doing k ∷ []

abbrev pub events_of : Call → List PortOperation → List Event
events_of c [] = []
events_of c (x ∷ xs) = event_of c x ++ events_of (port_of c x) xs

abbrev pub ports_of : Call → List PortOperation → Call
ports_of c [] = c
ports_of c (x ∷ xs) = ports_of (port_of c x) xs

abbrev pub AsEvents : Type 0
AsEvents = (c : Call) (xs : List PortOperation) → ports_of c xs ≡ lives c (events_of c xs)

abbrev pub NoneInUse : Type 0
NoneInUse = (c : Call) (p : Plan) (s : Setup) (n m : ℕ) → T (not (is_free c)) → (event_of c (placing_there p s n m) ≡ []) × (port_of c (placing_there p s n m) ≡ c)

-- A CALL IN A PORT, whatever the port held before: of its operations a placing is accepted, then come the commands ks, and no other placing is accepted; no command stands before it. Placings that are refused may stand anywhere.
abbrev pub CallInPort : Call → List PortOperation → List Command → Type 0
CallInPort c xs ks = events_of c xs ≡ new-call ∷ map doing ks

-- There is such a call of any commands: a free port takes what routing routes.
abbrev pub CallsInPort : Type 0
CallsInPort =
    (c : Call) (p : Plan) (s : Setup) (n m : ℕ) (x : Callee) (ks : List Command) → T (is_free c) → outcome p s (Ok tt) n m ≡ Ok x
    → CallInPort c (placing_there p s n m ∷ map commanding_it ks) ks

-- The port is what these commands alone lead to.
abbrev pub PortReached : Type 0
PortReached = (c : Call) (xs : List PortOperation) (ks : List Command) → CallInPort c xs ks → ports_of c xs ≡ after (placed c) ks

-- No deadlock: one of the four commands is accepted, unless both ends are idle.
abbrev pub PortNoDeadlock : Type 0
PortNoDeadlock =
    (c : Call) (xs : List PortOperation) (ks : List Command) → CallInPort c xs ks → T (not (is_free (ports_of c xs)))
    → (k : Command) × OfFour k × T (allows (ports_of c xs) k)

-- Reliable, first in first out: at any time what an end received is a beginning of what the other sent, and the rest waits.
abbrev pub PortInOrder : Type 0
PortInOrder =
    (c : Call) (xs : List PortOperation) (ks : List Command) → CallInPort c xs ks → (e : Side)
    → sent (other e) (placed c) ks ≡ received e (placed c) ks ++ waiting e (ports_of c xs)

-- THE THIRD DEMAND IN A PORT: of the commands, which are `before`, k, `later`, k sends the first teardown.
abbrev pub PortDemand3 : Type 0
PortDemand3 =
    (c : Call) (xs : List PortOperation) (before : List Command) (k : Command) (later : List Command)
    → CallInPort c xs (before ++ k ∷ later) → FirstTeardown c before k
    → Closes (placed c) (after (placed c) (before ++ k ∷ [])) (ports_of c xs) (actor k) (before ++ k ∷ later) later

-- NO TUNNEL IS OPENED TWICE in a call in a port.
abbrev pub PortNoneTwice : Type 0
PortNoneTwice = (c : Call) (xs : List PortOperation) (ks : List Command) → CallInPort c xs ks → (t : ℕ) → sent_of (open_in t) (placed c) ks ≤ 1

-- PLACING takes the lowest free record, answers with it and its use number, one more than before (65,535 followed by 0), and with exactly what routing alone gives; every other record is as it was.
pub record PlacesLowest (row : List Call) (p : Plan) (s : Setup) (n m : ℕ) : Type 0 where
  pub given : Placed
  pub given_is : placed_in row p s n m ≡ Ok given
  pub lowest : PlacedLowest row given.record_number given.use_number (row_after row p s n m)
  pub stepped : given.use_number ≡ next_use (record_at row given.record_number).use_number
  pub as_routing : Ok given.routed ≡ answer p s (Ok tt) n m
  pub as_routed : outcome_in row p s n m ≡ outcome p s (Ok tt) n m

abbrev pub Placing : Type 0
Placing = (row : List Call) (p : Plan) (s : Setup) (n m : ℕ) (c : Callee) → outcome_in row p s n m ≡ Ok c → PlacesLowest row p s n m

-- AN OLD NAME (C7): after one placing and fewer than 65,536 in its record, a command by the use number of then is refused 10; after 65,536 it fits again: the number is the record's, and where the record is in use the command is answered by the record's own step.
pub record OldName (row : List Call) (acts : List Act) (r : ℕ) : Type 0 where
  pub refused : placings (own r row acts) < 65536 → (k : Command) → turn (turns row acts) (command r (record_at row r).use_number k) ≡ refuses NoSuchCall (turns row acts)
  pub again : placings (own r row acts) ≡ 65536 → (record_at (turns row acts) r).use_number ≡ (record_at row r).use_number
  pub fits : placings (own r row acts) ≡ 65536 → T (not (is_free (record_at (turns row acts) r))) → (k : Command)
      → turn (turns row acts) (command r (record_at row r).use_number k) ≡ put (turns row acts) r (step (record_at (turns row acts) r) k)

abbrev pub OldNames : Type 0
OldNames =
    (row : List Call) (acts : List Act) (r : ℕ) → length row ≤ 1024 → r < length row → (record_at row r).use_number < 65536
    → 0 < placings (own r row acts) → placings (own r row acts) ≤ 65536 → OldName row acts r
