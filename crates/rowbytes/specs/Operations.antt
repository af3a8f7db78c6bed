-- THE OPERATIONS ON LENT BYTES, one after the other, refused ones included: the records that are read from the bytes are those of the row, or of the port, to which the same was done. So '17 never', no deadlock, first in first out, the third demand and 'never unfit'
-- hold of the bytes that a C program lends. The statements are proved in proofs/Operations.antt. Assumes nothing.
use Rattle.std.specs.Prelude.{◌≡◌, ℕ, ◌*◌, ◌≤◌, true, false, cond, not, T, ◌≢◌, List, [], ◌∷◌, ◌++◌, map, length, take, drop, nat_lt}
use Rattle.std.proofs.lemmas.List.Edits.{sets}
use Rattle.plan.specs.declared.Plan.{Plan}
use Rattle.setup.specs.declared.Setup.{Setup}
use Rattle.ends.specs.declared.Side.{Side}
use Rattle.ends.specs.declared.Status.{Status}
use Rattle.ends.specs.declared.Signal.{Signal}
use Rattle.ends.specs.declared.Signal.TheVariants.{Ordinary}
use Rattle.ends.specs.Ends.{fits}
use Rattle.call.specs.declared.Command.{Command}
use Rattle.call.specs.declared.Command.TheVariants.{Deliver}
use Rattle.call.specs.Protocol.{actor, other, end_of, is_free, waiting, placed}
use Rattle.call.specs.History.{allows, after, sent, received, sent_of}
use Rattle.call.specs.Row.{doing, record_at, command, turn, granted, own}
use Rattle.teardown.specs.Media.{open_in}
use Rattle.teardown.specs.Teardown.{OfFour, FirstTeardown, Closes}
use Rattle.placing.specs.Rows.{outcome_in, turned, row_after}
use Rattle.placing.specs.Operations.{Operation, placing, commanding, number_for, PortOperation, placing_there, commanding_it, port_number, Use, operating, lending, clearing, used, HeadsFit, PortUse, operating_it, clearing_it, port_used, acts_of, CallPlaced, CallInPort}
use Rattle.recordbytes.specs.Records.{call_at}
use Rattle.recordbytes.specs.Steps.{step_at}
use Rattle.rowbytes.specs.Rows.{records_in, row_in, cleared_in, commanded_in, placed_by}

-- ---- what is left of the bytes, as the contracts say it: of `place`, `command`, `port_place`, `port_command` and `clear`. The C functions of these names leave the same; those that place do so where the plan file is read, and else leave every byte (dfc/specs/Calls).
-- A command at any place of the bytes (`recordbytes::command_at`) is no use of a row: it could go across two records.

abbrev pub bytes_of : List ℕ → Operation → List ℕ
bytes_of b (placing p s n m) = placed_by (turned (row_in b) (outcome_in (row_in b) p s n m)).reply b
bytes_of b (commanding r u k) = commanded_in b r u k

abbrev pub port_bytes_of : List ℕ → PortOperation → List ℕ
port_bytes_of b (placing_there p s n m) = placed_by (turned (call_at b 0 ∷ []) (outcome_in (call_at b 0 ∷ []) p s n m)).reply b
port_bytes_of b (commanding_it k) = (step_at b 0 k).bytes

-- the 614 bytes of the record r lent as a port
abbrev pub bytes_lent : List ℕ → ℕ → PortOperation → List ℕ
bytes_lent b r x = cond (nat_lt r (records_in b)) (sets b (614 * r) (port_bytes_of (take 614 (drop (614 * r) b)) x)) b

abbrev pub bytes_used : List ℕ → List Use → List ℕ
bytes_used b [] = b
bytes_used b (operating x ∷ xs) = bytes_used (bytes_of b x) xs
bytes_used b (lending r x ∷ xs) = bytes_used (bytes_lent b r x) xs
bytes_used b (clearing ∷ xs) = bytes_used (cleared_in b) xs

abbrev pub port_bytes_used : List ℕ → List PortUse → List ℕ
port_bytes_used b [] = b
port_bytes_used b (operating_it x ∷ xs) = port_bytes_used (port_bytes_of b x) xs
port_bytes_used b (clearing_it ∷ xs) = port_bytes_used (cleared_in b) xs

-- ---- THE ROW OF THE BYTES is the row to which the same was done; and so is a port.
abbrev pub AsRow : Type 0
AsRow = (b : List ℕ) (xs : List Use) → row_in (bytes_used b xs) ≡ used (row_in b) xs

abbrev pub AsPort : Type 0
AsPort = (b : List ℕ) → length b ≡ 614 → (xs : List PortUse) → call_at (port_bytes_used b xs) 0 ≡ port_used (call_at b 0) xs

-- ---- IN BYTES THAT BEGAN CLEARED 17 NEVER OCCURS.
pub record BytesNever17 : Type 0 where
  pub in_row : (b : List ℕ) (before : List Use) (x : Operation) → number_for (row_in (bytes_used (cleared_in b) before)) x ≢ 17
  pub in_record : (b : List ℕ) (before : List Use) (r : ℕ) (x : PortOperation) → port_number (record_at (row_in (bytes_used (cleared_in b) before)) r) x ≢ 17
  pub in_port : (b : List ℕ) → length b ≡ 614 → (before : List PortUse) (x : PortOperation) → port_number (call_at (port_bytes_used (cleared_in b) before) 0) x ≢ 17

-- ---- THERE NO CHANNEL SIGNAL IS UNFIT.
pub record BytesFit : Type 0 where
  pub in_row : (b : List ℕ) (before : List Use) (r : ℕ) → HeadsFit (record_at (row_in (bytes_used (cleared_in b) before)) r)
  pub in_port : (b : List ℕ) → length b ≡ 614 → (before : List PortUse) → HeadsFit (call_at (port_bytes_used (cleared_in b) before) 0)

-- ---- A CALL IN A ROW OF BYTES, whatever they held before: it is placed, and answered with record r and use number u; then come the operations xs, placings and commands by name, of which those on r are the commands ks.
pub record CallInBytes (b : List ℕ) (p : Plan) (s : Setup) (n m r u : ℕ) (xs : List Operation) (ks : List Command) : Type 0 where
  pub answered : CallPlaced (row_in b) p s n m r u
  pub own_commands : own r (row_after (row_in b) p s n m) (acts_of (row_after (row_in b) p s n m) xs) ≡ map doing ks

abbrev pub bytes_done : List ℕ → List Operation → List ℕ
bytes_done b [] = b
bytes_done b (x ∷ xs) = bytes_done (bytes_of b x) xs

-- The record that is read from the bytes is what these commands alone lead to.
abbrev pub BytesReached : Type 0
BytesReached =
    (b : List ℕ) (p : Plan) (s : Setup) (n m r u : ℕ) (xs : List Operation) (ks : List Command) → CallInBytes b p s n m r u xs ks
    → record_at (row_in (bytes_done b (placing p s n m ∷ xs))) r ≡ after (placed (record_at (row_in b) r)) ks

-- No deadlock: by the name that placing answered one of the four commands is accepted, unless both ends are idle.
abbrev pub BytesNoDeadlock : Type 0
BytesNoDeadlock =
    (b : List ℕ) (p : Plan) (s : Setup) (n m r u : ℕ) (xs : List Operation) (ks : List Command) → CallInBytes b p s n m r u xs ks
    → T (not (is_free (record_at (row_in (bytes_done b (placing p s n m ∷ xs))) r)))
    → (k : Command) × OfFour k × T (granted (turn (row_in (bytes_done b (placing p s n m ∷ xs))) (command r u k)).reply)

-- Reliable, first in first out.
abbrev pub BytesInOrder : Type 0
BytesInOrder =
    (b : List ℕ) (p : Plan) (s : Setup) (n m r u : ℕ) (xs : List Operation) (ks : List Command) → CallInBytes b p s n m r u xs ks → (e : Side)
    → sent (other e) (placed (record_at (row_in b) r)) ks ≡ received e (placed (record_at (row_in b) r)) ks ++ waiting e (record_at (row_in (bytes_done b (placing p s n m ∷ xs))) r)

-- THE THIRD DEMAND: of the commands, which are `before`, k, `later`, k sends the first teardown. Then the call closes; and while an end isn't idle, some delivery is accepted by the name that placing answered.
abbrev pub BytesDemand3 : Type 0
BytesDemand3 =
    (b : List ℕ) (p : Plan) (s : Setup) (n m r u : ℕ) (xs : List Operation) (before : List Command) (k : Command) (later : List Command)
    → CallInBytes b p s n m r u xs (before ++ k ∷ later) → FirstTeardown (record_at (row_in b) r) before k
    → Closes (placed (record_at (row_in b) r)) (after (placed (record_at (row_in b) r)) (before ++ k ∷ [])) (record_at (row_in (bytes_done b (placing p s n m ∷ xs))) r) (actor k) (before ++ k ∷ later) later
    × (T (not (is_free (record_at (row_in (bytes_done b (placing p s n m ∷ xs))) r))) → (e : Side) × T (granted (turn (row_in (bytes_done b (placing p s n m ∷ xs))) (command r u (Deliver e))).reply))

-- No tunnel is opened twice.
abbrev pub BytesNoneTwice : Type 0
BytesNoneTwice =
    (b : List ℕ) (p : Plan) (s : Setup) (n m r u : ℕ) (xs : List Operation) (ks : List Command) → CallInBytes b p s n m r u xs ks → (t : ℕ)
    → sent_of (open_in t) (placed (record_at (row_in b) r)) ks ≤ 1

-- No channel signal is unfit: what waits first for an end is fit for the channel of its tunnel there, whatever the bytes held before the call.
abbrev pub BytesNeverUnfit : Type 0
BytesNeverUnfit =
    (b : List ℕ) (p : Plan) (s : Setup) (n m r u : ℕ) (xs : List Operation) (ks : List Command) → CallInBytes b p s n m r u xs ks
    → (e : Side) (t : ℕ) (x : Status) (w : List Signal) → waiting e (record_at (row_in (bytes_done b (placing p s n m ∷ xs))) r) ≡ Ordinary t x ∷ w
    → fits e false t x (end_of e (record_at (row_in (bytes_done b (placing p s n m ∷ xs))) r)).channels ≡ true

-- ---- A CALL IN A PORT OF BYTES (`CallInPort`, in placing's words: of its operations a placing is accepted, then come the commands ks, and no other placing is accepted)
abbrev pub port_bytes_done : List ℕ → List PortOperation → List ℕ
port_bytes_done b [] = b
port_bytes_done b (x ∷ xs) = port_bytes_done (port_bytes_of b x) xs

abbrev pub PortBytesReached : Type 0
PortBytesReached =
    (b : List ℕ) → length b ≡ 614 → (xs : List PortOperation) (ks : List Command) → CallInPort (call_at b 0) xs ks
    → call_at (port_bytes_done b xs) 0 ≡ after (placed (call_at b 0)) ks

abbrev pub PortBytesNoDeadlock : Type 0
PortBytesNoDeadlock =
    (b : List ℕ) → length b ≡ 614 → (xs : List PortOperation) (ks : List Command) → CallInPort (call_at b 0) xs ks
    → T (not (is_free (call_at (port_bytes_done b xs) 0))) → (k : Command) × OfFour k × T (allows (call_at (port_bytes_done b xs) 0) k)

abbrev pub PortBytesInOrder : Type 0
PortBytesInOrder =
    (b : List ℕ) → length b ≡ 614 → (xs : List PortOperation) (ks : List Command) → CallInPort (call_at b 0) xs ks → (e : Side)
    → sent (other e) (placed (call_at b 0)) ks ≡ received e (placed (call_at b 0)) ks ++ waiting e (call_at (port_bytes_done b xs) 0)

abbrev pub PortBytesDemand3 : Type 0
PortBytesDemand3 =
    (b : List ℕ) → length b ≡ 614 → (xs : List PortOperation) (before : List Command) (k : Command) (later : List Command)
    → CallInPort (call_at b 0) xs (before ++ k ∷ later) → FirstTeardown (call_at b 0) before k
    → Closes (placed (call_at b 0)) (after (placed (call_at b 0)) (before ++ k ∷ [])) (call_at (port_bytes_done b xs) 0) (actor k) (before ++ k ∷ later) later

abbrev pub PortBytesNoneTwice : Type 0
PortBytesNoneTwice =
    (b : List ℕ) → length b ≡ 614 → (xs : List PortOperation) (ks : List Command) → CallInPort (call_at b 0) xs ks → (t : ℕ) → sent_of (open_in t) (placed (call_at b 0)) ks ≤ 1

abbrev pub PortBytesNeverUnfit : Type 0
PortBytesNeverUnfit =
    (b : List ℕ) → length b ≡ 614 → (xs : List PortOperation) (ks : List Command) → CallInPort (call_at b 0) xs ks
    → (e : Side) (t : ℕ) (x : Status) (w : List Signal) → waiting e (call_at (port_bytes_done b xs) 0) ≡ Ordinary t x ∷ w
    → fits e false t x (end_of e (call_at (port_bytes_done b xs) 0)).channels ≡ true
