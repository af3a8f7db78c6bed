-- Computed from the definitions: P11 to P13, the limit of 14, the two tables of docs/CALLS.md, and every refusal alone and beside each later one. Assumes nothing.
use Rattle.std.specs.Prelude.{ℕ, zero, suc, ◌≡◌, refl, Bool, true, false, cond, ◌&&◌, List, [], ◌∷◌, ◌++◌, map, replicate}
use Rattle.ends.specs.declared.State.{State}
use Rattle.ends.specs.declared.State.TheVariants.{Idle, Requesting, Waiting, Linked, Unlinking}
use Rattle.ends.specs.declared.Status.TheVariants.{Unknown, Avail, Unavail, None, Dtmf, Special}
use Rattle.ends.specs.declared.Signal.{Signal}
use Rattle.ends.specs.declared.Signal.TheVariants.{Upack, Ordinary, Teardown, Downack}
use Rattle.call.specs.declared.Queue.{Queue}
use Rattle.call.specs.declared.Call.{Call}
use Rattle.ends.specs.declared.Side.{Side}
use Rattle.ends.specs.declared.Side.TheVariants.{Caller, Callee}
use Rattle.call.specs.declared.Command.{Command}
use Rattle.call.specs.declared.Command.TheVariants.{Accept, Busy, Unobtainable, Send, Teardown as Hang-up, Deliver}
use Rattle.call.specs.Protocol.{other, state_of, waiting as waits, within, all_unused, is_free, is_ordinary, step, number_in, placed, cleared}
use Rattle.call.specs.History.{allows, after, deliveries as since, waiting_both_ways}
use Rattle.call.specs.Row.{place, command, turn, turns, number_of_reply}
use Rattle.teardown.specs.Teardown.{FirstTeardown, FirstTeardownIn}

-- P11 TO P13
-- are all of these accepted, one after the other?
abbrev pub all_allowed : Call → List Command → Bool
all_allowed c [] = true
all_allowed c (k ∷ ks) = allows c k && all_allowed (step c k).call ks

-- Nothing more sent: deliveries, to the caller where that is accepted, else to the callee, until none is. How many, and the record then.
abbrev pub next : Call → Command
next c = cond (allows c (Deliver Caller)) (Deliver Caller) (Deliver Callee)

abbrev pub settle : ℕ → Call → ℕ
settle zero c = 0
settle (suc n) c = elim (allows c (next c)) [ true ↦ suc (settle n (step c (next c)).call) | false ↦ 0 ]

abbrev pub settled : ℕ → Call → Call
settled zero c = c
settled (suc n) c = settled n (step c (next c)).call

-- Commands on a call placed in a cleared record: that all are accepted, how the ends stand then and how many signals wait; the deliveries after that, and that both ends are idle at last.
pub record Play : Type 0 where
  pub accepted : Bool
  pub caller : State
  pub callee : State
  pub waiting : ℕ
  pub deliveries : ℕ
  pub idle : Bool

abbrev pub play : List Command → Play
play ks =
    let p = placed cleared in
    let z = after p ks in
    record {
      accepted = all_allowed p ks;
      caller = state_of Caller z;
      callee = state_of Callee z;
      waiting = waiting_both_ways z;
      deliveries = settle 64 z;
      idle = is_free (settled 64 z);
    }

abbrev pub to_linked : List Command
to_linked = Accept ∷ Deliver Caller ∷ []

abbrev pub p11 : List Command
p11 = to_linked ++ Hang-up Caller ∷ []

abbrev pub p12 : List Command
p12 = to_linked ++ Send Caller 0 Avail ∷ Send Callee 0 Avail ∷ Hang-up Caller ∷ Hang-up Callee ∷ []

abbrev pub p13 : List Command
p13 = Busy ∷ []

abbrev pub shows : State → State → ℕ → ℕ → Bool → Play
shows a b n d i = record { accepted = true; caller = a; callee = b; waiting = n; deliveries = d; idle = i }

-- first that the two ends are linked and the queues empty, where P11 and P12 start; P12 also with both signals one way, and the unobtainable callee
pub plays :
    map play (to_linked ∷ p11 ∷ p12 ∷ (to_linked ++ Send Caller 0 Avail ∷ Send Caller 0 Avail ∷ Hang-up Callee ∷ Hang-up Caller ∷ []) ∷ p13 ∷ (Unobtainable ∷ []) ∷ [])
    ≡ shows Linked Linked 0 0 false
    ∷ shows Unlinking Linked 1 2 true
    ∷ shows Unlinking Unlinking 4 6 true
    ∷ shows Unlinking Unlinking 4 6 true
    ∷ shows Requesting Unlinking 3 4 true
    ∷ shows Requesting Unlinking 3 4 true
    ∷ []
plays = refl

-- the third demand speaks of these: each has a first teardown
abbrev pub p12_before : List Command
p12_before = to_linked ++ Send Caller 0 Avail ∷ Send Callee 0 Avail ∷ []

pub p11_tears : FirstTeardown cleared to_linked (Hang-up Caller)
p11_tears = record { none_before = refl; one_with_k = refl }

pub p12_tears : FirstTeardown cleared p12_before (Hang-up Caller)
p12_tears = record { none_before = refl; one_with_k = refl }

pub p13_tears : FirstTeardown cleared [] Busy
p13_tears = record { none_before = refl; one_with_k = refl }

-- and by its own words: n, the deliveries among the commands since, whether all of these are accepted, and whether both ends are idle at last
pub record Closing : Type 0 where
  pub n : ℕ
  pub deliveries : ℕ
  pub accepted : Bool
  pub idle : Bool

abbrev pub closing : List Command → Command → List Command → Closing
closing before k later =
    let t = after (placed cleared) (before ++ k ∷ []) in
    record { n = waiting_both_ways t; deliveries = since t later; accepted = all_allowed t later; idle = is_free (after t later) }

abbrev pub closes : ℕ → ℕ → Closing
closes n d = record { n = n; deliveries = d; accepted = true; idle = true }

pub closings :
    closing to_linked (Hang-up Caller) (Deliver Callee ∷ Deliver Caller ∷ [])
    ∷ closing p12_before (Hang-up Caller)
    (Hang-up Callee ∷ Deliver Callee ∷ Deliver Caller ∷ Deliver Callee ∷ Deliver Caller ∷ Deliver Callee ∷ Deliver Caller ∷ [])
    ∷ closing [] Busy (Deliver Caller ∷ Deliver Caller ∷ Deliver Caller ∷ Deliver Callee ∷ [])
    ∷ []
    ≡ closes 1 2 ∷ closes 3 6 ∷ closes 3 4 ∷ []
closings = refl

-- a call in a row has one too, with another placed and answered in between
pub row_tears : FirstTeardownIn (cleared ∷ cleared ∷ []) 0 1 (place ∷ command 1 1 Accept ∷ command 0 1 Busy ∷ command 0 1 (Deliver Caller) ∷ []) [] Busy (Deliver Caller ∷ [])
row_tears = record { call_in = record { places = refl; own_commands = refl }; first = record { none_before = refl; one_with_k = refl } }

-- 13 WAITING: ACCEPTED; 14: REFUSAL 13
abbrev pub asks : Call → Command → ℕ
asks c k = number_in (step c k).answer

pub limit :
    map (λ n. asks (after (placed cleared) (to_linked ++ replicate n (Send Caller 0 Avail))) (Send Caller 0 Avail)) (0 ∷ 12 ∷ 13 ∷ 14 ∷ [])
    ≡ 0 ∷ 0 ∷ 0 ∷ 13 ∷ []
limit = refl

-- everything waiting counts, the upack too; teardown and downack find room still
pub limit_with_upack :
    map (λ n. asks (after (placed cleared) (Accept ∷ replicate n (Send Callee 0 Avail))) (Send Callee 0 Avail)) (12 ∷ 13 ∷ [])
    ≡ 0 ∷ 13 ∷ []
limit_with_upack = refl

-- THE TABLES OF docs/CALLS.md
-- a record of any kind: the ends' states, the counts, and the signal in every slot of each queue
abbrev pub filled_with : Signal → ℕ → Queue
filled_with x n = record { slots = replicate 16 x; count = n }

abbrev pub made : State → State → ℕ → ℕ → Signal → Signal → Call
made a b n m x y =
    record {
      caller = within a all_unused;
      callee = within b all_unused;
      to_caller = filled_with x n;
      to_callee = filled_with y m;
      use_number = 1;
    }

-- a side's end in a state, n signals x waiting for it; the other end is linked, and nothing waits for it
abbrev seat : Side → State → ℕ → Signal → Call
seat Caller s n x = made s Linked n 0 x Upack
seat Callee s n x = made Linked s 0 n Upack x

-- what comes of a command there: the number, the acting end's state, and what it sent
pub record Cell : Type 0 where
  pub number : ℕ
  pub state : State
  pub sends : List Signal

abbrev pub cell : Side → State → ℕ → Signal → Command → Cell
cell e s n x k =
    let z = step (seat e s n x) k in
    record { number = number_in z.answer; state = state_of e z.call; sends = waits (other e) z.call }

-- a refusal, which leaves the state and sends nothing
abbrev no : ℕ → State → Cell
no n s = record { number = n; state = s; sends = [] }

-- a state, and what is sent
abbrev now : State → List Signal → Cell
now s xs = record { number = 0; state = s; sends = xs }

-- Of states and signals: what an end in each state does with an upack, an ordinary signal, one outside the list, a teardown and a downack handed to it. It is the same for both sides.
abbrev pub delivery_table : Side → List (List Cell)
delivery_table e =
    map (λ s. map (λ x. cell e s 1 x (Deliver e)) (Upack ∷ Ordinary 0 Avail ∷ Ordinary 1 Avail ∷ Teardown ∷ Downack ∷ []))
    (Idle ∷ Requesting ∷ Waiting ∷ Linked ∷ Unlinking ∷ [])

abbrev delivery_cells : List (List Cell)
delivery_cells =
    (no 17 Idle ∷ no 17 Idle ∷ no 17 Idle ∷ no 17 Idle ∷ no 17 Idle ∷ [])
    ∷ (now Linked [] ∷ no 17 Requesting ∷ no 17 Requesting ∷ no 17 Requesting ∷ no 17 Requesting ∷ [])
    ∷ (no 17 Waiting ∷ no 17 Waiting ∷ no 17 Waiting ∷ no 17 Waiting ∷ no 17 Waiting ∷ [])
    ∷ (no 17 Linked ∷ now Linked [] ∷ no 17 Linked ∷ now Idle (Downack ∷ []) ∷ no 17 Linked ∷ [])
    ∷ (no 17 Unlinking ∷ now Unlinking [] ∷ no 17 Unlinking ∷ now Unlinking (Downack ∷ []) ∷ now Idle [] ∷ [])
    ∷ []

pub table_of_deliveries : map delivery_table (Caller ∷ Callee ∷ []) ≡ delivery_cells ∷ delivery_cells ∷ []
table_of_deliveries = refl

-- Of commands: what comes of an accept, a busy, an unobtainable, an ordinary signal, a teardown and a delivery for a callee in each state, with nothing waiting.
pub table_of_commands :
    map (λ s. map (cell Callee s 0 Upack) (Accept ∷ Busy ∷ Unobtainable ∷ Send Callee 0 Avail ∷ Hang-up Callee ∷ Deliver Callee ∷ []))
    (Idle ∷ Requesting ∷ Waiting ∷ Linked ∷ Unlinking ∷ [])
    ≡ (no 12 Idle ∷ no 12 Idle ∷ no 12 Idle ∷ no 12 Idle ∷ no 12 Idle ∷ no 14 Idle ∷ [])
    ∷ (no 12 Requesting ∷ no 12 Requesting ∷ no 12 Requesting ∷ no 12 Requesting ∷ no 12 Requesting ∷ no 14 Requesting ∷ [])
    ∷ (now Linked (Upack ∷ [])
    ∷ now Unlinking (Upack ∷ Ordinary 0 Unavail ∷ Teardown ∷ [])
    ∷ now Unlinking (Upack ∷ Ordinary 0 Unknown ∷ Teardown ∷ [])
    ∷ no 12 Waiting
    ∷ no 12 Waiting
    ∷ no 14 Waiting
    ∷ [])
    ∷ (no 12 Linked
    ∷ no 12 Linked
    ∷ no 12 Linked
    ∷ now Linked (Ordinary 0 Avail ∷ [])
    ∷ now Unlinking (Teardown ∷ [])
    ∷ no 14 Linked
    ∷ [])
    ∷ (no 12 Unlinking ∷ no 12 Unlinking ∷ no 12 Unlinking ∷ no 12 Unlinking ∷ no 12 Unlinking ∷ no 14 Unlinking ∷ [])
    ∷ []
table_of_commands = refl

-- the ordinary signals: in tunnel 0, the four statuses but no dtmf; in tunnel 1, symbols to 11 and no status; a special in both
pub ordinary_signals :
    map (λ t. map (is_ordinary t) (Unknown ∷ Avail ∷ Unavail ∷ None ∷ Dtmf 0 ∷ Dtmf 11 ∷ Dtmf 12 ∷ Special 0 ∷ Special 255 ∷ [])) (0 ∷ 1 ∷ 255 ∷ [])
    ≡ (true ∷ true ∷ true ∷ true ∷ false ∷ false ∷ false ∷ true ∷ true ∷ [])
    ∷ (false ∷ false ∷ false ∷ false ∷ true ∷ true ∷ false ∷ true ∷ true ∷ [])
    ∷ (false ∷ false ∷ false ∷ false ∷ true ∷ true ∷ false ∷ true ∷ true ∷ [])
    ∷ []
ordinary_signals = refl

-- EVERY REFUSAL
-- with ordinary signals in both queues
abbrev plain : State → State → ℕ → ℕ → Call
plain a b n m = made a b n m (Ordinary 0 Avail) (Ordinary 0 Avail)

pub counts_17 :
    -- alone, by either count
    asks (plain Linked Linked 17 1) (Deliver Callee)
    ∷ asks (plain Linked Linked 1 17) (Deliver Caller)
    -- beside 12, 15, 13, 14, and 17 for a signal that can't be taken
    ∷ asks (plain Idle Idle 17 0) (Hang-up Caller)
    ∷ asks (plain Linked Linked 17 0) (Send Callee 1 Avail)
    ∷ asks (plain Linked Linked 17 0) (Send Callee 0 Avail)
    ∷ asks (plain Linked Linked 17 0) (Deliver Callee)
    ∷ asks (plain Idle Linked 1 17) (Deliver Caller)
    ∷ []
    ≡ replicate 7 17
counts_17 = refl

pub state_12 :
    -- alone: an answer, a send and a teardown
    asks (plain Linked Linked 0 0) Accept
    ∷ asks (plain Requesting Unlinking 0 0) Busy
    ∷ asks (plain Requesting Idle 0 0) Unobtainable
    ∷ asks (plain Requesting Waiting 0 0) (Send Caller 0 Avail)
    ∷ asks (plain Unlinking Linked 0 0) (Hang-up Caller)
    -- beside 15, 13, and 17 for no room
    ∷ asks (plain Requesting Waiting 0 0) (Send Caller 1 Avail)
    ∷ asks (plain Unlinking Linked 0 14) (Send Caller 0 Avail)
    ∷ asks (plain Requesting Linked 16 0) Accept
    ∷ []
    ≡ replicate 8 12
state_12 = refl

pub ordinary_15 :
    -- alone: a status in tunnel 1, a dtmf in tunnel 0, and a symbol past the twelve
    asks (plain Linked Linked 0 0) (Send Caller 1 Avail)
    ∷ asks (plain Linked Linked 0 0) (Send Caller 0 (Dtmf 5))
    ∷ asks (plain Linked Linked 0 0) (Send Caller 1 (Dtmf 12))
    -- beside 13, and 17 for no room
    ∷ asks (plain Linked Linked 0 14) (Send Caller 1 Avail)
    ∷ asks (plain Linked Linked 0 16) (Send Caller 1 Avail)
    ∷ []
    ≡ replicate 5 15
ordinary_15 = refl

-- 13 alone, and beside 17 for no room; 14 alone, and beside an end that takes nothing with no room for a reply
pub waiting_13_14 :
    asks (plain Linked Linked 0 14) (Send Caller 0 Avail)
    ∷ asks (plain Linked Linked 0 16) (Send Caller 0 Avail)
    ∷ asks (plain Linked Linked 0 0) (Deliver Caller)
    ∷ asks (plain Idle Linked 0 16) (Deliver Caller)
    ∷ []
    ≡ 13 ∷ 13 ∷ 14 ∷ 14 ∷ []
waiting_13_14 = refl

pub rest_17 :
    -- a signal that the end can't take; one outside the list; no room for busy's three, an upack, a teardown, a downack
    asks (plain Requesting Linked 1 0) (Deliver Caller)
    ∷ asks (made Linked Linked 1 0 (Ordinary 1 Avail) Upack) (Deliver Caller)
    ∷ asks (plain Requesting Waiting 14 0) Busy
    ∷ asks (plain Requesting Waiting 14 0) Unobtainable
    ∷ asks (plain Requesting Waiting 16 0) Accept
    ∷ asks (plain Linked Linked 0 16) (Hang-up Caller)
    ∷ asks (made Linked Linked 1 16 Teardown Upack) (Deliver Caller)
    ∷ []
    ≡ replicate 7 17
rest_17 = refl

-- just room: each of these is accepted
pub room :
    asks (plain Requesting Waiting 13 0) Busy
    ∷ asks (plain Requesting Waiting 13 0) Unobtainable
    ∷ asks (plain Requesting Waiting 15 0) Accept
    ∷ asks (plain Linked Linked 0 13) (Send Caller 0 Avail)
    ∷ asks (plain Linked Linked 0 15) (Hang-up Caller)
    ∷ asks (made Linked Linked 1 15 Teardown Upack) (Deliver Caller)
    ∷ asks (plain Linked Linked 16 16) (Deliver Caller)
    ∷ []
    ≡ replicate 7 0
room = refl

-- ROWS: a row of 0 is 11, of 1,024 accepted, of 1,025 refused 16
pub rows : map (λ n. number_of_reply (turn (replicate n cleared) place).reply) (0 ∷ 1 ∷ 1024 ∷ 1025 ∷ []) ≡ 11 ∷ 0 ∷ 0 ∷ 16 ∷ []
rows = refl

-- 10 for a record outside the row, a free one, and one of another use; then the call itself; and no second free record
pub names :
    map (λ a. number_of_reply (turn (turns (cleared ∷ []) (place ∷ [])) a).reply) (command 1 1 Accept ∷ command 0 2 Accept ∷ command 0 1 Accept ∷ place ∷ [])
    ≡ 10 ∷ 10 ∷ 0 ∷ 11 ∷ []
names = refl

pub free_record : number_of_reply (turn (cleared ∷ []) (command 0 0 Accept)).reply ≡ 10
free_record = refl
