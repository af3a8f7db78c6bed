-- The record that is read from the bytes after a command is the step of the record that was read before, and every byte outside of the record is as it was. Assumes nothing.
use mathlib.Core.Path.{◌≡◌, refl, sym, ap, ap₂, subst, ◌∙◌}
use mathlib.Core.Bool.{Bool, true, false, cond, ◌&&◌}
use mathlib.Core.List.{List, [], ◌∷◌}
use Prim.Native.Nat.{ℕ, ◌+◌, ◌≤◌, ◌<◌}
use native.Mathlib.Omega.{arith}
use lib.Dec.{eqb, ltb, leb}
use lib.ListN.{length, get_or, set, length-set, get_or-eq_default}
use lib.Seq.{get_or-set_same, get_or-set_other, ext_get_or}
use borrow.Author.Tests.{leb-true, ltb-true, ltb-false, eqb-true, eqb-false}
use Rattle.typeset.proofs.Bools.{clash}
use Rattle.refusal.specs.declared.Refusal.{Refusal}
use Rattle.refusal.specs.declared.Refusal.TheVariants.{StateForbids, NotOrdinary, BrokenRecord}
use Rattle.channels.proofs.Table.{no_step}
use Rattle.ends.specs.declared.Side.{Side}
use Rattle.ends.specs.declared.Side.TheVariants.{Caller, Callee}
use Rattle.ends.specs.declared.State.{State}
use Rattle.ends.specs.declared.State.TheVariants.{Idle, Requesting, Waiting, Linked, Unlinking}
use Rattle.ends.specs.declared.End.{End}
use Rattle.ends.specs.declared.Status.{Status}
use Rattle.ends.specs.declared.Signal.{Signal}
use Rattle.ends.specs.declared.Signal.TheVariants.{Upack, Ordinary, Teardown, Downack}
use Rattle.std.specs.Prelude.{Result, Ok, Err}
use Rattle.refusal.specs.declared.Refusal.{Refusal}
use Rattle.ends.specs.declared.State.{State}
use Rattle.std.specs.Prelude.{Ok, Err}
use Rattle.ends.specs.Ends.{opens, kind_of, channel_at, next_with, next_channel, fits_with, fits, forbidden, hears_with, takes_with}
use Rattle.signalbytes.specs.Numbers.{state_number}
use Rattle.signalbytes.proofs.Back.{state-back}
use Rattle.call.specs.declared.Queue.{Queue}
use Rattle.call.specs.declared.Call.{Call}
use Rattle.call.specs.declared.Command.{Command}
use Rattle.call.specs.declared.Command.TheVariants.{Accept, Busy, Unobtainable, Send, Teardown as Hang-up, Deliver}
use Rattle.call.specs.Protocol.{actor, other, end_of, state_of, is_linked, is_ordinary, within, passed, speaks, queue_to, waiting, decide, push, pushes, pop, pops, sends, channels_by, moved, fit, judged, verdict, outcome}
use Rattle.recordbytes.specs.Records.{state_place, queue_place, channel_place, queue_at, bytes_from, call_at}
use Rattle.recordbytes.specs.Steps.{settled_at, touched_at, passed_at, channels_at, pushed_at, pushes_at, popped_at, pops_at, outcome_at, AsStep, Outside, in_front, behind, OnlyTheRecord}
use Rattle.recordbytes.proofs.Places.{queue-moved, queue-same, bytes-length, bytes-at, bytes_same, pushed-length, pushed-count, pushed-before, pushed-past, pushed-queue, popped-length, popped-before, popped-past, popped-queue}
use Rattle.recordbytes.proofs.Steps.{count-from, channels-from, channel-from, passed_length}

-- ---- a record by its bytes

pub call_same : (b d : List ℕ) (at to : ℕ) → ((j : ℕ) → j < 614 → get_or b (at + j) 0 ≡ get_or d (to + j) 0) → call_at b at ≡ call_at d to
unfolding call_at
call_same b d at to h =
    rw (h 0 (omega arith), h 1 (omega arith), h 2 (omega arith), h 3 (omega arith), queue 4 (omega arith), queue 53 (omega arith), channels 102 (omega arith), channels 358 (omega arith)) refl
  where
    later : (q j : ℕ) → q + j < 614 → get_or b (at + q + j) 0 ≡ get_or d (to + q + j) 0
    later q j l =
        let e : at + q + j ≡ at + (q + j) = omega arith in
        let f : to + q + j ≡ to + (q + j) = omega arith in
        rw (e, f) (h (q + j) l)

    queue : (q : ℕ) → q + 49 ≤ 614 → queue_at b (at + q) ≡ queue_at d (to + q)
    queue q room = queue-moved b d (at + q) (to + q) (λ j l. later q j (omega (arith, l, room)))

    channels : (q : ℕ) → q + 256 ≤ 614 → bytes_from 256 b (at + q) ≡ bytes_from 256 d (to + q)
    channels q room = bytes_same 256 b d (at + q) (to + q) (λ j l. later q j (omega (arith, l, room)))

-- the record with the queue towards one side replaced, or with one end
abbrev with_queue : Side → Queue → Call → Call
with_queue Caller q c =
    record { caller = c.caller; callee = c.callee; to_caller = q; to_callee = c.to_callee; use_number = c.use_number }
with_queue Callee q c =
    record { caller = c.caller; callee = c.callee; to_caller = c.to_caller; to_callee = q; use_number = c.use_number }

abbrev with_end : Side → End → Call → Call
with_end s e c = moved s e (queue_to s c) (queue_to (other s) c) c

-- one queue has other bytes
module _ (b d : List ℕ) (at : ℕ) where
  queue-changed : (s : Side) (k : Queue) → ((j : ℕ) → j < at + queue_place s → get_or d j 0 ≡ get_or b j 0) → ((j : ℕ) → at + queue_place s + 49 ≤ j → get_or d j 0 ≡ get_or b j 0)
      → queue_at d (at + queue_place s) ≡ k → call_at d at ≡ with_queue s k (call_at b at)
  unfolding call_at
  queue-changed Caller k lower upper e =
      rw (
        lower (at + 0) (omega arith),
        lower (at + 1) (omega arith),
        lower (at + 2) (omega arith),
        lower (at + 3) (omega arith),
        e,
        queue-same d b (at + 53) (λ j l. upper (at + 53 + j) (omega arith)),
        bytes_same 256 d b (at + 102) (at + 102) (λ j l. upper (at + 102 + j) (omega arith)),
        bytes_same 256 d b (at + 358) (at + 358) (λ j l. upper (at + 358 + j) (omega arith)),
      ) refl
  queue-changed Callee k lower upper e =
      rw (
        lower (at + 0) (omega arith),
        lower (at + 1) (omega arith),
        lower (at + 2) (omega arith),
        lower (at + 3) (omega arith),
        e,
        queue-same d b (at + 4) (λ j l. lower (at + 4 + j) (omega (arith, l))),
        bytes_same 256 d b (at + 102) (at + 102) (λ j l. upper (at + 102 + j) (omega arith)),
        bytes_same 256 d b (at + 358) (at + 358) (λ j l. upper (at + 358 + j) (omega arith)),
      ) refl

-- one state has another number
module _ (b : List ℕ) (at : ℕ) (room : at + 614 ≤ length b) (st : State) where
  state-past : (s : Side) (j : ℕ) → 2 ≤ j → get_or (settled_at b at s st) (at + j) 0 ≡ get_or b (at + j) 0
  state-past Caller j h = get_or-set_other b (at + 0) (at + j) _ 0 (λ x. absurd (omega (arith, x, h)))
  state-past Callee j h = get_or-set_other b (at + 1) (at + j) _ 0 (λ x. absurd (omega (arith, x, h)))

  state-later : (s : Side) (q j : ℕ) → 2 ≤ q → get_or (settled_at b at s st) (at + q + j) 0 ≡ get_or b (at + q + j) 0
  state-later s q j h = let x : at + q + j ≡ at + (q + j) = omega arith in rw x (state-past s (q + j) (omega (arith, h)))

  state-queue : (s : Side) (q : ℕ) → 2 ≤ q → queue_at (settled_at b at s st) (at + q) ≡ queue_at b (at + q)
  state-queue s q h = queue-same (settled_at b at s st) b (at + q) (λ j l. state-later s q j h)

  state-channels : (s : Side) (q : ℕ) → 2 ≤ q → bytes_from 256 (settled_at b at s st) (at + q) ≡ bytes_from 256 b (at + q)
  state-channels s q h = bytes_same 256 (settled_at b at s st) b (at + q) (at + q) (λ j l. state-later s q j h)

  settled-reads : (s : Side) → call_at (settled_at b at s st) at ≡ with_end s (within st (end_of s (call_at b at)).channels) (call_at b at)
  unfolding call_at
  settled-reads Caller =
      rw (
        get_or-set_same b (at + 0) (state_number st) 0 (omega (arith, room)),
        state-back st,
        get_or-set_other b (at + 0) (at + 1) (state_number st) 0 (λ x. absurd (omega (arith, x))),
        state-past Caller 2 (omega arith),
        state-past Caller 3 (omega arith),
        state-queue Caller 4 (omega arith),
        state-queue Caller 53 (omega arith),
        state-channels Caller 102 (omega arith),
        state-channels Caller 358 (omega arith),
      ) refl
  settled-reads Callee =
      rw (
        get_or-set_same b (at + 1) (state_number st) 0 (omega (arith, room)),
        state-back st,
        get_or-set_other b (at + 1) (at + 0) (state_number st) 0 (λ x. absurd (omega (arith, x))),
        state-past Callee 2 (omega arith),
        state-past Callee 3 (omega arith),
        state-queue Callee 4 (omega arith),
        state-queue Callee 53 (omega arith),
        state-channels Callee 102 (omega arith),
        state-channels Callee 358 (omega arith),
      ) refl

-- ---- one channel has another state

abbrev with_channels : Side → List ℕ → Call → Call
with_channels s cs c = with_end s (within (state_of s c) cs) c

own-channels : (s : Side) (c : Call) → with_channels s (end_of s c).channels c ≡ c
own-channels Caller c = refl
own-channels Callee c = refl

-- a channel that has a step has a state, so its tunnel is one of 256
there : (s : Side) (sends : Bool) (t : ℕ) (x : Status) (cs : List ℕ) → length cs ≡ 256 → eqb t 0 ≡ false → fits s sends t x cs ≡ true → t < 256
there s sends t x cs long e f = by (ltb t 256) refl
  where
    by : (z : Bool) → ltb t 256 ≡ z → t < 256
    by true h = ltb-true t 256 h
    by false h =
        let past : length cs ≤ t = rw long (ltb-false t 256 h) in
        let none : channel_at t cs ≡ 9 = get_or-eq_default cs 9 past in
        let stays : next_with s sends t x 9 ≡ 9 = sym (no_step (opens s t) sends 9 (kind_of x) (λ l k. omega (arith, l))) in
        let not-fit : fits s sends t x cs ≡ false = rw (e, none, stays) refl in
        absurd (clash f not-fit)

-- the place of a tunnel among a side's channels
channels-set : (n : ℕ) (b : List ℕ) (p t v : ℕ) → t < n → p + n ≤ length b → bytes_from n (set b (p + t) v) p ≡ set (bytes_from n b p) t v
channels-set n b p t v h room =
    ext_get_or 0 (bytes_from n (set b (p + t) v) p) (set (bytes_from n b p) t v) (bytes-length n (set b (p + t) v) p ∙ sym (length-set (bytes_from n b p) t v ∙ bytes-length n b p))
    (λ i l. each i (subst (λ (k : ℕ). i < k) (bytes-length n (set b (p + t) v) p) l))
  where
    each : (i : ℕ) → i < n → get_or (bytes_from n (set b (p + t) v) p) i 0 ≡ get_or (set (bytes_from n b p) t v) i 0
    each i l = bytes-at n (set b (p + t) v) p i 0 l ∙ by (eqb i t) refl
      where
        by : (z : Bool) → eqb i t ≡ z → get_or (set b (p + t) v) (p + i) 0 ≡ get_or (set (bytes_from n b p) t v) i 0
        by true e =
            let long : length (bytes_from n b p) ≡ n = bytes-length n b p in
            rw (eqb-true i t e) (get_or-set_same b (p + t) v 0 (omega (arith, h, room)) ∙ sym (get_or-set_same (bytes_from n b p) t v 0 (omega (arith, h, long))))
        by false e =
            get_or-set_other b (p + t) (p + i) v 0 (λ q. eqb-false i t e (omega (arith, q)))
            ∙ sym (bytes-at n b p i 0 l) ∙ sym (get_or-set_other (bytes_from n b p) t i v 0 (eqb-false i t e))

module _ (b : List ℕ) (at : ℕ) (room : at + 614 ≤ length b) where
  abbrev stored : Side → ℕ → ℕ → List ℕ
  stored s t v = set b (at + channel_place s + t) v

  stored-else : (s : Side) (t v j : ℕ) → j < 102 → get_or (stored s t v) (at + j) 0 ≡ get_or b (at + j) 0
  stored-else Caller t v j h = get_or-set_other b (at + 102 + t) (at + j) v 0 (λ x. absurd (omega (arith, x, h)))
  stored-else Callee t v j h = get_or-set_other b (at + 358 + t) (at + j) v 0 (λ x. absurd (omega (arith, x, h)))

  stored-queue : (s : Side) (t v q : ℕ) → q + 49 ≤ 102 → queue_at (stored s t v) (at + q) ≡ queue_at b (at + q)
  stored-queue s t v q h = queue-same (stored s t v) b (at + q) (λ j l. later j (omega (arith, l, h)))
    where
      later : (j : ℕ) → q + j < 102 → get_or (stored s t v) (at + q + j) 0 ≡ get_or b (at + q + j) 0
      later j l = let x : at + q + j ≡ at + (q + j) = omega arith in rw x (stored-else s t v (q + j) l)

  -- the other side's channels
  stored-above : (t v : ℕ) → t < 256 → bytes_from 256 (stored Caller t v) (at + 358) ≡ bytes_from 256 b (at + 358)
  stored-above t v h = bytes_same 256 (stored Caller t v) b (at + 358) (at + 358) (λ j l. get_or-set_other b (at + 102 + t) (at + 358 + j) v 0 (λ x. absurd (omega (arith, x, h))))

  stored-below : (t v : ℕ) → bytes_from 256 (stored Callee t v) (at + 102) ≡ bytes_from 256 b (at + 102)
  stored-below t v = bytes_same 256 (stored Callee t v) b (at + 102) (at + 102) (λ j l. get_or-set_other b (at + 358 + t) (at + 102 + j) v 0 (λ x. absurd (omega (arith, x, l))))

  stored-reads : (s : Side) (t v : ℕ) → t < 256 → call_at (stored s t v) at ≡ with_channels s (set (end_of s (call_at b at)).channels t v) (call_at b at)
  unfolding call_at
  stored-reads Caller t v h =
      rw (
        stored-else Caller t v 0 (omega arith),
        stored-else Caller t v 1 (omega arith),
        stored-else Caller t v 2 (omega arith),
        stored-else Caller t v 3 (omega arith),
        stored-queue Caller t v 4 (omega arith),
        stored-queue Caller t v 53 (omega arith),
        stored-above t v h,
        channels-set 256 b (at + 102) t v h (omega (arith, room)),
      ) refl
  stored-reads Callee t v h =
      rw (
        stored-else Callee t v 0 (omega arith),
        stored-else Callee t v 1 (omega arith),
        stored-else Callee t v 2 (omega arith),
        stored-else Callee t v 3 (omega arith),
        stored-queue Callee t v 4 (omega arith),
        stored-queue Callee t v 53 (omega arith),
        stored-below t v,
        channels-set 256 b (at + 358) t v h (omega (arith, room)),
      ) refl

  -- a signal that is fit passes its channel
  passed_reads : (s : Side) (sends : Bool) (t : ℕ) (x : Status) → fits s sends t x (end_of s (call_at b at)).channels ≡ true
      → call_at (passed_at b at s sends (Ordinary t x)) at ≡ with_channels s (passed s sends (Ordinary t x) (end_of s (call_at b at)).channels) (call_at b at)
  passed_reads s sends t x f = by (eqb t 0) refl
    where
      by : (z : Bool) → eqb t 0 ≡ z → call_at (cond (eqb t 0) b (touched_at b at s sends t x)) at ≡ with_channels s (cond (eqb t 0) (end_of s (call_at b at)).channels (set (end_of s (call_at b at)).channels t (next_channel s sends t x (end_of s (call_at b at)).channels))) (call_at b at)
      by true e = rw e (sym (own-channels s (call_at b at)))
      by false e =
          let long : length (end_of s (call_at b at)).channels ≡ 256 = ap length (sym (channels-from s b at)) ∙ bytes-length 256 b (at + channel_place s) in
          let h : t < 256 = there s sends t x (end_of s (call_at b at)).channels long e f in
          rw (e, channel-from s b at t h) (stored-reads s t (next_channel s sends t x (end_of s (call_at b at)).channels) h)

-- ---- a queue of a record

queue-room : (b : List ℕ) (at : ℕ) (s : Side) → at + 614 ≤ length b → at + queue_place s + 49 ≤ length b
queue-room b at Caller room = omega (arith, room)
queue-room b at Callee room = omega (arith, room)

queue-from : (s : Side) (b : List ℕ) (at : ℕ) → queue_at b (at + queue_place s) ≡ queue_to s (call_at b at)
unfolding call_at
queue-from Caller b at = refl
queue-from Callee b at = refl

module _ (b : List ℕ) (at : ℕ) (room : at + 614 ≤ length b) (s : Side) where
  pushed-reads : (x : Signal) → (queue_to s (call_at b at)).count < 16 → call_at (pushed_at b (at + queue_place s) x) at ≡ with_queue s (push (queue_to s (call_at b at)) x) (call_at b at)
  pushed-reads x few =
      let n : get_or b (at + queue_place s) 0 < 16 = rw (count-from s b at) few in
      queue-changed b (pushed_at b (at + queue_place s) x) at s (push (queue_to s (call_at b at)) x)
      (λ j l. pushed-before b (at + queue_place s) x j l) (λ j l. pushed-past b (at + queue_place s) x j n l)
      (pushed-queue b (at + queue_place s) (queue-room b at s room) x n ∙ ap (λ (q : Queue). push q x) (queue-from s b at))

  popped-reads : call_at (popped_at b (at + queue_place s)) at ≡ with_queue s (pop (queue_to s (call_at b at))) (call_at b at)
  popped-reads =
      queue-changed b (popped_at b (at + queue_place s)) at s (pop (queue_to s (call_at b at)))
      (λ j l. popped-before b (at + queue_place s) j l) (λ j l. popped-past b (at + queue_place s) (queue-room b at s room) j l)
      (popped-queue b (at + queue_place s) (queue-room b at s room) ∙ ap pop (queue-from s b at))

-- one replaced after the other
of-queue : (s : Side) (q : Queue) (c : Call) → queue_to s (with_queue s q c) ≡ q
of-queue Caller q c = refl
of-queue Callee q c = refl

queue-again : (s : Side) (p q : Queue) (c : Call) → with_queue s p (with_queue s q c) ≡ with_queue s p c
queue-again Caller p q c = refl
queue-again Callee p q c = refl

own-queue : (s : Side) (c : Call) → with_queue s (queue_to s c) c ≡ c
own-queue Caller c = refl
own-queue Callee c = refl

other-queue : (s : Side) (q : Queue) (c : Call) → queue_to (other s) (with_queue s q c) ≡ queue_to (other s) c
other-queue Caller q c = refl
other-queue Callee q c = refl

of_end : (s t : Side) (e : End) (c : Call) → queue_to t (with_end s e c) ≡ queue_to t c
of_end Caller Caller e c = refl
of_end Caller Callee e c = refl
of_end Callee Caller e c = refl
of_end Callee Callee e c = refl

all_three : (s : Side) (e : End) (i o : Queue) (c : Call) → with_queue (other s) o (with_queue s i (with_end s e c)) ≡ moved s e i o c
all_three Caller e i o c = refl
all_three Callee e i o c = refl

-- some signals put in
pushes-length : (xs : List Signal) (b : List ℕ) (q : ℕ) → length (pushes_at b q xs) ≡ length b
pushes-length [] b q = refl
pushes-length (x ∷ xs) b q = pushes-length xs (pushed_at b q x) q ∙ pushed-length b q x

pushes-reads : (xs : List Signal) (b : List ℕ) (at : ℕ) (s : Side) → at + 614 ≤ length b → (queue_to s (call_at b at)).count + length xs ≤ 16
    → call_at (pushes_at b (at + queue_place s) xs) at ≡ with_queue s (pushes (queue_to s (call_at b at)) xs) (call_at b at)
pushes-reads [] b at s room few = sym (own-queue s (call_at b at))
pushes-reads (x ∷ xs) b at s room few =
    let d : List ℕ = pushed_at b (at + queue_place s) x in
    let q : Queue = push (queue_to s (call_at b at)) x in
    let one : call_at d at ≡ with_queue s q (call_at b at) = pushed-reads b at room s x (omega (arith, few)) in
    let to : queue_to s (call_at d at) ≡ q = ap (queue_to s) one ∙ of-queue s q (call_at b at) in
    let count : (queue_to s (call_at d at)).count ≡ (queue_to s (call_at b at)).count + 1 = ap (λ (k : Queue). k.count) to in
    pushes-reads xs d at s (omega (arith, room, pushed-length b (at + queue_place s) x)) (omega (arith, few, count))
    ∙ ap₂ (λ (k : Queue) (c : Call). with_queue s (pushes k xs) c) to one ∙ queue-again s (pushes q xs) q (call_at b at)

-- what a delivery takes out
pops_length : (k : Command) (b : List ℕ) (q : ℕ) → length (pops_at k b q) ≡ length b
pops_length Accept b q = refl
pops_length Busy b q = refl
pops_length Unobtainable b q = refl
pops_length (Send s t x) b q = refl
pops_length (Hang-up s) b q = refl
pops_length (Deliver s) b q = popped-length b q

pops-reads : (k : Command) (b : List ℕ) (at : ℕ) → at + 614 ≤ length b
    → call_at (pops_at k b (at + queue_place (actor k))) at ≡ with_queue (actor k) (pops k (queue_to (actor k) (call_at b at))) (call_at b at)
pops-reads Accept b at room = refl
pops-reads Busy b at room = refl
pops-reads Unobtainable b at room = refl
pops-reads (Send s t x) b at room = sym (own-queue s (call_at b at))
pops-reads (Hang-up s) b at room = sym (own-queue s (call_at b at))
pops-reads (Deliver s) b at room = popped-reads b at room s

-- ---- the step

-- what is accepted has room
broken : (v : Result State Refusal) → Bool
broken (Err r) = true
broken (Ok e) = false

fit-room : (v : Result State Refusal) (n : ℕ) (st : State) → fit v n ≡ Ok st → n ≤ 16
unfolding broken
fit-room (Err r) n st h = let x : true ≡ false = ap broken h in absurd (clash refl x)
fit-room (Ok d) n st h = by (leb n 16) refl
  where
    by : (t : Bool) → leb n 16 ≡ t → n ≤ 16
    by true f = leb-true n 16 f
    by false f =
        let x : Err BrokenRecord ≡ Ok st = ap (λ (t : Bool). cond t (Ok d) (Err BrokenRecord)) (sym f) ∙ h in
        let y : true ≡ false = ap broken x in
        absurd (clash refl y)

-- what is accepted was judged so
judged-so : (c : Call) (k : Command) (st : State) → verdict c k ≡ Ok st → judged c k ≡ Ok st
unfolding broken
judged-so c k st h = by (leb c.to_caller.count 16 && leb c.to_callee.count 16) refl
  where
    by : (t : Bool) → (leb c.to_caller.count 16 && leb c.to_callee.count 16) ≡ t → judged c k ≡ Ok st
    by true f = ap (λ (t : Bool). cond t (judged c k) (Err BrokenRecord)) (sym f) ∙ h
    by false f =
        let x : Err BrokenRecord ≡ Ok st = ap (λ (t : Bool). cond t (judged c k) (Err BrokenRecord)) (sym f) ∙ h in
        let y : true ≡ false = ap broken x in
        absurd (clash refl y)

verdict-room : (c : Call) (k : Command) (st : State) → verdict c k ≡ Ok st → (queue_to (other (actor k)) c).count + length (sends k (waiting (actor k) c)) ≤ 16
verdict-room c k st h =
    fit-room (decide k (end_of (actor k) c) (waiting (actor k) c) (queue_to (other (actor k)) c).count) ((queue_to (other (actor k)) c).count + length (sends k (waiting (actor k) c))) st (judged-so c k st h)

fit_same : (v : Result State Refusal) (n : ℕ) (st : State) → fit v n ≡ Ok st → v ≡ Ok st
unfolding broken
fit_same (Err r) n st h = h
fit_same (Ok d) n st h = by (leb n 16) refl
  where
    by : (t : Bool) → leb n 16 ≡ t → ◌≡◌ {A = Result State Refusal} (Ok d) (Ok st)
    by true f = ap (λ (t : Bool). cond t (Ok d) (Err BrokenRecord)) (sym f) ∙ h
    by false f =
        let x : Err BrokenRecord ≡ Ok st = ap (λ (t : Bool). cond t (Ok d) (Err BrokenRecord)) (sym f) ∙ h in
        let y : true ≡ false = ap broken x in
        absurd (clash refl y)

-- and what was sent or taken then is fit for its channel
chosen : {v : Result State Refusal} (t : Bool) (r : Refusal) {st : State} → cond t v (Err r) ≡ Ok st → (t ≡ true) × (v ≡ Ok st)
unfolding broken
chosen true r h = (refl, h)
chosen false r h = let y : true ≡ false = ap broken h in absurd (clash refl y)

speaks-fit : (s : Side) (e : End) (t : ℕ) (x : Status) (n : ℕ) (st : State) → speaks s e t x n ≡ Ok st → fits s true t x e.channels ≡ true
speaks-fit s e t x n st h = (chosen (fits s true t x e.channels) (forbidden x) (chosen (is_ordinary t x) NotOrdinary (chosen (is_linked e.state) StateForbids h).1).1).0

hears-fit : (now : State) (s : Side) (t : ℕ) (x : Status) (n : ℕ) (st : State) → hears_with now s t x n ≡ Ok st → fits_with s false t x n ≡ true
hears-fit now s t x n st h = (chosen (fits_with s false t x n) BrokenRecord (chosen (is_ordinary t x) BrokenRecord h).1).0

takes-fit : (now : State) (s : Side) (t : ℕ) (x : Status) (n : ℕ) (st : State) → takes_with now s (Ordinary t x) n ≡ Ok st → fits_with s false t x n ≡ true
unfolding broken
takes-fit Idle s t x n st h = let y : true ≡ false = ap broken h in absurd (clash refl y)
takes-fit Requesting s t x n st h = let y : true ≡ false = ap broken h in absurd (clash refl y)
takes-fit Waiting s t x n st h = let y : true ≡ false = ap broken h in absurd (clash refl y)
takes-fit Linked s t x n st h = hears-fit Linked s t x n st h
takes-fit Unlinking s t x n st h = hears-fit Unlinking s t x n st h

-- what an accepted command leaves of the channels: b is the bytes with the state written, whose record has the channels of c
channels-read : (k : Command) (b : List ℕ) (at : ℕ) (w : List Signal) (e : End) (n : ℕ) (st : State) → at + 614 ≤ length b → (end_of (actor k) (call_at b at)).channels ≡ e.channels → decide k e w n ≡ Ok st
    → call_at (channels_at k w b at) at ≡ with_channels (actor k) (channels_by k w (end_of (actor k) (call_at b at)).channels) (call_at b at)
channels-read Accept b at w e n st room same h = refl
channels-read Busy b at w e n st room same h = refl
channels-read Unobtainable b at w e n st room same h = refl
channels-read (Hang-up s) b at w e n st room same h = sym (own-channels s (call_at b at))
channels-read (Send s t x) b at w e n st room same h = passed_reads b at room s true t x (ap (fits s true t x) same ∙ speaks-fit s e t x n st h)
channels-read (Deliver s) b at [] e n st room same h = sym (own-channels s (call_at b at))
channels-read (Deliver s) b at (Upack ∷ w) e n st room same h = sym (own-channels s (call_at b at))
channels-read (Deliver s) b at (Teardown ∷ w) e n st room same h = sym (own-channels s (call_at b at))
channels-read (Deliver s) b at (Downack ∷ w) e n st room same h = sym (own-channels s (call_at b at))
channels-read (Deliver s) b at (Ordinary t x ∷ w) e n st room same h = passed_reads b at room s false t x (ap (fits s false t x) same ∙ takes-fit e.state s t x (channel_at t e.channels) st h)

channels-length : (k : Command) (w : List Signal) (b : List ℕ) (at : ℕ) → length (channels_at k w b at) ≡ length b
channels-length Accept w b at = refl
channels-length Busy w b at = refl
channels-length Unobtainable w b at = refl
channels-length (Send s t x) w b at = passed_length b at s true (Ordinary t x)
channels-length (Hang-up s) w b at = refl
channels-length (Deliver s) [] b at = refl
channels-length (Deliver s) (x ∷ w) b at = passed_length b at s false x

-- one end replaced, and then its channels, and then a queue
end-channels : (s : Side) (st : State) (cs ds : List ℕ) (c : Call) → with_channels s cs (with_end s (within st ds) c) ≡ with_end s (within st cs) c
end-channels Caller st cs ds c = refl
end-channels Callee st cs ds c = refl

end-of : (s : Side) (e : End) (c : Call) → end_of s (with_end s e c) ≡ e
end-of Caller e c = refl
end-of Callee e c = refl

module _ (b : List ℕ) (at : ℕ) (k : Command) (room : at + 614 ≤ length b) where
  abbrev c : Call
  c = call_at b at

  abbrev s : Side
  s = actor k

  abbrev w : List Signal
  w = waiting s c

  -- the end gone on, its channel too, and the head out
  module _ (st : State) where
    abbrev e : End
    e = within st (channels_by k w (end_of s c).channels)

    settled : List ℕ
    settled = settled_at b at s st

    settled-length : length settled ≡ length b
    unfolding settled
    settled-length = length-set b (at + state_place s) _

    passed_on : List ℕ
    passed_on = channels_at k w settled at

    passed-on-length : length passed_on ≡ length b
    unfolding passed_on
    passed-on-length = channels-length k w settled at ∙ settled-length

    taken : List ℕ
    taken = pops_at k passed_on (at + queue_place s)

    taken-length : length taken ≡ length b
    unfolding taken
    taken-length = pops_length k passed_on (at + queue_place s) ∙ passed-on-length

    module _ (h : verdict c k ≡ Ok st) where
      decided : decide k (end_of s c) w (queue_to (other s) c).count ≡ Ok st
      decided = fit_same (decide k (end_of s c) w (queue_to (other s) c).count) ((queue_to (other s) c).count + length (sends k w)) st (judged-so c k st h)

      settled_is : call_at settled at ≡ with_end s (within st (end_of s c).channels) c
      unfolding settled
      settled_is = settled-reads b at room st s

      same-channels : (end_of s (call_at settled at)).channels ≡ (end_of s c).channels
      same-channels = ap (λ (d : Call). (end_of s d).channels) settled_is ∙ ap (λ (x : End). x.channels) (end-of s (within st (end_of s c).channels) c)

      passed-on-reads : call_at passed_on at ≡ with_end s e c
      unfolding passed_on
      passed-on-reads =
          channels-read k settled at w (end_of s c) (queue_to (other s) c).count st (omega (arith, room, settled-length)) same-channels decided
          ∙ ap₂ (λ (cs : List ℕ) (d : Call). with_channels s (channels_by k w cs) d) same-channels settled_is
          ∙ end-channels s st (channels_by k w (end_of s c).channels) (end_of s c).channels c

      taken-reads : call_at taken at ≡ with_queue s (pops k (queue_to s c)) (with_end s e c)
      unfolding taken
      taken-reads =
          pops-reads k passed_on at (omega (arith, room, passed-on-length))
          ∙ ap (λ (d : Call). with_queue s (pops k (queue_to s d)) d) passed-on-reads
          ∙ ap (λ (q : Queue). with_queue s (pops k q) (with_end s e c)) (of_end s s e c)

      back : queue_to (other s) (call_at taken at) ≡ queue_to (other s) c
      back = ap (queue_to (other s)) taken-reads ∙ other-queue s (pops k (queue_to s c)) (with_end s e c) ∙ of_end s (other s) e c

  reads : (v : Result State Refusal) → verdict c k ≡ v → ((outcome_at b at k v).answer ≡ (outcome c k v).answer) × (call_at (outcome_at b at k v).bytes at ≡ (outcome c k v).call)
  unfolding taken passed_on settled
  reads (Err r) h = (refl, refl)
  reads (Ok st) h =
      let xs : List Signal = sends k w in
      let count : (queue_to (other s) (call_at (taken st) at)).count ≡ (queue_to (other s) c).count = ap (λ (q : Queue). q.count) (back st h) in
      let few : (queue_to (other s) c).count + length xs ≤ 16 = verdict-room c k st h in (
        refl,
        pushes-reads xs (taken st) at (other s) (omega (arith, room, taken-length st)) (omega (arith, few, count))
            ∙ ap₂ (λ (q : Queue) (d : Call). with_queue (other s) (pushes q xs) d) (back st h) (taken-reads st h)
            ∙ all_three s (e st) (pops k (queue_to s c)) (pushes (queue_to (other s) c) xs) c,
      )

pub as_step : AsStep
as_step b at k room = reads b at k room (verdict (call_at b at) k) refl

-- ---- every byte outside of the record

settled-outside : (b : List ℕ) (at : ℕ) (s : Side) (st : State) (j : ℕ) → Outside at j → get_or (settled_at b at s st) j 0 ≡ get_or b j 0
settled-outside b at Caller e j (in_front h) = get_or-set_other b (at + 0) j _ 0 (λ x. absurd (omega (arith, x, h)))
settled-outside b at Caller e j (behind h) = get_or-set_other b (at + 0) j _ 0 (λ x. absurd (omega (arith, x, h)))
settled-outside b at Callee e j (in_front h) = get_or-set_other b (at + 1) j _ 0 (λ x. absurd (omega (arith, x, h)))
settled-outside b at Callee e j (behind h) = get_or-set_other b (at + 1) j _ 0 (λ x. absurd (omega (arith, x, h)))

-- a place outside of the record is outside of its queues
below-queue : (s : Side) (at j : ℕ) → j < at → j < at + queue_place s
below-queue Caller at j h = omega (arith, h)
below-queue Callee at j h = omega (arith, h)

past-queue : (s : Side) (at j : ℕ) → at + 614 ≤ j → at + queue_place s + 49 ≤ j
past-queue Caller at j h = omega (arith, h)
past-queue Callee at j h = omega (arith, h)

stored-outside : (b : List ℕ) (at : ℕ) (s : Side) (t v j : ℕ) → t < 256 → Outside at j → get_or (set b (at + channel_place s + t) v) j 0 ≡ get_or b j 0
stored-outside b at Caller t v j l (in_front h) = get_or-set_other b (at + 102 + t) j v 0 (λ x. absurd (omega (arith, x, h)))
stored-outside b at Caller t v j l (behind h) = get_or-set_other b (at + 102 + t) j v 0 (λ x. absurd (omega (arith, x, h, l)))
stored-outside b at Callee t v j l (in_front h) = get_or-set_other b (at + 358 + t) j v 0 (λ x. absurd (omega (arith, x, h)))
stored-outside b at Callee t v j l (behind h) = get_or-set_other b (at + 358 + t) j v 0 (λ x. absurd (omega (arith, x, h, l)))

passed-outside : (b : List ℕ) (at : ℕ) (s : Side) (sends : Bool) (t : ℕ) (x : Status) (j : ℕ) → fits s sends t x (end_of s (call_at b at)).channels ≡ true → Outside at j → get_or (passed_at b at s sends (Ordinary t x)) j 0 ≡ get_or b j 0
passed-outside b at s sends t x j f o = by (eqb t 0) refl
  where
    by : (z : Bool) → eqb t 0 ≡ z → get_or (cond (eqb t 0) b (touched_at b at s sends t x)) j 0 ≡ get_or b j 0
    by true e = rw e refl
    by false e =
        let long : length (end_of s (call_at b at)).channels ≡ 256 = ap length (sym (channels-from s b at)) ∙ bytes-length 256 b (at + channel_place s) in
        rw e (stored-outside b at s t _ j (there s sends t x (end_of s (call_at b at)).channels long e f) o)

channels-outside : (k : Command) (b : List ℕ) (at : ℕ) (w : List Signal) (e : End) (n : ℕ) (st : State) (j : ℕ) → (end_of (actor k) (call_at b at)).channels ≡ e.channels → decide k e w n ≡ Ok st → Outside at j
    → get_or (channels_at k w b at) j 0 ≡ get_or b j 0
channels-outside Accept b at w e n st j same h o = refl
channels-outside Busy b at w e n st j same h o = refl
channels-outside Unobtainable b at w e n st j same h o = refl
channels-outside (Hang-up s) b at w e n st j same h o = refl
channels-outside (Send s t x) b at w e n st j same h o = passed-outside b at s true t x j (ap (fits s true t x) same ∙ speaks-fit s e t x n st h) o
channels-outside (Deliver s) b at [] e n st j same h o = refl
channels-outside (Deliver s) b at (Upack ∷ w) e n st j same h o = refl
channels-outside (Deliver s) b at (Teardown ∷ w) e n st j same h o = refl
channels-outside (Deliver s) b at (Downack ∷ w) e n st j same h o = refl
channels-outside (Deliver s) b at (Ordinary t x ∷ w) e n st j same h o = passed-outside b at s false t x j (ap (fits s false t x) same ∙ takes-fit e.state s t x (channel_at t e.channels) st h) o

module _ (at : ℕ) (j : ℕ) where
  pops-outside : (k : Command) (b : List ℕ) → at + 614 ≤ length b → Outside at j → get_or (pops_at k b (at + queue_place (actor k))) j 0 ≡ get_or b j 0
  pops-outside Accept b room o = refl
  pops-outside Busy b room o = refl
  pops-outside Unobtainable b room o = refl
  pops-outside (Send s t x) b room o = refl
  pops-outside (Hang-up s) b room o = refl
  pops-outside (Deliver s) b room (in_front h) = popped-before b (at + queue_place s) j (below-queue s at j h)
  pops-outside (Deliver s) b room (behind h) = popped-past b (at + queue_place s) (queue-room b at s room) j (past-queue s at j h)

  pushed-outside : (s : Side) (b : List ℕ) (x : Signal) → get_or b (at + queue_place s) 0 < 16 → Outside at j → get_or (pushed_at b (at + queue_place s) x) j 0 ≡ get_or b j 0
  pushed-outside s b x few (in_front h) = pushed-before b (at + queue_place s) x j (below-queue s at j h)
  pushed-outside s b x few (behind h) = pushed-past b (at + queue_place s) x j few (past-queue s at j h)

  pushes-outside : (xs : List Signal) (s : Side) (b : List ℕ) → at + 614 ≤ length b → get_or b (at + queue_place s) 0 + length xs ≤ 16 → Outside at j → get_or (pushes_at b (at + queue_place s) xs) j 0 ≡ get_or b j 0
  pushes-outside [] s b room few o = refl
  pushes-outside (x ∷ xs) s b room few o =
      let q : ℕ = at + queue_place s in
      let count : get_or (pushed_at b q x) q 0 ≡ get_or b q 0 + 1 = pushed-count b q (queue-room b at s room) x in
      pushes-outside xs s (pushed_at b q x) (omega (arith, room, pushed-length b q x)) (omega (arith, few, count)) o ∙ pushed-outside s b x (omega (arith, few)) o

module _ (b : List ℕ) (at : ℕ) (k : Command) (room : at + 614 ≤ length b) where
  outside : (v : Result State Refusal) → verdict (call_at b at) k ≡ v → (length (outcome_at b at k v).bytes ≡ length b) × ((j : ℕ) → Outside at j → get_or (outcome_at b at k v).bytes j 0 ≡ get_or b j 0)
  unfolding taken passed_on settled
  outside (Err r) h = (refl, λ j o. refl)
  outside (Ok st) h =
      let t : Side = actor k in
      let x : List ℕ = taken b at k room st in
      let on : List ℕ = passed_on b at k room st in
      let ws : List Signal = waiting t (call_at b at) in
      let xs : List Signal = sends k ws in
      let long : length x ≡ length b = taken-length b at k room st in
      let count : get_or x (at + queue_place (other t)) 0 ≡ (queue_to (other t) (call_at b at)).count = count-from (other t) x at ∙ ap (λ (q : Queue). q.count) (back b at k room st h) in
      let few : (queue_to (other t) (call_at b at)).count + length xs ≤ 16 = verdict-room (call_at b at) k st h in (
        pushes-length xs x (at + queue_place (other t)) ∙ long,
        λ j o.
            pushes-outside at j xs (other t) x (omega (arith, room, long)) (omega (arith, few, count)) o
            ∙ pops-outside at j k on (omega (arith, room, passed-on-length b at k room st)) o
            ∙ channels-outside k (settled b at k room st) at ws (end_of t (call_at b at)) (queue_to (other t) (call_at b at)).count st j (same-channels b at k room st h) (decided b at k room st h) o
            ∙ settled-outside b at t st j o,
      )

pub only-the-record : OnlyTheRecord
only-the-record b at k room = outside b at k room (verdict (call_at b at) k) refl
