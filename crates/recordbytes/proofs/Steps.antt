-- That what the code makes of a record's bytes is the step of Steps: its parts, one by one. Assumes nothing.
use mathlib.Core.Path.{◌≡◌, refl, sym, ap, ◌∙◌}
use mathlib.Core.Bool.{Bool, true, false, cond}
use mathlib.Core.List.{List, ◌∷◌}
use Prim.Native.Nat.{ℕ, zero, suc, ◌+◌, ◌-◌, ◌≤◌, ◌<◌}
use native.Mathlib.Numerals.{sub-one}
use native.Mathlib.Omega.{arith}
use lib.Dec.{leb, eqb}
use lib.ListN.{length, get_or, drop, length-set}
use borrow.Author.Tests.{le-leb, lt-leb}
use Rattle.refusal.specs.declared.Refusal.{Refusal}
use Rattle.refusal.specs.declared.Refusal.TheVariants.{NoSuchCall, NothingWaiting, BrokenRecord}
use Rattle.ends.specs.declared.State.{State}
use Rattle.ends.specs.declared.State.TheVariants.{Linked, Unlinking}
use Rattle.ends.specs.Ends.{channel_at}
use Rattle.ends.specs.declared.Status.{Status}
use Rattle.ends.specs.declared.Status.TheVariants.{Unknown, Unavail}
use Rattle.ends.specs.declared.Signal.{Signal}
use Rattle.ends.specs.declared.Signal.TheVariants.{Upack, Ordinary, Teardown, Downack}
use Rattle.std.specs.Prelude.{Result, Ok, Err}
use Rattle.refusal.specs.declared.Refusal.{Refusal}
use Rattle.ends.specs.declared.State.{State}
use Rattle.std.specs.Prelude.{Ok, Err}
use Rattle.signalbytes.specs.Numbers.{state_said, signal_said}
use Rattle.call.specs.declared.Call.{Call}
use Rattle.ends.specs.declared.Side.{Side}
use Rattle.ends.specs.declared.Side.TheVariants.{Caller, Callee}
use Rattle.call.specs.declared.Command.{Command}
use Rattle.call.specs.declared.Command.TheVariants.{Accept, Busy, Unobtainable, Send, Teardown as Hang-up, Deliver}
use Rattle.call.specs.Protocol.{Answer}
use Rattle.std.specs.Prelude.{Some, None, Ok, Err}
use Rattle.call.specs.Protocol.{other, end_of, state_of, queue_to, slot, signals, waiting, answers, speaks, tears, takes, fit}
use Rattle.recordbytes.specs.Records.{state_place, queue_place, channel_place, slots_from, bytes_from, call_at}
use Rattle.recordbytes.specs.Steps.{Stepped, refusing_at, settled_at, touched_at, passed_at, pushed_at, outcome_at, step_at, command_at}
use Rattle.recordbytes.specs.Parts.{acted_at, one_sent_at, three_sent_at, given_at, replied_at}
use Rattle.recordbytes.proofs.Places.{bytes-at}

-- ---- the parts of a record, by their bytes

pub state-from : (s : Side) (b : List ℕ) (at : ℕ) → state_said (get_or b (at + state_place s) 0) ≡ state_of s (call_at b at)
unfolding call_at
state-from Caller b at = refl
state-from Callee b at = refl

pub channels-from : (s : Side) (b : List ℕ) (at : ℕ) → bytes_from 256 b (at + channel_place s) ≡ (end_of s (call_at b at)).channels
unfolding call_at
channels-from Caller b at = refl
channels-from Callee b at = refl

pub channel-from : (s : Side) (b : List ℕ) (at t : ℕ) → t < 256 → get_or b (at + channel_place s + t) 0 ≡ channel_at t (end_of s (call_at b at)).channels
channel-from s b at t h = sym (bytes-at 256 b (at + channel_place s) t 9 h) ∙ ap (channel_at t) (channels-from s b at)

pub count-from : (s : Side) (b : List ℕ) (at : ℕ) → get_or b (at + queue_place s) 0 ≡ (queue_to s (call_at b at)).count
unfolding call_at
count-from Caller b at = refl
count-from Callee b at = refl

pub head-from : (s : Side) (b : List ℕ) (at : ℕ)
    → signal_said (get_or b (at + queue_place s + 1) 0) (get_or b (at + queue_place s + 2) 0) (get_or b (at + queue_place s + 3) 0) ≡ slot (queue_to s (call_at b at)).slots 0
unfolding call_at slots_from
head-from Caller b at =
    let p : at + 4 + 2 ≡ at + 4 + 1 + 1 = omega arith in
    let q : at + 4 + 3 ≡ at + 4 + 1 + 2 = omega arith in
    rw (p, q) refl
head-from Callee b at =
    let p : at + 53 + 2 ≡ at + 53 + 1 + 1 = omega arith in
    let q : at + 53 + 3 ≡ at + 53 + 1 + 2 = omega arith in
    rw (p, q) refl

pub passed_length : (b : List ℕ) (at : ℕ) (s : Side) (sends : Bool) (x : Signal) → length (passed_at b at s sends x) ≡ length b
passed_length b at s sends Upack = refl
passed_length b at s sends Teardown = refl
passed_length b at s sends Downack = refl
passed_length b at s sends (Ordinary tunnel x) = by (eqb tunnel 0)
  where
    by : (z : Bool) → length (cond z b (touched_at b at s sends tunnel x)) ≡ length b
    by true = refl
    by false = length-set b (at + channel_place s + tunnel) _

-- ---- a step's cases, as the parts of the code leave them

-- a function of a choice is a choice of its values
either : {A B : Type 0} (f : A → B) (b : Bool) (x y : A) → f (cond b x y) ≡ cond b (f x) (f y)
either f true x y = refl
either f false x y = refl

module _ (b : List ℕ) (at : ℕ) where
  abbrev c : Call
  c = call_at b at

  accept-by : (v : Result State Refusal) → outcome_at b at Accept (fit v (c.to_caller.count + 1)) ≡ one_sent_at b at Callee v Upack
  accept-by (Err r) = refl
  accept-by (Ok st) = rw (count-from Caller b at) (either (outcome_at b at Accept) (leb (c.to_caller.count + 1) 16) (Ok st) (Err BrokenRecord))

  send_by : (s : Side) (t : ℕ) (x : Status) (v : Result State Refusal) → outcome_at b at (Send s t x) (fit v ((queue_to (other s) c).count + 1)) ≡ one_sent_at b at s v (Ordinary t x)
  send_by s t x (Err r) = refl
  send_by s t x (Ok st) = rw (count-from (other s) b at) (either (outcome_at b at (Send s t x)) (leb ((queue_to (other s) c).count + 1) 16) (Ok st) (Err BrokenRecord))

  teardown-by : (s : Side) (v : Result State Refusal) → outcome_at b at (Hang-up s) (fit v ((queue_to (other s) c).count + 1)) ≡ one_sent_at b at s v Teardown
  teardown-by s (Err r) = refl
  teardown-by s (Ok st) = rw (count-from (other s) b at) (either (outcome_at b at (Hang-up s)) (leb ((queue_to (other s) c).count + 1) 16) (Ok st) (Err BrokenRecord))

  busy-by : (v : Result State Refusal) → outcome_at b at Busy (fit v (c.to_caller.count + 3)) ≡ three_sent_at b at v Unavail
  busy-by (Err r) = refl
  busy-by (Ok st) = rw (count-from Caller b at) (either (outcome_at b at Busy) (leb (c.to_caller.count + 3) 16) (Ok st) (Err BrokenRecord))

  unobtainable-by : (v : Result State Refusal) → outcome_at b at Unobtainable (fit v (c.to_caller.count + 3)) ≡ three_sent_at b at v Unknown
  unobtainable-by (Err r) = refl
  unobtainable-by (Ok st) = rw (count-from Caller b at) (either (outcome_at b at Unobtainable) (leb (c.to_caller.count + 3) 16) (Ok st) (Err BrokenRecord))

  pub accepts : acted_at b at Accept ≡ one_sent_at b at Callee (answers (state_of Callee c) Linked) Upack
  accepts = accept-by (answers (state_of Callee c) Linked)

  pub is-busy : acted_at b at Busy ≡ three_sent_at b at (answers (state_of Callee c) Unlinking) Unavail
  is-busy = busy-by (answers (state_of Callee c) Unlinking)

  pub is-unobtainable : acted_at b at Unobtainable ≡ three_sent_at b at (answers (state_of Callee c) Unlinking) Unknown
  is-unobtainable = unobtainable-by (answers (state_of Callee c) Unlinking)

  pub sends-one : (s : Side) (t : ℕ) (x : Status) → acted_at b at (Send s t x) ≡ one_sent_at b at s (speaks s (end_of s c) t x (queue_to (other s) c).count) (Ordinary t x)
  sends-one s t x = send_by s t x (speaks s (end_of s c) t x (queue_to (other s) c).count)

  pub tears-down : (s : Side) → acted_at b at (Hang-up s) ≡ one_sent_at b at s (tears (state_of s c)) Teardown
  tears-down s = teardown-by s (tears (state_of s c))

  module _ (s : Side) where
    -- something waits: first the head slot's signal
    waiting-some : 0 < (queue_to s c).count → waiting s c ≡ slot (queue_to s c).slots 0 ∷ signals ((queue_to s c).count - 1) (drop 1 (queue_to s c).slots)
    waiting-some h = go (queue_to s c).count h
      where
        go : (n : ℕ) → 0 < n → signals n (queue_to s c).slots ≡ slot (queue_to s c).slots 0 ∷ signals (n - 1) (drop 1 (queue_to s c).slots)
        go zero h = absurd (omega arith)
        go (suc n) h = rw sub-one

    pub deliver-none : (queue_to s c).count ≡ 0 → acted_at b at (Deliver s) ≡ refusing_at b NothingWaiting
    deliver-none h = rw h

    pub deliver-refuse : (r : Refusal) → 0 < (queue_to s c).count → takes s (end_of s c) (slot (queue_to s c).slots 0) ≡ Err r → acted_at b at (Deliver s) ≡ refusing_at b r
    deliver-refuse r h t = rw (waiting-some h, t)

    become-as : (x : Signal) (w : List Signal) (st : State) → waiting s c ≡ x ∷ w → takes s (end_of s c) x ≡ Ok st → (queue_to (other s) c).count ≤ 16 → acted_at b at (Deliver s) ≡ replied_at b at s st x
    become-as Upack w st h t n = rw (h, t, le-leb ((queue_to (other s) c).count + 0) 16 (omega arith)) (rw h)
    become-as (Ordinary i x) w st h t n = rw (h, t, le-leb ((queue_to (other s) c).count + 0) 16 (omega arith)) (rw h)
    become-as Downack w st h t n = rw (h, t, le-leb ((queue_to (other s) c).count + 0) 16 (omega arith)) (rw h)
    become-as Teardown w st h t n =
        rw (h, t, count-from (other s) b at) (either (λ v. outcome_at b at (Deliver s) v) (leb ((queue_to (other s) c).count + 1) 16) (Ok st) (Err BrokenRecord) ∙ rw h)

    pub deliver-become : (st : State) → 0 < (queue_to s c).count → (queue_to (other s) c).count ≤ 16 → takes s (end_of s c) (slot (queue_to s c).slots 0) ≡ Ok st
        → acted_at b at (Deliver s) ≡ replied_at b at s st (slot (queue_to s c).slots 0)
    deliver-become st h n t = become-as _ _ st (waiting-some h) t n

  -- the counts
  module _ (k : Command) where
    pub step-over-caller : 16 < c.to_caller.count → step_at b at k ≡ refusing_at b BrokenRecord
    step-over-caller h = rw (lt-leb c.to_caller.count 16 h)

    pub step-over-callee : c.to_caller.count ≤ 16 → 16 < c.to_callee.count → step_at b at k ≡ refusing_at b BrokenRecord
    step-over-callee g h = rw (le-leb c.to_caller.count 16 g, lt-leb c.to_callee.count 16 h)

    pub step-acted : c.to_caller.count ≤ 16 → c.to_callee.count ≤ 16 → step_at b at k ≡ acted_at b at k
    step-acted g h = rw (le-leb c.to_caller.count 16 g, le-leb c.to_callee.count 16 h)

    -- where no record is, and where one is
    pub not_there : length b < at + 614 → refusing_at b NoSuchCall ≡ command_at b at k
    not_there h = rw (lt-leb (at + 614) (length b) h)

    pub there : at + 614 ≤ length b → step_at b at k ≡ command_at b at k
    there h = rw (le-leb (at + 614) (length b) h)

-- ---- what a function of the code gives

-- where the step is s: its answer, and its bytes
abbrev pub Gives : Stepped → Answer → List ℕ → Type 0
Gives s z w = (z ≡ s.answer) × (w ≡ s.bytes)

pub given-as : {s t : Stepped} {z : Answer} {w : List ℕ} → t ≡ s → Gives s z w → Gives t z w
given-as e g = rw e g

module _ (b : List ℕ) (at : ℕ) where
  pub refusing-as : {t : Stepped} {r : Refusal} → t ≡ refusing_at b r → Gives t (Err r) b
  refusing-as e = rw e (refl, refl)

  module _ (s : Side) where
    pub one_more : {v : Result State Refusal} {st : State} {w w₁ : List ℕ} (x : Signal) {q : ℕ} {z : List ℕ} → w ≡ settled_at b at s st → w₁ ≡ passed_at w at s true x → v ≡ Ok st → q ≡ queue_place (other s) → get_or b (at + q) 0 ≤ 15
        → z ≡ pushed_at w₁ (at + q) x → Gives (one_sent_at b at s v x) (Ok None) z
    one_more x ew ew₁ ev eq h ez = rw (ev, le-leb (get_or b (at + queue_place (other s)) 0 + 1) 16 (omega (arith, rw eq at h))) (refl, ez ∙ rw (ew₁, ew, eq) refl)

    pub one-refused : {v : Result State Refusal} (x : Signal) {r : Refusal} → v ≡ Err r → Gives (one_sent_at b at s v x) (Err r) b
    one-refused x ev = rw ev (refl, refl)

    pub one-over : {v : Result State Refusal} (x : Signal) {st : State} {q : ℕ} → v ≡ Ok st → q ≡ queue_place (other s) → 15 < get_or b (at + q) 0 → Gives (one_sent_at b at s v x) (Err BrokenRecord) b
    one-over x ev eq h = rw (ev, lt-leb (get_or b (at + queue_place (other s)) 0 + 1) 16 (omega (arith, rw eq at h))) (refl, refl)

    -- a signal handed over
    module _ (st : State) {x : Signal} {w : List ℕ} (ew : w ≡ given_at b at s st x) where
      pub handed-upack : x ≡ Upack → Gives (replied_at b at s st x) (Ok (Some x)) w
      handed-upack ex = rw ex (refl, rw ex at ew)

      pub handed-ordinary : {t : ℕ} {y : Status} → x ≡ Ordinary t y → Gives (replied_at b at s st x) (Ok (Some x)) w
      handed-ordinary ex = rw ex (refl, rw ex at ew)

      pub handed-downack : x ≡ Downack → Gives (replied_at b at s st x) (Ok (Some x)) w
      handed-downack ex = rw ex (refl, rw ex at ew)

      pub handed-teardown : {q : ℕ} {z : List ℕ} → x ≡ Teardown → q ≡ queue_place (other s) → get_or b (at + q) 0 ≤ 15 → z ≡ pushed_at w (at + q) Downack → Gives (replied_at b at s st x) (Ok (Some x)) z
      handed-teardown ex eq h ez = rw (ex, le-leb (get_or b (at + queue_place (other s)) 0 + 1) 16 (omega (arith, rw eq at h))) (refl, ez ∙ rw (ew, eq, ex) refl)

    pub no-reply : (st : State) {x : Signal} {q : ℕ} → x ≡ Teardown → q ≡ queue_place (other s) → 15 < get_or b (at + q) 0 → Gives (replied_at b at s st x) (Err BrokenRecord) b
    no-reply st ex eq h = rw (ex, lt-leb (get_or b (at + queue_place (other s)) 0 + 1) 16 (omega (arith, rw eq at h))) (refl, refl)

  -- three signals of the callee
  pub three-refused : {v : Result State Refusal} (x : Status) {r : Refusal} → v ≡ Err r → Gives (three_sent_at b at v x) (Err r) b
  three-refused x ev = rw ev (refl, refl)

  pub three-over : {v : Result State Refusal} (x : Status) {st : State} → v ≡ Ok st → 13 < get_or b (at + 4) 0 → Gives (three_sent_at b at v x) (Err BrokenRecord) b
  three-over x ev h = rw (ev, lt-leb (get_or b (at + 4) 0 + 3) 16 (omega (arith, h))) (refl, refl)

  pub three-more : {v : Result State Refusal} (x : Status) (st : State) {w y₁ y₂ y₃ : List ℕ} → v ≡ Ok st → get_or b (at + 4) 0 ≤ 13 → w ≡ settled_at b at Callee st
      → y₁ ≡ pushed_at w (at + 4) Upack → y₂ ≡ pushed_at y₁ (at + 4) (Ordinary 0 x) → y₃ ≡ pushed_at y₂ (at + 4) Teardown → Gives (three_sent_at b at v x) (Ok None) y₃
  three-more x st ev h ew e₁ e₂ e₃ = rw (ev, le-leb (get_or b (at + 4) 0 + 3) 16 (omega (arith, h))) (refl, rw (e₃, e₂, e₁, ew) refl)
