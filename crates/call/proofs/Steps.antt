-- A step's cases, as the parts of the code leave them. Assumes nothing.
use Rattle.std.proofs.Common.{◌≡◌, ℕ, zero, suc, ◌+◌, ◌<◌, ◌≤◌, Bool, true, false, cond, leb, List, ◌∷◌, length, drop, refl, ◌∙◌, sym, arith, le-leb, nat_eq, Result, Ok, Err}
use borrow.Author.Tests.{lt-leb, ne_eqb}
use Rattle.refusal.specs.declared.Refusal.{Refusal}
use Rattle.refusal.specs.declared.Refusal.TheVariants.{NothingWaiting, BrokenRecord}
use Rattle.ends.specs.declared.State.{State}
use Rattle.ends.specs.declared.State.TheVariants.{Linked, Unlinking}
use Rattle.ends.specs.declared.Status.{Status}
use Rattle.ends.specs.declared.Status.TheVariants.{Unknown, Unavail}
use Rattle.ends.specs.declared.Signal.{Signal}
use Rattle.ends.specs.declared.Signal.TheVariants.{Upack, Ordinary, Teardown, Downack}
use Rattle.call.specs.declared.Call.{Call}
use Rattle.ends.specs.declared.Side.{Side}
use Rattle.ends.specs.declared.Side.TheVariants.{Caller, Callee}
use Rattle.call.specs.declared.Command.{Command}
use Rattle.call.specs.declared.Command.TheVariants.{Accept, Busy, Unobtainable, Send, Teardown as Hang-up, Deliver}
use Rattle.call.specs.Protocol.{other, end_of, state_of, within, passed, queue_to, slot, signals, waiting, push, answers, speaks, tears, takes, reply, fit, refusing, outcome, acted, step}
use Rattle.call.specs.Parts.{accepts, three_by, three_sent, given, sends, tears_down, replied, handed_over, delivers, sent, handed, ◌>>=◌, one_sent}

-- COMMANDS THAT SEND: the room decides last
by_room : (c : Call) (k : Command) (room : Bool) (d : Call) (st : State) → sent c (Ok d) ≡ outcome c k (Ok st)
    → sent c (cond room (Ok d) (Err BrokenRecord)) ≡ outcome c k (cond room (Ok st) (Err BrokenRecord))
by_room c k true d st e = e
by_room c k false d st e = refl

module _ (c : Call) where
  accept-by : (v : Result State Refusal) → sent c (v >>= λ st. one_sent c Callee st Upack) ≡ outcome c Accept (fit v (c.to_caller.count + 1))
  accept-by (Err r) = refl
  accept-by (Ok st) = by_room c Accept (leb (c.to_caller.count + 1) 16) _ st refl

  send_by : (s : Side) (t : ℕ) (x : Status) (v : Result State Refusal)
      → sent c (v >>= λ st. one_sent c s st (Ordinary t x)) ≡ outcome c (Send s t x) (fit v ((queue_to (other s) c).count + 1))
  send_by s t x (Err r) = refl
  send_by s t x (Ok st) = by_room c (Send s t x) (leb ((queue_to (other s) c).count + 1) 16) _ st refl

  teardown-by : (s : Side) (v : Result State Refusal)
      → sent c (v >>= λ st. one_sent c s st Teardown) ≡ outcome c (Hang-up s) (fit v ((queue_to (other s) c).count + 1))
  teardown-by s (Err r) = refl
  teardown-by s (Ok st) = by_room c (Hang-up s) (leb ((queue_to (other s) c).count + 1) 16) _ st refl

  pub accepts-is : sent c (accepts c) ≡ acted c Accept
  accepts-is = accept-by (answers c.callee.state Linked)

  pub sends-is : (s : Side) (t : ℕ) (x : Status) → sent c (sends c s t x) ≡ acted c (Send s t x)
  sends-is s t x = send_by s t x (speaks s (end_of s c) t x (queue_to (other s) c).count)

  pub tears-is : (s : Side) → sent c (tears_down c s) ≡ acted c (Hang-up s)
  tears-is s = teardown-by s (tears (state_of s c))

  busy-is : sent c (three_sent c Unavail) ≡ acted c Busy
  busy-is = go (answers c.callee.state Unlinking)
    where
      go : (v : Result State Refusal) → sent c (v >>= three_by c Unavail) ≡ outcome c Busy (fit v (c.to_caller.count + 3))
      go (Err r) = refl
      go (Ok st) = by_room c Busy (leb (c.to_caller.count + 3) 16) _ st refl

  unobtainable-is : sent c (three_sent c Unknown) ≡ acted c Unobtainable
  unobtainable-is = go (answers c.callee.state Unlinking)
    where
      go : (v : Result State Refusal) → sent c (v >>= three_by c Unknown) ≡ outcome c Unobtainable (fit v (c.to_caller.count + 3))
      go (Err r) = refl
      go (Ok st) = by_room c Unobtainable (leb (c.to_caller.count + 3) 16) _ st refl

-- A DELIVERY
module _ (c : Call) (s : Side) where
  by-taken : (v : Result State Refusal) (x : Signal) (w : List Signal) → waiting s c ≡ x ∷ w → (queue_to (other s) c).count ≤ 16
      → handed c (v >>= λ st. (replied c s (within st (passed s false x (end_of s c).channels)) x >>= λ d. Ok (x, d)))
      ≡ outcome c (Deliver s) (fit v ((queue_to (other s) c).count + length (reply (x ∷ w))))
  by-taken (Err r) x w h n = refl
  by-taken (Ok st) Upack w h n = rw (le-leb ((queue_to (other s) c).count + 0) 16 (omega arith)) (rw h)
  by-taken (Ok st) (Ordinary i x) w h n = rw (le-leb ((queue_to (other s) c).count + 0) 16 (omega arith)) (rw h)
  by-taken (Ok st) Downack w h n = rw (le-leb ((queue_to (other s) c).count + 0) 16 (omega arith)) (rw h)
  by-taken (Ok st) Teardown w h n = go (leb ((queue_to (other s) c).count + 1) 16)
    where
      down : State → Call
      down st = given c s (within st (end_of s c).channels) (push (queue_to (other s) c) Downack)

      go : (room : Bool)
          → handed c (cond room (Ok (down st)) (Err BrokenRecord) >>= λ d. Ok (Teardown, d)) ≡ outcome c (Deliver s) (cond room (Ok st) (Err BrokenRecord))
      go true = rw h
      go false = refl

  pub delivers-is : (queue_to (other s) c).count ≤ 16 → handed c (delivers c s) ≡ acted c (Deliver s)
  delivers-is n = go (queue_to s c).count refl
    where
      go : (m : ℕ) → (queue_to s c).count ≡ m
          → handed c (cond (nat_eq m 0) (Err NothingWaiting) (handed_over c s (slot (queue_to s c).slots 0))) ≡ acted c (Deliver s)
      go zero e = rw e
      go (suc m) e =
          let h : waiting s c ≡ slot (queue_to s c).slots 0 ∷ signals m (drop 1 (queue_to s c).slots) = rw e in
          rw (ne_eqb (suc m) 0 (λ z. omega arith)) (by-taken (takes s (end_of s c) (slot (queue_to s c).slots 0)) _ _ h n ∙ rw h)

-- THE COUNTS
module _ (c : Call) (k : Command) where
  pub step-over-caller : 16 < c.to_caller.count → refusing c BrokenRecord ≡ step c k
  step-over-caller h = rw (lt-leb c.to_caller.count 16 h)

  pub step-over-callee : c.to_caller.count ≤ 16 → 16 < c.to_callee.count → refusing c BrokenRecord ≡ step c k
  step-over-callee g h = rw (le-leb c.to_caller.count 16 g, lt-leb c.to_callee.count 16 h)

  step-acted : c.to_caller.count ≤ 16 → c.to_callee.count ≤ 16 → step c k ≡ acted c k
  step-acted g h = rw (le-leb c.to_caller.count 16 g, le-leb c.to_callee.count 16 h)

pub few : (c : Call) (s : Side) → c.to_caller.count ≤ 16 → c.to_callee.count ≤ 16 → (queue_to s c).count ≤ 16
few c Caller g h = g
few c Callee g h = h

module _ (c : Call) (g : c.to_caller.count ≤ 16) (h : c.to_callee.count ≤ 16) where
  pub accept-step : sent c (accepts c) ≡ step c Accept
  accept-step = accepts-is c ∙ sym (step-acted c Accept g h)

  pub busy-step : sent c (three_sent c Unavail) ≡ step c Busy
  busy-step = busy-is c ∙ sym (step-acted c Busy g h)

  pub unobtainable-step : sent c (three_sent c Unknown) ≡ step c Unobtainable
  unobtainable-step = unobtainable-is c ∙ sym (step-acted c Unobtainable g h)

  pub send-step : (s : Side) (t : ℕ) (x : Status) → sent c (sends c s t x) ≡ step c (Send s t x)
  send-step s t x = sends-is c s t x ∙ sym (step-acted c (Send s t x) g h)

  pub teardown-step : (s : Side) → sent c (tears_down c s) ≡ step c (Hang-up s)
  teardown-step s = tears-is c s ∙ sym (step-acted c (Hang-up s) g h)

  pub deliver-step : (s : Side) → handed c (delivers c s) ≡ step c (Deliver s)
  deliver-step s = delivers-is c s (few c (other s) g h) ∙ sym (step-acted c (Deliver s) g h)

-- what a step's goals cite
pub ruleset step_cases = (step-over-caller, step-over-callee, accept-step, busy-step, unobtainable-step, send-step, teardown-step, deliver-step)
