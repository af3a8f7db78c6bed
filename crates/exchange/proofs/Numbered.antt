-- The answers of a step in document 01's numbers (specs/Said.antt). Assumes nothing.
use Prim.Native.Nat.{ℕ, ◌+◌}
use mathlib.Core.Path.{◌≡◌, refl}
use mathlib.Core.Bool.{Bool, true, false, cond, ◌&&◌}
use mathlib.Core.List.{List, [], ◌∷◌}
use mathlib.Core.Logic.{◌⊎◌, inl, inr, ⊎_elim}
use lib.ListN.{length}
use lib.Dec.{ltb, leb}
use Rattle.refusal.specs.declared.Refusal.TheVariants.{TooManyWaiting, NotOrdinary, BrokenRecord}
use Rattle.ends.specs.declared.Side.{Side}
use Rattle.std.specs.Prelude.{Ok, Err}
use Rattle.ends.specs.Ends.{is_open, fits, forbidden}
use Rattle.ends.specs.declared.State.{State}
use Rattle.ends.specs.declared.State.TheVariants.{Idle, Requesting, Waiting, Linked, Unlinking}
use Rattle.ends.specs.declared.Signal.{Signal}
use Rattle.ends.specs.declared.Signal.TheVariants.{Upack, Ordinary, Teardown, Downack}
use Rattle.call.specs.declared.Call.{Call}
use Rattle.call.specs.declared.Command.{Command}
use Rattle.call.specs.declared.Command.TheVariants.{Accept, Busy, Unobtainable, Send, Teardown as Hang-up, Deliver}
use Rattle.ends.specs.declared.Status.{Status}
use Rattle.call.specs.Protocol.{actor, other, end_of, state_of, queue_to, waiting, is_ordinary, is_waiting, is_linked, within, answers, speaks, tears, hears, takes, decide, fit, sends, hands, outcome, step, number_in}
use Rattle.exchange.specs.Said.{can_take, number_decided, or_else, number_stepped}

-- ---- an end that does what it was told: 17 where there is no room for what must be sent
handed : (k : Command) (w : List Signal) → number_in (hands k w) ≡ 0
handed Accept w = refl
handed Busy w = refl
handed Unobtainable w = refl
handed (Send e tunnel x) w = refl
handed (Hang-up e) w = refl
handed (Deliver e) [] = refl
handed (Deliver e) (x ∷ w) = refl

yes_or_no : (b : Bool) → (b ≡ true) ⊎ (b ≡ false)
yes_or_no true = inl refl
yes_or_no false = inr refl

module _ (c : Call) (m : ℕ) where
  does : (k : Command) (next : State) → number_in (outcome c k (fit (Ok next) m)).answer ≡ cond (leb m 16) 0 17
  does k next = ⊎_elim (λ (yes : leb m 16 ≡ true). rw yes (handed k (waiting (actor k) c))) (λ (no : leb m 16 ≡ false). rw no) (yes_or_no (leb m 16))

  -- what each command comes to
  abbrev room : ℕ
  room = cond (leb m 16) 0 17

  answering : (k : Command) (s next : State) → number_in (outcome c k (fit (answers s next) m)).answer ≡ or_else (cond (is_waiting s) 0 12) room
  answering k Idle next = refl
  answering k Requesting next = refl
  answering k Waiting next = does k next
  answering k Linked next = refl
  answering k Unlinking next = refl

  tearing : (k : Command) (s : State) → number_in (outcome c k (fit (tears s) m)).answer ≡ or_else (cond (is_linked s) 0 12) room
  tearing k Idle = refl
  tearing k Requesting = refl
  tearing k Waiting = refl
  tearing k Linked = does k Unlinking
  tearing k Unlinking = refl

  forbids : (k : Command) (x : Status) → number_in (outcome c k (fit (Err (forbidden x)) m)).answer ≡ or_else (cond (is_open x) 40 41) room
  forbids k x = ⊎_elim (λ (o : is_open x ≡ true). rw o) (λ (o : is_open x ≡ false). rw o) (yes_or_no (is_open x))

  speaking : (k : Command) (e : Side) (s : State) (cs : List ℕ) (tunnel : ℕ) (x : Status) (n : ℕ)
      → number_in (outcome c k (fit (speaks e (within s cs) tunnel x n) m)).answer
      ≡ or_else (cond (is_linked s) (cond (is_ordinary tunnel x) (cond (fits e true tunnel x cs) (cond (ltb n 14) 0 13) (cond (is_open x) 40 41)) 15) 12) room
  speaking k e Idle cs tunnel x n = refl
  speaking k e Requesting cs tunnel x n = refl
  speaking k e Waiting cs tunnel x n = refl
  speaking k e Linked cs tunnel x n = go (is_ordinary tunnel x) (fits e true tunnel x cs) (ltb n 14)
    where
      go : (o f l : Bool)
          → number_in (outcome c k (fit (cond o (cond f (cond l (Ok Linked) (Err TooManyWaiting)) (Err (forbidden x))) (Err NotOrdinary)) m)).answer
          ≡ or_else (cond o (cond f (cond l 0 13) (cond (is_open x) 40 41)) 15) room
      go true true true = does k Linked
      go true true false = refl
      go true false l = forbids k x
      go false f l = refl
  speaking k e Unlinking cs tunnel x n = refl

  hearing : (k : Command) (e : Side) (s : State) (cs : List ℕ) (tunnel : ℕ) (x : Status)
      → number_in (outcome c k (fit (hears e (within s cs) tunnel x) m)).answer ≡ or_else (cond (is_ordinary tunnel x && fits e false tunnel x cs) 0 17) room
  hearing k e s cs tunnel x = go (is_ordinary tunnel x) (fits e false tunnel x cs)
    where
      go : (o f : Bool) → number_in (outcome c k (fit (cond o (cond f (Ok s) (Err BrokenRecord)) (Err BrokenRecord)) m)).answer ≡ or_else (cond (o && f) 0 17) room
      go true true = does k s
      go true false = refl
      go false f = refl

  taking : (k : Command) (e : Side) (s : State) (cs : List ℕ) (x : Signal)
      → number_in (outcome c k (fit (takes e (within s cs) x) m)).answer ≡ or_else (cond (can_take s e cs x) 0 17) room
  taking k e Idle cs x = refl
  taking k e Requesting cs Upack = does k Linked
  taking k e Requesting cs (Ordinary tunnel x) = refl
  taking k e Requesting cs Teardown = refl
  taking k e Requesting cs Downack = refl
  taking k e Waiting cs x = refl
  taking k e Linked cs Upack = refl
  taking k e Linked cs (Ordinary tunnel x) = hearing k e Linked cs tunnel x
  taking k e Linked cs Teardown = does k Idle
  taking k e Linked cs Downack = refl
  taking k e Unlinking cs Upack = refl
  taking k e Unlinking cs (Ordinary tunnel x) = hearing k e Unlinking cs tunnel x
  taking k e Unlinking cs Teardown = does k Unlinking
  taking k e Unlinking cs Downack = does k Idle

  decided : (k : Command) (s : State) (cs : List ℕ) (w : List Signal) (n : ℕ)
      → number_in (outcome c k (fit (decide k (within s cs) w n) m)).answer ≡ or_else (number_decided k s cs w n) room
  decided Accept s cs w n = answering Accept s Linked
  decided Busy s cs w n = answering Busy s Unlinking
  decided Unobtainable s cs w n = answering Unobtainable s Unlinking
  decided (Send e tunnel x) s cs w n = speaking (Send e tunnel x) e s cs tunnel x n
  decided (Hang-up e) s cs w n = tearing (Hang-up e) s
  decided (Deliver e) s cs [] n = refl
  decided (Deliver e) s cs (x ∷ w) n = taking (Deliver e) e s cs x

-- ---- the step
pub step-number : (c : Call) (k : Command) → number_in (step c k).answer ≡ number_stepped c k
step-number c k =
    ⊎_elim
    (λ (yes : (leb c.to_caller.count 16 && leb c.to_callee.count 16) ≡ true).
    rw yes (decided c ((queue_to (other (actor k)) c).count + length (sends k (waiting (actor k) c))) k (state_of (actor k) c) (end_of (actor k) c).channels (waiting (actor k) c) (queue_to (other (actor k)) c).count))
    (λ (no : (leb c.to_caller.count 16 && leb c.to_callee.count 16) ≡ false). rw no)
    (yes_or_no (leb c.to_caller.count 16 && leb c.to_callee.count 16))
