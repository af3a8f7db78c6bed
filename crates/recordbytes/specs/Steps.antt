-- A COMMAND ON A RECORD IN BYTES: the answer, and what is left of the bytes. It is decided by the record that is read from them, as every command is; what is accepted changes the acting end's state, its channel of the signal's tunnel, the queue from it
-- and, in a delivery, the queue towards it, and no other byte. (A state is written as its own number, and with the places that wait the places behind them move too, whatever they hold.) Assumes nothing.
use Rattle.std.specs.Prelude.{ℕ, ◌+◌, ◌*◌, ◌-◌, ◌≤◌, ◌<◌, ◌≡◌, Bool, true, false, cond, List, [], ◌∷◌, ◌++◌, eqb, leb, length, get_or, set, take, drop}
use Rattle.std.proofs.lemmas.List.Edits.{sets}
use Rattle.refusal.specs.declared.Refusal.{Refusal}
use Rattle.refusal.specs.declared.Refusal.TheVariants.{NoSuchCall}
use Rattle.ends.specs.declared.State.{State}
use Rattle.ends.specs.declared.Status.{Status}
use Rattle.ends.specs.declared.Signal.{Signal}
use Rattle.ends.specs.declared.Signal.TheVariants.{Upack, Ordinary, Teardown, Downack}
use Rattle.std.specs.Prelude.{Result, Ok, Err}
use Rattle.refusal.specs.declared.Refusal.{Refusal}
use Rattle.ends.specs.declared.State.{State}
use Rattle.std.specs.Prelude.{Ok, Err}
use Rattle.ends.specs.Ends.{next_with}
use Rattle.signalbytes.specs.Numbers.{state_number, signal_number, signal_tunnel, signal_code}
use Rattle.ends.specs.declared.Side.{Side}
use Rattle.call.specs.declared.Command.{Command}
use Rattle.call.specs.declared.Command.TheVariants.{Accept, Busy, Unobtainable, Send, Teardown as Hang-up, Deliver}
use Rattle.call.specs.Protocol.{Answer}
use Rattle.std.specs.Prelude.{Ok, Err}
use Rattle.call.specs.Protocol.{actor, other, waiting, sends, hands, verdict, step}
use Rattle.recordbytes.specs.Records.{state_place, queue_place, channel_place, call_at}

pub record Stepped : Type 0 where
  pub answer : Answer
  pub bytes : List ℕ

-- a refusal leaves every byte
abbrev pub refusing_at : List ℕ → Refusal → Stepped
refusing_at b r = record { answer = Err r; bytes = b }

-- THE FOUR CHANGES
-- a side's end goes on: the number of its state
abbrev pub settled_at : List ℕ → ℕ → Side → State → List ℕ
settled_at b at s st = set b (at + state_place s) (state_number st)

-- a signal that is sent, or taken, passes the channel of its tunnel: the channel's next state
abbrev pub touched_at : List ℕ → ℕ → Side → Bool → ℕ → Status → List ℕ
touched_at b at s sends tunnel x = set b (at + channel_place s + tunnel) (next_with s sends tunnel x (get_or b (at + channel_place s + tunnel) 0))

abbrev pub passed_at : List ℕ → ℕ → Side → Bool → Signal → List ℕ
passed_at b at s sends Upack = b
passed_at b at s sends (Ordinary tunnel x) = cond (eqb tunnel 0) b (touched_at b at s sends tunnel x)
passed_at b at s sends Teardown = b
passed_at b at s sends Downack = b

abbrev pub channels_at : Command → List Signal → List ℕ → ℕ → List ℕ
channels_at Accept w b at = b
channels_at Busy w b at = b
channels_at Unobtainable w b at = b
channels_at (Send s tunnel x) w b at = passed_at b at s true (Ordinary tunnel x)
channels_at (Hang-up s) w b at = b
channels_at (Deliver s) [] b at = b
channels_at (Deliver s) (x ∷ w) b at = passed_at b at s false x

-- a signal goes into the queue that begins at q, at its count: kind, tunnel and code
abbrev pub signal_bytes : Signal → List ℕ
signal_bytes x = signal_number x ∷ signal_tunnel x ∷ signal_code x ∷ []

unfoldable pub pushed_at : List ℕ → ℕ → Signal → List ℕ
pushed_at b q x = set (sets b (q + 1 + 3 * get_or b q 0) (signal_bytes x)) q (get_or b q 0 + 1)

abbrev pub pushes_at : List ℕ → ℕ → List Signal → List ℕ
pushes_at b q [] = b
pushes_at b q (x ∷ xs) = pushes_at (pushed_at b q x) q xs

-- the head goes out of the queue that begins at q: the 15 later places move one place down, and the last place is 0
unfoldable pub popped_at : List ℕ → ℕ → List ℕ
popped_at b q = set (sets b (q + 1) (take 45 (drop (q + 4) b) ++ (0 ∷ 0 ∷ 0 ∷ []))) q (get_or b q 0 - 1)

abbrev pub pops_at : Command → List ℕ → ℕ → List ℕ
pops_at Accept b q = b
pops_at Busy b q = b
pops_at Unobtainable b q = b
pops_at (Send e tunnel x) b q = b
pops_at (Hang-up e) b q = b
pops_at (Deliver e) b q = popped_at b q

-- THE STEP, by the verdict: as `outcome` says it of the record
abbrev pub outcome_at : List ℕ → ℕ → Command → Result State Refusal → Stepped
outcome_at b at k (Err r) = refusing_at b r
outcome_at b at k (Ok st) =
    record {
      answer = hands k (waiting (actor k) (call_at b at));
      bytes =
          pushes_at (pops_at k (channels_at k (waiting (actor k) (call_at b at)) (settled_at b at (actor k) st) at) (at + queue_place (actor k)))
          (at + queue_place (other (actor k))) (sends k (waiting (actor k) (call_at b at)));
    }

abbrev pub step_at : List ℕ → ℕ → Command → Stepped
step_at b at k = outcome_at b at k (verdict (call_at b at) k)

-- A COMMAND for the record from a place on; 10 where there are no 614 bytes
abbrev pub command_at : List ℕ → ℕ → Command → Stepped
command_at b at k = cond (leb (at + 614) (length b)) (step_at b at k) (refusing_at b NoSuchCall)

-- THE RECORD THAT IS READ FROM THE BYTES AFTERWARDS is the step of the record that was read before, and so is the answer. (Proved in proofs/AsStep.antt.)
abbrev pub AsStep : Type 0
AsStep =
    (b : List ℕ) (at : ℕ) (k : Command) → at + 614 ≤ length b
    → ((step_at b at k).answer ≡ (step (call_at b at) k).answer) × (call_at (step_at b at k).bytes at ≡ (step (call_at b at) k).call)

-- EVERY BYTE OUTSIDE OF THE RECORD IS AS IT WAS, and there are as many.
pub data Outside (at j : ℕ) : Type 0 where
  in_front : j < at → Outside at j
  behind : at + 614 ≤ j → Outside at j

abbrev pub OnlyTheRecord : Type 0
OnlyTheRecord =
    (b : List ℕ) (at : ℕ) (k : Command) → at + 614 ≤ length b
    → (length (step_at b at k).bytes ≡ length b) × ((j : ℕ) → Outside at j → get_or (step_at b at k).bytes j 0 ≡ get_or b j 0)
