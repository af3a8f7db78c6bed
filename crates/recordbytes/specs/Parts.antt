-- What the parts of the code leave of the bytes, in the words of Steps. Only contracts of private functions go by this. Assumes nothing.
use Rattle.std.specs.Prelude.{ℕ, ◌+◌, ◌*◌, Bool, true, false, not, cond, List, [], ◌∷◌, eqb, leb, get_or, set, length, ◌≡◌, ◌≤◌, ◌<◌}
use Rattle.std.proofs.lemmas.List.Edits.{sets}
use Rattle.refusal.specs.declared.Refusal.TheVariants.{BrokenRecord}
use Rattle.ends.specs.declared.State.{State}
use Rattle.ends.specs.declared.Status.{Status}
use Rattle.ends.specs.declared.Signal.{Signal}
use Rattle.ends.specs.declared.Signal.TheVariants.{Upack, Ordinary, Teardown, Downack}
use Rattle.std.specs.Prelude.{Result, Ok, Err}
use Rattle.refusal.specs.declared.Refusal.{Refusal}
use Rattle.ends.specs.declared.State.{State}
use Rattle.std.specs.Prelude.{Ok, Err}
use Rattle.ends.specs.declared.Side.{Side}
use Rattle.ends.specs.declared.Side.TheVariants.{Caller, Callee}
use Rattle.ends.specs.Ends.{no_channel_signal, next_with}
use Rattle.signalbytes.specs.Numbers.{status_said}
use Rattle.call.specs.declared.Command.{Command}
use Rattle.std.specs.Prelude.{Some, None, Ok, Err}
use Rattle.call.specs.Protocol.{other, queue_to, slot, judged}
use Rattle.recordbytes.specs.Numbers.{commanded_said, in_word}
use Rattle.recordbytes.specs.declared.Commanded.{Commanded}
use Rattle.recordbytes.specs.Records.{queue_place, call_at}
use Rattle.recordbytes.specs.Steps.{Stepped, refusing_at, settled_at, passed_at, pushed_at, pushes_at, popped_at, outcome_at}

-- a signal handed over, by its numbers
abbrev pub handed_over : ℕ → ℕ → ℕ → Commanded
handed_over n tunnel code = record { number = 0; delivered = 1; signal = n; tunnel = tunnel; code = code }

-- the next state of the channel in a tunnel, by a signal's number; 0 in tunnel 0, which has none
abbrev pub next_in : Side → Bool → ℕ → ℕ → ℕ → ℕ
next_in s sends tunnel n channel = cond (eqb tunnel 0) 0 (next_with s sends tunnel (status_said n 0) channel)

-- is the signal fit for its channel, by the channel's next state?
abbrev pub fits_in : ℕ → ℕ → ℕ → Bool
fits_in tunnel n next = cond (eqb tunnel 0) (no_channel_signal (status_said n 0)) (not (eqb next 9))

-- the bytes of a signal go into the queue that begins at q, at its count
unfoldable pub put_at : List ℕ → ℕ → List ℕ → List ℕ
put_at b q x = set (sets b (q + 1 + 3 * get_or b q 0) x) q (get_or b q 0 + 1)

-- the step of a record whose counts are at most 16
abbrev pub acted_at : List ℕ → ℕ → Command → Stepped
acted_at b at k = outcome_at b at k (judged (call_at b at) k)

-- a word and the bytes that a step answers and leaves
abbrev pub Says : Stepped → ℕ → List ℕ → Type 0
Says s z w = (in_word z ≡ commanded_said s.answer) × (w ≡ s.bytes)

-- the record is there, and the signal x is at the head of the queue towards a side's end, with no more than 16 the other way
abbrev pub Due : List ℕ → ℕ → Side → Signal → Type 0
Due b at s x =
    (at + 614 ≤ length b) × (0 < (queue_to s (call_at b at)).count) × ((queue_to (other s) (call_at b at)).count ≤ 16) × (slot (queue_to s (call_at b at)).slots 0 ≡ x)

-- a side's end goes on by a verdict and sends one signal, where there is room for it
abbrev pub one_sent_at : List ℕ → ℕ → Side → Result State Refusal → Signal → Stepped
one_sent_at b at s (Err r) x = refusing_at b r
one_sent_at b at s (Ok st) x =
    cond (leb (get_or b (at + queue_place (other s)) 0 + 1) 16)
    (record { answer = Ok None; bytes = pushed_at (passed_at (settled_at b at s st) at s true x) (at + queue_place (other s)) x }) (refusing_at b BrokenRecord)

-- the callee goes on by a verdict and sends upack, a status and teardown, where there is room for the three
abbrev pub three_sent_at : List ℕ → ℕ → Result State Refusal → Status → Stepped
three_sent_at b at (Err r) x = refusing_at b r
three_sent_at b at (Ok st) x =
    cond (leb (get_or b (at + queue_place Caller) 0 + 3) 16)
    (record { answer = Ok None; bytes = pushes_at (settled_at b at Callee st) (at + queue_place Caller) (Upack ∷ Ordinary 0 x ∷ Teardown ∷ []) })
    (refusing_at b BrokenRecord)

-- a side's end goes on, a signal passes its channel, and the head of the queue towards it goes out
abbrev pub given_at : List ℕ → ℕ → Side → State → Signal → List ℕ
given_at b at s st x = popped_at (passed_at (settled_at b at s st) at s false x) (at + queue_place s)

-- a signal handed over, and a teardown answered by a downack, where there is room for it
abbrev pub replied_at : List ℕ → ℕ → Side → State → Signal → Stepped
replied_at b at s st Upack = record { answer = Ok (Some Upack); bytes = given_at b at s st Upack }
replied_at b at s st (Ordinary tunnel x) = record { answer = Ok (Some (Ordinary tunnel x)); bytes = given_at b at s st (Ordinary tunnel x) }
replied_at b at s st Downack = record { answer = Ok (Some Downack); bytes = given_at b at s st Downack }
replied_at b at s st Teardown =
    cond (leb (get_or b (at + queue_place (other s)) 0 + 1) 16)
    (record { answer = Ok (Some Teardown); bytes = pushed_at (given_at b at s st Teardown) (at + queue_place (other s)) Downack }) (refusing_at b BrokenRecord)
