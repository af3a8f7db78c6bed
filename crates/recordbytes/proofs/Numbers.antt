-- States, signals and answers by their numbers: what the code decides by numbers is what the ends do with the states and signals that the numbers stand for. Assumes nothing.
use mathlib.Core.Path.{◌≡◌, refl, sym, ◌∙◌}
use mathlib.Core.Bool.{Bool, true, false, not, cond, ◌&&◌}
use mathlib.Core.List.{List, [], ◌∷◌}
use Prim.Native.Nat.{ℕ, zero, suc, ◌+◌, ◌*◌, ◌≤◌, ◌<◌}
use native.Mathlib.Omega.{arith}
use lib.Dec.{eqb, ltb}
use mathlib.Core.Logic.{◌≢◌}
use lib.ListN.{length, get_or, set}
use lib.Seq.{sets, get_or-set_other, get_or-set_same, lt-length-sets}
use borrow.Author.Tests.{eq-eqb, ne_eqb, eqb-true, eqb-false}
use Rattle.refusal.specs.declared.Refusal.TheVariants.{BrokenRecord}
use Rattle.ends.specs.declared.State.{State}
use Rattle.ends.specs.declared.State.TheVariants.{Idle, Requesting, Waiting, Linked, Unlinking}
use Rattle.ends.specs.declared.Status.{Status}
use Rattle.ends.specs.declared.Signal.{Signal}
use Rattle.ends.specs.declared.Signal.TheVariants.{Upack, Ordinary, Teardown, Downack}
use Rattle.std.specs.Prelude.{Ok, Err}
use Rattle.ends.specs.declared.Side.{Side}
use Rattle.ends.specs.declared.Side.TheVariants.{Caller, Callee}
use Rattle.ends.specs.Ends.{is_waiting, is_linked, is_ordinary, is_open, kind_of, no_channel_signal, next_with, fits_with, hears_with, takes_with}
use Rattle.signalbytes.specs.Numbers.{state_said, state_number, status_said, no_signal}
use Rattle.recordbytes.specs.Records.{state_place, queue_place, channel_place}
use Rattle.call.specs.Protocol.{other}
use Rattle.recordbytes.specs.Steps.{passed_at, signal_bytes, pushed_at, popped_at}
use Rattle.recordbytes.specs.Parts.{next_in, fits_in, put_at}
use Rattle.recordbytes.proofs.Places.{popped-before, popped-past}

-- ---- states

pub waiting-said : (n : ℕ) → is_waiting (state_said n) ≡ eqb n 2
waiting-said n = by (eqb n 2) refl
  where
    none : (a b d : Bool) → is_waiting (cond a Idle (cond b Requesting (cond d Linked Unlinking))) ≡ false
    none true b d = refl
    none false true d = refl
    none false false true = refl
    none false false false = refl

    by : (t : Bool) → eqb n 2 ≡ t → is_waiting (state_said n) ≡ eqb n 2
    by true e = rw (eqb-true n 2 e) refl
    by false e = rw e (none (eqb n 0) (eqb n 1) (eqb n 3))

pub linked-said : (n : ℕ) → is_linked (state_said n) ≡ eqb n 3
linked-said n = by (eqb n 3) refl
  where
    none : (a b d : Bool) → is_linked (cond a Idle (cond b Requesting (cond d Waiting Unlinking))) ≡ false
    none true b d = refl
    none false true d = refl
    none false false true = refl
    none false false false = refl

    by : (t : Bool) → eqb n 3 ≡ t → is_linked (state_said n) ≡ eqb n 3
    by true e = rw (eqb-true n 3 e) refl
    by false e = rw e (none (eqb n 0) (eqb n 1) (eqb n 2))

unlinking-said : (n : ℕ) → 4 ≤ n → state_said n ≡ Unlinking
unlinking-said n h = rw (ne_eqb n 0 (λ e. omega (arith, h, e)), ne_eqb n 1 (λ e. omega (arith, h, e)), ne_eqb n 2 (λ e. omega (arith, h, e)), ne_eqb n 3 (λ e. omega (arith, h, e))) refl

-- a state from linked on is linked, or unlinking
from-linked : (P : ℕ → State → Type 0) → P 3 Linked → ((n : ℕ) → eqb n 3 ≡ false → P n Unlinking) → (n : ℕ) → 3 ≤ n → P n (state_said n)
from-linked P p q n h = by (eqb n 3) refl
  where
    by : (t : Bool) → eqb n 3 ≡ t → P n (state_said n)
    by true e = rw (eqb-true n 3 e) p
    by false e =
        let far : n ≢ 3 = λ i. absurd (no (sym e ∙ eq-eqb n 3 i)) in
        rw (unlinking-said n (omega (arith, h, far))) (q n e)
      where
        no : false ≡ true → ⊥
        no i = eqb-false 0 0 (sym i) refl

-- ---- what an end does with a signal handed to it, by the number of its state

pub upack-taken : (s : Side) (k : ℕ) (n : ℕ) → n ≢ 1 → takes_with (state_said n) s Upack k ≡ Err BrokenRecord
upack-taken s k n h = rw (ne_eqb n 1 h) (none (eqb n 0) (eqb n 2) (eqb n 3))
  where
    none : (a b d : Bool) → takes_with (cond a Idle (cond b Waiting (cond d Linked Unlinking))) s Upack k ≡ Err BrokenRecord
    none true b d = refl
    none false true d = refl
    none false false true = refl
    none false false false = refl

pub downack-taken : (s : Side) (k : ℕ) (n : ℕ) → n < 4 → takes_with (state_said n) s Downack k ≡ Err BrokenRecord
downack-taken s k zero h = refl
downack-taken s k (suc zero) h = refl
downack-taken s k (suc (suc zero)) h = refl
downack-taken s k (suc (suc (suc zero))) h = refl
downack-taken s k (suc (suc (suc (suc n)))) h = absurd (omega (arith, h))

pub teardown-taken : (s : Side) (k : ℕ) (n : ℕ) → n < 3 → takes_with (state_said n) s Teardown k ≡ Err BrokenRecord
teardown-taken s k zero h = refl
teardown-taken s k (suc zero) h = refl
teardown-taken s k (suc (suc zero)) h = refl
teardown-taken s k (suc (suc (suc n))) h = absurd (omega (arith, h))

pub ordinary-taken : (s : Side) (t : ℕ) (x : Status) (k : ℕ) (n : ℕ) → n < 3 → takes_with (state_said n) s (Ordinary t x) k ≡ Err BrokenRecord
ordinary-taken s t x k zero h = refl
ordinary-taken s t x k (suc zero) h = refl
ordinary-taken s t x k (suc (suc zero)) h = refl
ordinary-taken s t x k (suc (suc (suc n))) h = absurd (omega (arith, h))

pub heard-from-linked : (s : Side) (t : ℕ) (x : Status) (k : ℕ) (n : ℕ) → 3 ≤ n → takes_with (state_said n) s (Ordinary t x) k ≡ hears_with (state_said n) s t x k
heard-from-linked s t x k = from-linked (λ n st. takes_with st s (Ordinary t x) k ≡ hears_with st s t x k) refl (λ n e. refl)

pub number-from-linked : (n : ℕ) → 3 ≤ n → state_number (state_said n) ≡ cond (eqb n 3) 3 4
number-from-linked = from-linked (λ n st. state_number st ≡ cond (eqb n 3) 3 4) refl (λ n e. rw e refl)

-- where a teardown leads, and its number
abbrev pub torn_from : ℕ → State
torn_from n = cond (eqb n 3) Idle Unlinking

pub torn-from-linked : (s : Side) (k : ℕ) (n : ℕ) → 3 ≤ n → takes_with (state_said n) s Teardown k ≡ Ok (torn_from n)
torn-from-linked s k = from-linked (λ n st. takes_with st s Teardown k ≡ Ok (torn_from n)) refl (λ n e. rw e refl)

pub torn-number : (n : ℕ) → state_number (torn_from n) ≡ cond (eqb n 3) 0 4
torn-number n = by (eqb n 3)
  where
    by : (z : Bool) → state_number (cond z Idle Unlinking) ≡ cond z 0 4
    by true = refl
    by false = refl

pub unlinking-from : (s : Side) (k : ℕ) (n : ℕ) → 4 ≤ n → takes_with (state_said n) s Downack k ≡ Ok Idle
unlinking-from s k n h = rw (unlinking-said n h) refl

-- ---- signals

-- a number is one of the twelve statuses', or no signal's
each-status : (P : ℕ → Type 0) → P 3 → P 4 → P 5 → P 6 → P 7 → P 8 → P 11 → P 12 → P 13 → P 14 → P 15 → P 16 → (n : ℕ) → (((c : ℕ) → status_said n c ≡ no_signal) → P n) → P n
each-status P p3 p4 p5 p6 p7 p8 p11 p12 p13 p14 p15 p16 n none =
    is 3 p3 (λ e3. is 4 p4 (λ e4. is 5 p5 (λ e5. is 6 p6 (λ e6. is 7 p7 (λ e7. is 8 p8 (λ e8. is 11 p11 (λ e11. is 12 p12 (λ e12. is 13 p13 (λ e13. is 14 p14 (λ e14. is 15 p15 (λ e15. is 16 p16 (λ e16.
    none (λ c. rw (e3, e4, e5, e6, e7, e8, e11, e12, e13, e14, e15, e16) refl)))))))))))))
  where
    is : (k : ℕ) → P k → (eqb n k ≡ false → P n) → P n
    is k p f = by (eqb n k) refl
      where
        by : (t : Bool) → eqb n k ≡ t → P n
        by true e = rw (eqb-true n k e) p
        by false e = f e

-- what it is to a channel does not go by its code
kind-said : (n c : ℕ) → kind_of (status_said n c) ≡ kind_of (status_said n 0)
kind-said n c = each-status (λ m. kind_of (status_said m c) ≡ kind_of (status_said m 0)) refl refl refl refl refl refl refl refl refl refl refl refl n (λ none. rw (none c, none 0) refl)

pub open_said : (n c : ℕ) → is_open (status_said n c) ≡ eqb n 11
open_said n c = by (eqb n 11) refl
  where
    by : (t : Bool) → eqb n 11 ≡ t → is_open (status_said n c) ≡ eqb n 11
    by true e = rw (eqb-true n 11 e) refl
    by false e = closed n e ∙ sym e
      where
        closed : (m : ℕ) → eqb m 11 ≡ false → is_open (status_said m c) ≡ false
        closed m = each-status (λ k. eqb k 11 ≡ false → is_open (status_said k c) ≡ false) (λ i. refl) (λ i. refl) (λ i. refl) (λ i. refl) (λ i. refl) (λ i. refl) (λ i. absurd (eqb-false 11 11 i refl)) (λ i. refl) (λ i. refl) (λ i. refl) (λ i. refl) (λ i. refl) m (λ none i. rw (none c) refl)

-- an ordinary signal has its own numbers; only dtmf and special have a code
pub own-numbers : (n t c : ℕ) → is_ordinary t (status_said n c) ≡ true → signal_bytes (Ordinary t (status_said n c)) ≡ n ∷ t ∷ cond (eqb n 7) c (cond (eqb n 8) c 0) ∷ []
own-numbers n t c = each-status (λ m. is_ordinary t (status_said m c) ≡ true → signal_bytes (Ordinary t (status_said m c)) ≡ m ∷ t ∷ cond (eqb m 7) c (cond (eqb m 8) c 0) ∷ []) (λ i. refl) (λ i. refl) (λ i. refl) (λ i. refl) (λ i. refl) (λ i. refl) (λ i. refl) (λ i. refl) (λ i. refl) (λ i. refl) (λ i. refl) (λ i. refl) n (λ none i. absurd (never (ltb 0 t) (rw (none c) at i)))
  where
    never : (a : Bool) → (a && ltb 255 12) ≡ true → ⊥
    never true i = eqb-false 0 0 (sym i) refl
    never false i = eqb-false 0 0 (sym i) refl

pub put-pushed : (b : List ℕ) (q : ℕ) (x : Signal) → put_at b q (signal_bytes x) ≡ pushed_at b q x
unfolding put_at pushed_at
put-pushed b q x = refl

-- ---- channels

pub fits_said : (s : Side) (sends : Bool) (t n c m : ℕ) {next : ℕ} → next ≡ next_in s sends t n m → fits_in t n next ≡ fits_with s sends t (status_said n c) m
fits_said s sends t n c m e = rw (e, kind-said n c) (by (eqb t 0))
  where
    by : (z : Bool) → cond z (no_channel_signal (status_said n 0)) (not (eqb (cond z 0 (next_with s sends t (status_said n 0) m)) 9))
        ≡ cond z (no_channel_signal (status_said n 0)) (not (eqb (next_with s sends t (status_said n 0) m) 9))
    by true = refl
    by false = refl

-- a channel that went on by its next state
pub passed-said : (b : List ℕ) (at : ℕ) (s : Side) (sends : Bool) (t n c : ℕ) {w : List ℕ} {p next : ℕ} → p ≡ at + channel_place s + t → next ≡ next_in s sends t n (get_or b p 0)
    → w ≡ cond (eqb t 0) b (set b p next) → w ≡ passed_at b at s sends (Ordinary t (status_said n c))
passed-said b at s sends t n c {w} {p} ep en ew = ew ∙ rw (en, ep, kind-said n c) (by (eqb t 0))
  where
    by : (z : Bool)
        → cond z b (set b (at + channel_place s + t) (cond z 0 (next_with s sends t (status_said n 0) (get_or b (at + channel_place s + t) 0))))
        ≡ cond z b (set b (at + channel_place s + t) (next_with s sends t (status_said n 0) (get_or b (at + channel_place s + t) 0)))
    by true = refl
    by false = refl

-- a state is no channel
pub settled-channel : (b : List ℕ) (at : ℕ) (s : Side) (t v : ℕ) {n p : ℕ} {w : List ℕ} → n ≡ state_place s → p ≡ channel_place s + t → w ≡ set b (at + n) v → get_or w (at + p) 0 ≡ get_or b (at + p) 0
settled-channel b at s t v en ep ew = rw (ew, en, ep) (get_or-set_other b (at + state_place s) (at + (channel_place s + t)) v 0 (far s))
  where
    far : (s : Side) → at + (channel_place s + t) ≢ at + state_place s
    far Caller h = omega (arith, h)
    far Callee h = omega (arith, h)

-- nor a count
pub state-no-count : (b : List ℕ) (at : ℕ) (s u : Side) (v : ℕ) {n q : ℕ} → n ≡ state_place s → q ≡ queue_place u → get_or (set b (at + n) v) (at + q) 0 ≡ get_or b (at + q) 0
state-no-count b at s u v en eq = rw (en, eq) (get_or-set_other b (at + state_place s) (at + queue_place u) v 0 (far s u))
  where
    far : (s u : Side) → at + queue_place u ≢ at + state_place s
    far Caller Caller h = omega (arith, h)
    far Caller Callee h = omega (arith, h)
    far Callee Caller h = omega (arith, h)
    far Callee Callee h = omega (arith, h)

-- a channel is no count
pub channel-no-count : (b : List ℕ) (at : ℕ) (s u : Side) (t next : ℕ) {p q : ℕ} {w : List ℕ} → p ≡ channel_place s + t → q ≡ queue_place u → w ≡ cond (eqb t 0) b (set b (at + p) next) → get_or w (at + q) 0 ≡ get_or b (at + q) 0
channel-no-count b at s u t next ep eq ew = rw (ew, ep, eq) (by (eqb t 0))
  where
    far : (s u : Side) → at + queue_place u ≢ at + (channel_place s + t)
    far Caller Caller h = omega (arith, h)
    far Caller Callee h = omega (arith, h)
    far Callee Caller h = omega (arith, h)
    far Callee Callee h = omega (arith, h)

    by : (z : Bool) → get_or (cond z b (set b (at + (channel_place s + t)) next)) (at + queue_place u) 0 ≡ get_or b (at + queue_place u) 0
    by true = refl
    by false = get_or-set_other b (at + (channel_place s + t)) (at + queue_place u) next 0 (far s u)

-- the head of one queue is not in the other
pub pop-no-count : (b : List ℕ) (at : ℕ) (s : Side) {q f : ℕ} {w : List ℕ} → at + 614 ≤ length b → q ≡ queue_place s → f ≡ queue_place (other s) → w ≡ popped_at b (at + q) → get_or w (at + f) 0 ≡ get_or b (at + f) 0
pop-no-count b at s room eq ef ew = rw (ew, eq, ef) (by s)
  where
    by : (s : Side) → get_or (popped_at b (at + queue_place s)) (at + queue_place (other s)) 0 ≡ get_or b (at + queue_place (other s)) 0
    by Caller = popped-past b (at + 4) (omega (arith, room)) (at + 53) (omega arith)
    by Callee = popped-before b (at + 53) (at + 4) (omega arith)

-- a count after one signal more
pub put_count : (b : List ℕ) (q n t c : ℕ) {w : List ℕ} → q < length b → w ≡ put_at b q (n ∷ t ∷ c ∷ []) → get_or w q 0 ≡ get_or b q 0 + 1
unfolding put_at
put_count b q n t c h ew = rw ew (get_or-set_same (sets b (q + 1 + 3 * get_or b q 0) (n ∷ t ∷ c ∷ [])) q (get_or b q 0 + 1) 0 (lt-length-sets b (q + 1 + 3 * get_or b q 0) (n ∷ t ∷ c ∷ []) h))

pub next-still : (s : Side) (t n : ℕ) {next m k : ℕ} → m ≡ k → next ≡ next_in s false t n m → next ≡ next_in s false t n k
next-still s t n e en = rw (sym e) en
