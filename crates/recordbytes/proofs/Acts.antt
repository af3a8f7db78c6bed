-- What each part of the code answers and leaves is the step of Steps: a law for each way out. Assumes nothing.
use mathlib.Core.Path.{◌≡◌, refl, sym, ap, ◌∙◌}
use mathlib.Core.Bool.{Bool, true, false, cond}
use mathlib.Core.List.{List, [], ◌∷◌}
use Prim.Native.Nat.{ℕ, ◌+◌, ◌*◌, ◌/◌, ◌%◌, ◌≤◌, ◌<◌}
use native.Mathlib.Omega.{arith}
use lib.Dec.{eqb}
use mathlib.Core.Logic.{◌≢◌}
use lib.ListN.{get_or, set}
use lib.Seq.{set-get_or}
use borrow.Author.Tests.{ne_eqb, lt-ltb, le-ltb}
use Rattle.refusal.specs.declared.Refusal.{Refusal}
use Rattle.refusal.specs.declared.Refusal.TheVariants.{StateForbids, NotOrdinary, TooManyWaiting, NoSuchCall, NothingWaiting, BrokenRecord, TunnelTaken, ChannelForbids}
use Rattle.ends.specs.declared.State.{State}
use Rattle.ends.specs.declared.State.TheVariants.{Idle, Linked, Unlinking}
use Rattle.ends.specs.declared.Status.TheVariants.{Unknown, Unavail}
use Rattle.ends.specs.declared.Signal.{Signal}
use Rattle.ends.specs.declared.Signal.TheVariants.{Upack, Ordinary, Teardown, Downack}
use Rattle.std.specs.Prelude.{Result, Ok, Err}
use Rattle.refusal.specs.declared.Refusal.{Refusal}
use Rattle.ends.specs.declared.State.{State}
use Rattle.std.specs.Prelude.{Ok, Err}
use Rattle.ends.specs.declared.Side.{Side}
use Rattle.ends.specs.declared.Side.TheVariants.{Callee}
use Rattle.ends.specs.Ends.{is_linked, is_ordinary, fits_with, channel_at, answers, tears, forbidden, takes_with}
use Rattle.signalbytes.specs.Numbers.{state_said, state_number, status_said, status_number, status_code, no_signal, signal_said}
use Rattle.call.specs.declared.Call.{Call}
use Rattle.call.specs.declared.Command.{Command}
use Rattle.call.specs.declared.Command.TheVariants.{Accept, Busy, Unobtainable, Send, Teardown as Hang-up, Deliver}
use Rattle.call.specs.Protocol.{Answer}
use Rattle.std.specs.Prelude.{Some, Ok, Err}
use Rattle.call.specs.Protocol.{other, end_of, state_of, queue_to, slot, speaks, takes}
use Rattle.recordbytes.specs.declared.Commanded.{Commanded}
use Rattle.recordbytes.specs.Records.{state_place, queue_place, channel_place, call_at}
use Rattle.recordbytes.specs.Steps.{Stepped, refusing_at, settled_at, signal_bytes, popped_at}
use Rattle.recordbytes.specs.Numbers.{side_of, command_of, commanded_said, in_word}
use Rattle.recordbytes.specs.Parts.{Says, handed_over, next_in, fits_in, put_at, acted_at, one_sent_at, three_sent_at, given_at, replied_at}
use Rattle.recordbytes.proofs.Steps.{state-from, channel-from, count-from, head-from, Gives, given-as, refusing-as, one_more, one-refused, one-over, three-refused, three-over, three-more, accepts, is-busy, is-unobtainable, sends-one, tears-down, deliver-none, deliver-refuse, deliver-become, handed-upack, handed-ordinary, handed-downack, handed-teardown, no-reply}
use Rattle.recordbytes.proofs.Numbers.{waiting-said, linked-said, open_said, own-numbers, put-pushed, fits_said, passed-said, upack-taken, downack-taken, teardown-taken, ordinary-taken, heard-from-linked, number-from-linked, torn_from, torn-from-linked, torn-number, unlinking-from}

-- ---- answers in a word

pub word-handed : (s t c : ℕ) → s < 256 → t < 256 → c < 256 → in_word (256 + 65536 * s + 16777216 * t + 4294967296 * c) ≡ handed_over s t c
word-handed s t c hs ht hc =
    let w = 256 + 65536 * s + 16777216 * t + 4294967296 * c in
    let q1 : w / 256 ≡ 1 + 256 * s + 65536 * t + 16777216 * c = omega arith in
    let q2 : w / 65536 ≡ s + 256 * t + 65536 * c = omega arith in
    let q3 : w / 16777216 ≡ t + 256 * c = omega arith in
    let q4 : w / 4294967296 ≡ c = omega arith in
    let e0 : w % 256 ≡ 0 = omega arith in
    let e1 : w / 256 % 256 ≡ 1 = ap (λ (k : ℕ). k % 256) q1 ∙ omega arith in
    let e2 : w / 65536 % 256 ≡ s = ap (λ (k : ℕ). k % 256) q2 ∙ omega arith in
    let e3 : w / 16777216 % 256 ≡ t = ap (λ (k : ℕ). k % 256) q3 ∙ omega arith in
    let e4 : w / 4294967296 % 256 ≡ c = ap (λ (k : ℕ). k % 256) q4 ∙ omega arith in
    λ i. record { number = e0 i; delivered = e1 i; signal = e2 i; tunnel = e3 i; code = e4 i }

-- an answer and bytes are a step's
pub told : {s : Stepped} {a : Answer} {w : List ℕ} (z : ℕ) → in_word z ≡ commanded_said a → Gives s a w → Says s z w
told z e g = (e ∙ ap commanded_said g.0, g.1)

pub said-as : {s t : Stepped} (z : ℕ) {w : List ℕ} → t ≡ s → Says s z w → Says t z w
said-as z e g = rw e g

-- a refusal by its number
pub refused-by : (b : List ℕ) (at : ℕ) (r : Refusal) {t : Stepped} (z : ℕ) → in_word z ≡ commanded_said (Err r) → t ≡ refusing_at b r → Says t z b
refused-by b at r z e i = told z e (refusing-as b at i)

-- the count of a queue, where it stands
pub own-count-of : (b : List ℕ) (at : ℕ) (s : Side) {q : ℕ} → q ≡ queue_place s → get_or b (at + q) 0 ≡ (queue_to s (call_at b at)).count
own-count-of b at s eq = rw eq (count-from s b at)

-- ---- a waiting callee

module _ (b : List ℕ) (at : ℕ) where
  abbrev c : Call
  c = call_at b at

  not-waiting : (st : State) → get_or b (at + 1) 0 ≢ 2 → answers (state_said (get_or b (at + 1) 0)) st ≡ Err StateForbids
  not-waiting st h = rw (waiting-said (get_or b (at + 1) 0), ne_eqb (get_or b (at + 1) 0) 2 h) refl

  is-waiting : (st : State) → get_or b (at + 1) 0 ≡ 2 → answers (state_said (get_or b (at + 1) 0)) st ≡ Ok st
  is-waiting st h = rw h refl

  accepts-by : acted_at b at Accept ≡ one_sent_at b at Callee (answers (state_said (get_or b (at + 1) 0)) Linked) Upack
  accepts-by = accepts b at ∙ ap (λ (s : State). one_sent_at b at Callee (answers s Linked) Upack) (sym (state-from Callee b at))

  pub accept-not : get_or b (at + 1) 0 ≢ 2 → Says (acted_at b at Accept) 12 b
  accept-not h = told 12 refl (given-as accepts-by (one-refused b at Callee Upack (not-waiting Linked h)))

  pub accept-full : get_or b (at + 1) 0 ≡ 2 → 15 < get_or b (at + 4) 0 → Says (acted_at b at Accept) 17 b
  accept-full h g = told 17 refl (given-as accepts-by (one-over b at Callee Upack (is-waiting Linked h) refl g))

  pub accept-more : {z : List ℕ} → get_or b (at + 1) 0 ≡ 2 → get_or b (at + 4) 0 ≤ 15 → z ≡ put_at (set b (at + 1) 3) (at + 4) (2 ∷ 0 ∷ 0 ∷ []) → Says (acted_at b at Accept) 0 z
  accept-more h g ez = told 0 refl (given-as accepts-by (one_more b at Callee Upack refl refl (is-waiting Linked h) refl g (ez ∙ put-pushed (set b (at + 1) 3) (at + 4) Upack)))

  module _ (n : ℕ) where
    abbrev three : Stepped
    three = three_sent_at b at (answers (state_said (get_or b (at + 1) 0)) Unlinking) (status_said n 0)

    pub three-not : get_or b (at + 1) 0 ≢ 2 → Says three 12 b
    three-not h = told 12 refl (three-refused b at (status_said n 0) (not-waiting Unlinking h))

    pub three-full : get_or b (at + 1) 0 ≡ 2 → 13 < get_or b (at + 4) 0 → Says three 17 b
    three-full h g = told 17 refl (three-over b at (status_said n 0) (is-waiting Unlinking h) g)

    pub three-put : {y₁ y₂ y₃ : List ℕ} → status_number (status_said n 0) ≡ n → status_code (status_said n 0) ≡ 0 → get_or b (at + 1) 0 ≡ 2 → get_or b (at + 4) 0 ≤ 13
        → y₁ ≡ put_at (set b (at + 1) 4) (at + 4) (2 ∷ 0 ∷ 0 ∷ []) → y₂ ≡ put_at y₁ (at + 4) (n ∷ 0 ∷ 0 ∷ []) → y₃ ≡ put_at y₂ (at + 4) (9 ∷ 0 ∷ 0 ∷ []) → Says three 0 y₃
    three-put {y₁} {y₂} en ec h g e₁ e₂ e₃ =
        let bytes : signal_bytes (Ordinary 0 (status_said n 0)) ≡ n ∷ 0 ∷ 0 ∷ [] = rw (en, ec) refl in
        told 0 refl (three-more b at (status_said n 0) Unlinking (is-waiting Unlinking h) g refl (e₁ ∙ put-pushed (set b (at + 1) 4) (at + 4) Upack)
        (e₂ ∙ ap (put_at y₁ (at + 4)) (sym bytes) ∙ put-pushed y₁ (at + 4) (Ordinary 0 (status_said n 0))) (e₃ ∙ put-pushed y₂ (at + 4) Teardown))

  -- ---- a linked end

  module _ (s : Side) {n : ℕ} (en : n ≡ state_place s) where
    by_number : state_of s c ≡ state_said (get_or b (at + n) 0)
    by_number = sym (state-from s b at) ∙ rw en refl

    not-linked : get_or b (at + n) 0 ≢ 3 → is_linked (state_of s c) ≡ false
    not-linked h = rw (by_number, linked-said (get_or b (at + n) 0), ne_eqb (get_or b (at + n) 0) 3 h) refl

    is-linked : get_or b (at + n) 0 ≡ 3 → is_linked (state_of s c) ≡ true
    is-linked h = rw (by_number, h) refl

    pub teardown-not : get_or b (at + n) 0 ≢ 3 → Says (acted_at b at (Hang-up s)) 12 b
    teardown-not h =
        let v : tears (state_of s c) ≡ Err StateForbids = rw (not-linked h) refl in
        told 12 refl (given-as (tears-down b at s) (one-refused b at s Teardown v))

    torn : get_or b (at + n) 0 ≡ 3 → tears (state_of s c) ≡ Ok Unlinking
    torn h = rw (is-linked h) refl

    pub teardown-full : {q : ℕ} → q ≡ queue_place (other s) → get_or b (at + n) 0 ≡ 3 → 15 < get_or b (at + q) 0 → Says (acted_at b at (Hang-up s)) 17 b
    teardown-full eq h g = told 17 refl (given-as (tears-down b at s) (one-over b at s Teardown (torn h) eq g))

    pub teardown-more : {q : ℕ} {z : List ℕ} → q ≡ queue_place (other s) → get_or b (at + n) 0 ≡ 3 → get_or b (at + q) 0 ≤ 15 → z ≡ put_at (set b (at + n) 4) (at + q) (9 ∷ 0 ∷ 0 ∷ []) → Says (acted_at b at (Hang-up s)) 0 z
    teardown-more {q} eq h g ez =
        let settles : set b (at + n) 4 ≡ settled_at b at s Unlinking = ap (λ (k : ℕ). set b (at + k) 4) en in
        told 0 refl (given-as (tears-down b at s) (one_more b at s Teardown settles refl (torn h) eq g (ez ∙ put-pushed (set b (at + n) 4) (at + q) Teardown)))

    -- a send, by its numbers
    module _ (t m code : ℕ) where
      abbrev speaking : Result State Refusal
      speaking = speaks s (end_of s c) t (status_said m code) (queue_to (other s) c).count

      pub send-not : get_or b (at + n) 0 ≢ 3 → Says (acted_at b at (Send s t (status_said m code))) 12 b
      send-not h =
          let v : speaking ≡ Err StateForbids = rw (not-linked h) refl in
          told 12 refl (given-as (sends-one b at s t (status_said m code)) (one-refused b at s (Ordinary t (status_said m code)) v))

      module _ (h : get_or b (at + n) 0 ≡ 3) where
        pub send-no-ordinary : is_ordinary t (status_said m code) ≡ false → Says (acted_at b at (Send s t (status_said m code))) 15 b
        send-no-ordinary o =
            let v : speaking ≡ Err NotOrdinary = rw (is-linked h, o) refl in
            told 15 refl (given-as (sends-one b at s t (status_said m code)) (one-refused b at s (Ordinary t (status_said m code)) v))

        module _ (o : is_ordinary t (status_said m code) ≡ true) {p next : ℕ} (ht : t < 256) (ep : p ≡ channel_place s + t) (ex : next ≡ next_in s true t m (get_or b (at + p) 0)) where
          abbrev channel : ℕ
          channel = channel_at t (end_of s c).channels

          own-channel : get_or b (at + p) 0 ≡ channel
          own-channel = let e : at + (channel_place s + t) ≡ at + channel_place s + t = omega arith in rw (ep, e) (channel-from s b at t ht)

          fit-as : (z : Bool) → fits_in t m next ≡ z → fits_with s true t (status_said m code) channel ≡ z
          fit-as z f = sym (fits_said s true t m code channel (ex ∙ rw own-channel refl)) ∙ f

          pub send-unfit : (k : ℕ) → fits_in t m next ≡ false → k ≡ cond (eqb m 11) 40 41 → Says (acted_at b at (Send s t (status_said m code))) k b
          send-unfit k f ek =
              let v : speaking ≡ Err (forbidden (status_said m code)) = rw (is-linked h, o, fit-as false f) refl in
              let said : in_word k ≡ commanded_said (Err (forbidden (status_said m code))) = rw (ek, open_said m code) (why (eqb m 11)) in
              told k said (given-as (sends-one b at s t (status_said m code)) (one-refused b at s (Ordinary t (status_said m code)) v))
            where
              why : (z : Bool) → in_word (cond z 40 41) ≡ commanded_said (Err (cond z TunnelTaken ChannelForbids))
              why true = refl
              why false = refl

          module _ {q : ℕ} (eq : q ≡ queue_place (other s)) (f : fits_in t m next ≡ true) where
            own-count : get_or b (at + q) 0 ≡ (queue_to (other s) c).count
            own-count = own-count-of b at (other s) eq

            pub send-many : 13 < get_or b (at + q) 0 → Says (acted_at b at (Send s t (status_said m code))) 13 b
            send-many g =
                let few = le-ltb (queue_to (other s) c).count 14 (rw own-count at g) in
                let v : speaking ≡ Err TooManyWaiting = rw (is-linked h, o, fit-as true f, few) refl in
                told 13 refl (given-as (sends-one b at s t (status_said m code)) (one-refused b at s (Ordinary t (status_said m code)) v))

            pub send-more : {w z : List ℕ} → get_or b (at + q) 0 ≤ 13 → w ≡ cond (eqb t 0) b (set b (at + p) next) → z ≡ put_at w (at + q) (m ∷ t ∷ cond (eqb m 7) code (cond (eqb m 8) code 0) ∷ [])
                → Says (acted_at b at (Send s t (status_said m code))) 0 z
            send-more {w} g ew ez =
                let many = lt-ltb (queue_to (other s) c).count 14 (omega (arith, rw own-count at g)) in
                let stays : settled_at b at s Linked ≡ b = ap (set b (at + state_place s)) (sym (rw en at h)) ∙ set-get_or b (at + state_place s) 0 in
                let place : at + p ≡ at + channel_place s + t = rw ep (omega arith) in
                let passes = passed-said b at s true t m code place ex ew in
                let v : speaking ≡ Ok Linked = rw (is-linked h, o, fit-as true f, many) refl in
                told 0 refl
                (given-as (sends-one b at s t (status_said m code))
                (one_more b at s (Ordinary t (status_said m code)) (sym stays) passes v eq (omega (arith, g))
                (ez ∙ ap (put_at w (at + q)) (sym (own-numbers m t code o)) ∙ put-pushed w (at + q) (Ordinary t (status_said m code)))))

  -- ---- a delivery

  module _ (s : Side) where
    abbrev head : Signal
    head = slot (queue_to s c).slots 0

    pub deliver-empty : {q : ℕ} → q ≡ queue_place s → get_or b (at + q) 0 ≡ 0 → Says (acted_at b at (Deliver s)) 14 b
    deliver-empty eq h = refused-by b at NothingWaiting 14 refl (deliver-none b at s (sym (count-from s b at) ∙ rw (sym eq) h))

    pub head-by : {q m : ℕ} {x : Signal} → q ≡ queue_place s → m ≡ get_or b (at + q + 1) 0 → signal_said m (get_or b (at + queue_place s + 2) 0) (get_or b (at + queue_place s + 3) 0) ≡ x → head ≡ x
    head-by eq em ex = sym (head-from s b at) ∙ ap (λ (m : ℕ). signal_said m (get_or b (at + queue_place s + 2) 0) (get_or b (at + queue_place s + 3) 0)) (sym (em ∙ ap (λ (k : ℕ). get_or b (at + k + 1) 0) eq)) ∙ ex

    pub ordinary-said : (m t k : ℕ) → m ≢ 0 → m ≢ 2 → m ≢ 9 → m ≢ 10 → signal_said m t k ≡ Ordinary t (status_said m k)
    ordinary-said m t k h0 h2 h9 h10 = rw (ne_eqb m 0 h0, ne_eqb m 2 h2, ne_eqb m 9 h9, ne_eqb m 10 h10) refl

    module _ (some : 0 < (queue_to s c).count) (few : (queue_to (other s) c).count ≤ 16) {n : ℕ} (en : n ≡ state_place s) where
      abbrev state : ℕ
      state = get_or b (at + n) 0

      number : state_of s c ≡ state_said state
      number = by_number s en

      -- a signal that has no channel
      refused-signal : {x : Signal} → head ≡ x → ((k : ℕ) → takes_with (state_said state) s x k ≡ Err BrokenRecord) → Says (acted_at b at (Deliver s)) 17 b
      refused-signal ex h = refused-by b at BrokenRecord 17 refl (deliver-refuse b at s BrokenRecord some (rw (number, ex) (h _)))

      become-signal : {x : Signal} (st : State) → head ≡ x → ((k : ℕ) → takes_with (state_said state) s x k ≡ Ok st) → acted_at b at (Deliver s) ≡ replied_at b at s st head
      become-signal st ex h = deliver-become b at s st some few (rw (number, ex) (h _))

      pub upack-not : head ≡ Upack → state ≢ 1 → Says (acted_at b at (Deliver s)) 17 b
      upack-not ex h = refused-signal ex (λ k. upack-taken s k state h)

      pub upack-handed : (z : ℕ) {q : ℕ} {w : List ℕ} → q ≡ queue_place s → head ≡ Upack → state ≡ 1 → w ≡ popped_at (set b (at + n) 3) (at + q) → in_word z ≡ commanded_said (Ok (Some Upack)) → Says (acted_at b at (Deliver s)) z w
      upack-handed z eq ex h ew ez =
          told z (ez ∙ ap (λ (x : Signal). commanded_said (Ok (Some x))) (sym ex)) (given-as (become-signal Linked ex (λ k. rw h refl)) (handed-upack b at s Linked (ew ∙ rw (eq, en, ex) refl) ex))

      pub downack-not : head ≡ Downack → state < 4 → Says (acted_at b at (Deliver s)) 17 b
      downack-not ex h = refused-signal ex (λ k. downack-taken s k state h)

      pub downack-handed : (z : ℕ) {q : ℕ} {w : List ℕ} → q ≡ queue_place s → head ≡ Downack → 4 ≤ state → w ≡ popped_at (set b (at + n) 0) (at + q) → in_word z ≡ commanded_said (Ok (Some Downack)) → Says (acted_at b at (Deliver s)) z w
      downack-handed z eq ex h ew ez =
          told z (ez ∙ ap (λ (x : Signal). commanded_said (Ok (Some x))) (sym ex)) (given-as (become-signal Idle ex (λ k. unlinking-from s k state h)) (handed-downack b at s Idle (ew ∙ rw (eq, en, ex) refl) ex))

      module _ (ex : head ≡ Teardown) where
        pub teardown-refused : state < 3 → Says (acted_at b at (Deliver s)) 17 b
        teardown-refused h = refused-signal ex (λ k. teardown-taken s k state h)

        torn-replied : 3 ≤ state → acted_at b at (Deliver s) ≡ replied_at b at s (torn_from state) head
        torn-replied h = become-signal (torn_from state) ex (λ k. torn-from-linked s k state h)

        pub no_room : {f : ℕ} → f ≡ queue_place (other s) → 3 ≤ state → 15 < get_or b (at + f) 0 → Says (acted_at b at (Deliver s)) 17 b
        no_room ef h g = told 17 refl (given-as (torn-replied h) (no-reply b at s (torn_from state) ex ef g))

        pub teardown-handed : (z : ℕ) {q f v : ℕ} {w y : List ℕ} → q ≡ queue_place s → f ≡ queue_place (other s) → 3 ≤ state → get_or b (at + f) 0 ≤ 15 → v ≡ cond (eqb state 3) 0 4
            → w ≡ popped_at (set b (at + n) v) (at + q) → y ≡ put_at w (at + f) (10 ∷ 0 ∷ 0 ∷ []) → in_word z ≡ commanded_said (Ok (Some Teardown)) → Says (acted_at b at (Deliver s)) z y
        teardown-handed z {q} {f} {v} {w} eq ef h g ev ew ey ez =
            let given : w ≡ given_at b at s (torn_from state) head = ew ∙ rw (ev ∙ sym (torn-number state), eq, ex) (ap (λ (k : ℕ). popped_at (set b (at + k) (state_number (torn_from state))) (at + queue_place s)) en) in
            told z (ez ∙ ap (λ (x : Signal). commanded_said (Ok (Some x))) (sym ex)) (given-as (torn-replied h) (handed-teardown b at s (torn_from state) given ex ef g (ey ∙ put-pushed w (at + f) Downack)))

      -- an ordinary signal
      module _ (m t code : ℕ) (ex : head ≡ Ordinary t (status_said m code)) where
        pub ordinary-refused : state < 3 → Says (acted_at b at (Deliver s)) 17 b
        ordinary-refused h = refused-signal ex (λ k. ordinary-taken s t (status_said m code) k state h)

        module _ (h : 3 ≤ state) where
          pub not-ordinary : is_ordinary t (status_said m code) ≡ false → Says (acted_at b at (Deliver s)) 17 b
          not-ordinary o = refused-signal ex (λ k. heard-from-linked s t (status_said m code) k state h ∙ rw o refl)

          module _ (o : is_ordinary t (status_said m code) ≡ true) {p next : ℕ} (ht : t < 256) (ep : p ≡ channel_place s + t) (en' : next ≡ next_in s false t m (get_or b (at + p) 0)) where
            its-channel : get_or b (at + p) 0 ≡ channel_at t (end_of s c).channels
            its-channel = let e : at + (channel_place s + t) ≡ at + channel_place s + t = omega arith in rw (ep, e) (channel-from s b at t ht)

            fits-as : (z : Bool) → fits_in t m next ≡ z → fits_with s false t (status_said m code) (channel_at t (end_of s c).channels) ≡ z
            fits-as z f = sym (fits_said s false t m code (channel_at t (end_of s c).channels) (en' ∙ rw its-channel refl)) ∙ f

            taken_as : (z : Bool) (v : Result State Refusal) → fits_in t m next ≡ z → cond z (Ok (state_said state)) (Err BrokenRecord) ≡ v → takes s (end_of s c) head ≡ v
            taken_as z v f e = rw (number, ex) (heard-from-linked s t (status_said m code) _ state h ∙ rw (o, fits-as z f) e)

            pub unfit : fits_in t m next ≡ false → Says (acted_at b at (Deliver s)) 17 b
            unfit f = refused-by b at BrokenRecord 17 refl (deliver-refuse b at s BrokenRecord some (taken_as false (Err BrokenRecord) f refl))

            pub ordinary-handed : (z : ℕ) {q v : ℕ} {w y r : List ℕ} → q ≡ queue_place s → fits_in t m next ≡ true → v ≡ cond (eqb state 3) 3 4 → w ≡ set b (at + n) v
                → next ≡ next_in s false t m (get_or w (at + p) 0) → y ≡ cond (eqb t 0) w (set w (at + p) next) → r ≡ popped_at y (at + q)
                → in_word z ≡ handed_over m t (cond (eqb m 7) code (cond (eqb m 8) code 0)) → Says (acted_at b at (Deliver s)) z r
            ordinary-handed z {q} {v} {w} {y} eq f ev ew ex' ey er ez =
                let place : at + p ≡ at + channel_place s + t = rw ep (omega arith) in
                let passes = passed-said w at s false t m code place ex' ey in
                let settled : w ≡ settled_at b at s (state_said state) = ew ∙ rw (ev ∙ sym (number-from-linked state h)) (ap (λ (k : ℕ). set b (at + k) (state_number (state_said state))) en) in
                let given : _ ≡ given_at b at s (state_said state) head = er ∙ rw (passes, settled, eq, ex) refl in
                told z (ez ∙ numbers ∙ ap (λ (x : Signal). commanded_said (Ok (Some x))) (sym ex))
                (given-as (deliver-become b at s (state_said state) some few (taken_as true (Ok (state_said state)) f refl)) (handed-ordinary b at s (state_said state) given ex))
              where
                numbers : handed_over m t (cond (eqb m 7) code (cond (eqb m 8) code 0)) ≡ commanded_said (Ok (Some (Ordinary t (status_said m code))))
                numbers = ap (λ (l : List ℕ). handed_over (get_or l 0 0) (get_or l 1 0) (get_or l 2 0)) (sym (own-numbers m t code o))

-- ---- which command it is

abbrev by_kind : ℕ → ℕ → ℕ → ℕ → ℕ → Command
by_kind side signal tunnel code kind = command_of kind side signal tunnel code

pub is-command : (side signal tunnel code : ℕ) {kind k : ℕ} → kind ≡ k → command_of kind side signal tunnel code ≡ command_of k side signal tunnel code
is-command side signal tunnel code e = ap (by_kind side signal tunnel code) e

-- all others send
pub sends-else : (kind side signal tunnel code : ℕ) {n : ℕ} → kind ≢ 0 → kind ≢ 1 → kind ≢ 2 → kind ≢ 4 → kind ≢ 5 → n ≡ cond (eqb kind 3) signal 1
    → command_of kind side signal tunnel code ≡ Send (side_of side) tunnel (status_said n code)
sends-else kind side signal tunnel code h0 h1 h2 h4 h5 en = rw (en, ne_eqb kind 0 h0, ne_eqb kind 1 h1, ne_eqb kind 2 h2, ne_eqb kind 4 h4, ne_eqb kind 5 h5) (by (eqb kind 3))
  where
    by : (z : Bool) → cond z (Send (side_of side) tunnel (status_said signal code)) (Send (side_of side) tunnel no_signal) ≡ Send (side_of side) tunnel (status_said (cond z signal 1) code)
    by true = refl
    by false = refl

pub busy-by : (b : List ℕ) (at : ℕ) → acted_at b at Busy ≡ three_sent_at b at (answers (state_said (get_or b (at + 1) 0)) Unlinking) (status_said 5 0)
busy-by b at = is-busy b at ∙ ap (λ (s : State). three_sent_at b at (answers s Unlinking) Unavail) (sym (state-from Callee b at))

pub unobtainable-by : (b : List ℕ) (at : ℕ) → acted_at b at Unobtainable ≡ three_sent_at b at (answers (state_said (get_or b (at + 1) 0)) Unlinking) (status_said 3 0)
unobtainable-by b at = is-unobtainable b at ∙ ap (λ (s : State). three_sent_at b at (answers s Unlinking) Unknown) (sym (state-from Callee b at))

-- ---- the answer of a command

-- the first five bytes of a word say what it says
off : (k q d : ℕ) {z : ℕ} → z ≡ 256 * (k * q) + d → d % 256 ≡ z % 256
off k q d e = rw e (more (k * q))
  where
    more : (m : ℕ) → d % 256 ≡ (256 * m + d) % 256
    more m = omega arith

five-bytes : (z : ℕ) → in_word (z % 1099511627776) ≡ in_word z
five-bytes z =
    let q = z / 1099511627776 in
    let r = z % 1099511627776 in
    let s0 : z ≡ 256 * (4294967296 * q) + r = omega arith in
    let s1 : z / 256 ≡ 256 * (16777216 * q) + r / 256 = omega arith in
    let s2 : z / 65536 ≡ 256 * (65536 * q) + r / 65536 = omega arith in
    let s3 : z / 16777216 ≡ 256 * (256 * q) + r / 16777216 = omega arith in
    let s4 : z / 4294967296 ≡ 256 * (1 * q) + r / 4294967296 = omega arith in
    λ i. record {
      number = off 4294967296 q r s0 i;
      delivered = off 16777216 q (r / 256) s1 i;
      signal = off 65536 q (r / 65536) s2 i;
      tunnel = off 256 q (r / 16777216) s3 i;
      code = off 1 q (r / 4294967296) s4 i;
    }

-- and decide a word that has no more
same : (a b : ℕ) → a / 256 ≡ b / 256 → a % 256 ≡ b % 256 → a ≡ b
same a b h e = omega (arith, h, e)

next2 : (x : ℕ) → x / 256 / 256 ≡ x / 65536
next2 x = omega arith

next3 : (x : ℕ) → x / 65536 / 256 ≡ x / 16777216
next3 x = omega arith

next4 : (x : ℕ) → x / 16777216 / 256 ≡ x / 4294967296
next4 x = omega arith

last_byte : (x : ℕ) → x < 1099511627776 → x / 4294967296 % 256 ≡ x / 4294967296
last_byte x h = omega (arith, h)

pub one_word : (x y : ℕ) → x < 1099511627776 → y < 1099511627776 → in_word x ≡ in_word y → x ≡ y
one_word x y hx hy e =
    let e4 : x / 4294967296 ≡ y / 4294967296 = sym (last_byte x hx) ∙ ap (λ (r : Commanded). r.code) e ∙ last_byte y hy in
    let e3 = same (x / 16777216) (y / 16777216) (next4 x ∙ e4 ∙ sym (next4 y)) (ap (λ (r : Commanded). r.tunnel) e) in
    let e2 = same (x / 65536) (y / 65536) (next3 x ∙ e3 ∙ sym (next3 y)) (ap (λ (r : Commanded). r.signal) e) in
    let e1 = same (x / 256) (y / 256) (next2 x ∙ e2 ∙ sym (next2 y)) (ap (λ (r : Commanded). r.delivered) e) in
    same x y e1 (ap (λ (r : Commanded). r.number) e)

pub answered : {s t : Stepped} (z : ℕ) {w : List ℕ} → t ≡ s → Says s z w → (in_word (z % 1099511627776) ≡ commanded_said t.answer) × (z % 1099511627776 < 1099511627776) × (w ≡ t.bytes)
answered z e g = (five-bytes z ∙ (said-as z e g).0, omega arith, (said-as z e g).1)

pub answered-no : (b : List ℕ) (at : ℕ) {t : Stepped} → t ≡ refusing_at b NoSuchCall → (in_word 10 ≡ commanded_said t.answer) × (10 < 1099511627776) × (b ≡ t.bytes)
answered-no b at e = rw e (refl, omega arith, refl)

-- what the goals of `three_sent` cite
pub ruleset three_cases = (three-not, three-full)
