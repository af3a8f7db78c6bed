-- CHANNELS IN A CALL: the statements of specs/Media. What an accepted step does to the channels, and which opens it sends, is shown of whatever record; the invariant is needed only for a channel that goes on. Assumes nothing.
use Prim.Native.Nat.{ℕ, zero, suc, ◌+◌, ◌≤◌, ◌<◌}
use mathlib.Core.Path.{◌≡◌, refl, sym, ap, ◌∙◌}
use mathlib.Core.Bool.{Bool, true, false, cond, not, ◌&&◌, ◌||◌}
use mathlib.Core.List.{List, [], ◌∷◌}
use mathlib.Core.Logic.{◌⊎◌, inl, inr, ⊎_elim}
use lib.ListN.{get_or, set, replicate}
use lib.Dec.{T, leb, eqb, ltb, leb→le}
use borrow.Author.Tests.{eqb-true, eqb-false, eq-eqb, ne_eqb, not-true}
use native.Mathlib.Omega.{arith}
use Rattle.refusal.specs.declared.Refusal.{Refusal}
use Rattle.refusal.specs.declared.Refusal.TheVariants.{StateForbids, TooManyWaiting, NotOrdinary, BrokenRecord}
use Rattle.channels.specs.Channels.{opened, oacked, closing2, closed, «open», oack, onack, ready, close, closeack, Arc, program, every, follows}
use Rattle.channels.proofs.Table.{step-holds, step-known, step-used, open-sent}
use Rattle.channels.proofs.Lines.{GoesOn as GoesOnFrom, to-me, from-me, i-may, they-may, both-ended, i-wait, they-wait, nowhere}
use Rattle.ends.specs.declared.State.{State}
use Rattle.ends.specs.declared.State.TheVariants.{Idle, Requesting, Waiting, Linked, Unlinking}
use Rattle.ends.specs.declared.End.{End}
use Rattle.ends.specs.declared.Side.{Side}
use Rattle.ends.specs.declared.Side.TheVariants.{Caller, Callee}
use Rattle.ends.specs.declared.Status.{Status}
use Rattle.ends.specs.declared.Signal.{Signal}
use Rattle.ends.specs.declared.Signal.TheVariants.{Upack, Ordinary, Teardown, Downack}
use Rattle.std.specs.Prelude.{Result, Ok, Err}
use Rattle.refusal.specs.declared.Refusal.{Refusal}
use Rattle.ends.specs.declared.State.{State}
use Rattle.std.specs.Prelude.{Ok, Err}
use Rattle.ends.specs.Ends.{opens, kind_of, no_channel_signal, channel_at, next_channel, fits, forbidden, is_ordinary, is_linked}
use Rattle.tunnels.specs.Tunnels.{under}
use Rattle.tunnels.proofs.Wires.{under-append, own-channel, other-channel, may_send as may-send-in, wires-go-on}
use Rattle.call.specs.declared.Queue.{Queue}
use Rattle.call.specs.declared.Call.{Call}
use Rattle.call.specs.declared.Step.{Step}
use Rattle.call.specs.Protocol.{Answer}
use Rattle.std.specs.Prelude.{None, Ok, Err}
use Rattle.call.specs.declared.Command.{Command}
use Rattle.call.specs.declared.Command.TheVariants.{Accept, Busy, Unobtainable, Send, Teardown as Hang-up, Deliver}
use Rattle.call.specs.Protocol.{actor, other, end_of, queue_to, waiting, within, passed, takes, decide, fit, verdict, channels_by, hands, moved, refusing, outcome, step, placed}
use Rattle.call.specs.History.{handed, sent_with, after, if_by, sent, received, tally, sent_of}
use Rattle.call.specs.Row.{record_at}
use Rattle.teardown.specs.Media.{channel_of, open_in, in_tunnel_0, NoneTwice, NoneTwiceInRow, OpensItsOwn, NoneInTunnel0, AllInStates, GoesOn, comes, may_send, ended, left_over, ChannelsGoOn, TunnelsInOrder, kind_in, AnswersWith, AnswersAnswer}
use Rattle.teardown.proofs.Trace.{tally-append}
use Rattle.teardown.proofs.Theorem.{placed-ran, in_order}

-- WHAT IS ACCEPTED WAS FIT FOR ITS CHANNEL
not-both : true ≡ false → ⊥
not-both e = eqb-false 0 0 e refl

not-become : {A : Type 0} {r : Refusal} {s : State} → Err r ≡ Ok s → A
not-become e = absurd (cc)

fit-become : (v : Result State Refusal) (m : ℕ) {s : State} → fit v m ≡ Ok s → v ≡ Ok s
fit-become (Err r) m e = not-become e
fit-become (Ok a) m {s} e = go (leb m 16) e
  where
    go : (b : Bool) → cond b (Ok a) (Err BrokenRecord) ≡ Ok s → ◌≡◌ {A = Result State Refusal} (Ok a) (Ok s)
    go true e = e
    go false e = not-become e

counts-become : (b : Bool) (v : Result State Refusal) {s : State} → cond b v (Err BrokenRecord) ≡ Ok s → v ≡ Ok s
counts-become true v e = e
counts-become false v e = not-become e

speak-fits : (x : Status) {s : State} (l o f n : Bool)
    → cond l (cond o (cond f (cond n (Ok Linked) (Err TooManyWaiting)) (Err (forbidden x))) (Err NotOrdinary)) (Err StateForbids) ≡ Ok s → f ≡ true
speak-fits x true true true n e = refl
speak-fits x true true false n e = not-become e
speak-fits x true false f n e = not-become e
speak-fits x false o f n e = not-become e

hear-fits : (a : State) {s : State} (o f : Bool) → cond o (cond f (Ok a) (Err BrokenRecord)) (Err BrokenRecord) ≡ Ok s → f ≡ true
hear-fits a true true e = refl
hear-fits a true false e = not-become e
hear-fits a false f e = not-become e

take-fits : (s : Side) (a : State) (cs : List ℕ) (t : ℕ) (x : Status) {b : State} → takes s (within a cs) (Ordinary t x) ≡ Ok b → fits s false t x cs ≡ true
take-fits s Idle cs t x e = not-become e
take-fits s Requesting cs t x e = not-become e
take-fits s Waiting cs t x e = not-become e
take-fits s Linked cs t x e = hear-fits Linked (is_ordinary t x) (fits s false t x cs) e
take-fits s Unlinking cs t x e = hear-fits Unlinking (is_ordinary t x) (fits s false t x cs) e

-- what a command that is accepted found: what is sent, or taken, is fit
abbrev HeadFits : Side → List ℕ → List Signal → Type 0
HeadFits s cs [] = Unit {0}
HeadFits s cs (Upack ∷ w) = Unit {0}
HeadFits s cs (Ordinary t x ∷ w) = fits s false t x cs ≡ true
HeadFits s cs (Teardown ∷ w) = Unit {0}
HeadFits s cs (Downack ∷ w) = Unit {0}

abbrev Fitting : Command → List ℕ → List Signal → Type 0
Fitting Accept cs w = Unit {0}
Fitting Busy cs w = Unit {0}
Fitting Unobtainable cs w = Unit {0}
Fitting (Send s t x) cs w = fits s true t x cs ≡ true
Fitting (Hang-up s) cs w = Unit {0}
Fitting (Deliver s) cs w = HeadFits s cs w

fitting : (k : Command) (e : End) (w : List Signal) (n : ℕ) {s : State} → decide k e w n ≡ Ok s → Fitting k e.channels w
fitting Accept e w n h = tt
fitting Busy e w n h = tt
fitting Unobtainable e w n h = tt
fitting (Send s t x) e w n h = speak-fits x (is_linked e.state) (is_ordinary t x) (fits s true t x e.channels) (ltb n 14) h
fitting (Hang-up s) e w n h = tt
fitting (Deliver s) e [] n h = tt
fitting (Deliver s) e (Upack ∷ w) n h = tt
fitting (Deliver s) e (Ordinary t x ∷ w) n h = take-fits s e.state e.channels t x h
fitting (Deliver s) e (Teardown ∷ w) n h = tt
fitting (Deliver s) e (Downack ∷ w) n h = tt

data Did (c : Call) (k : Command) : Step → Type 0 where
  refused-it : (r : Refusal) → Did c k (refusing c r)
  did-it : (s : State) → Fitting k (end_of (actor k) c).channels (waiting (actor k) c) → Did c k (outcome c k (Ok s))

did : (c : Call) (k : Command) → Did c k (step c k)
did c k = go (verdict c k) refl
  where
    go : (v : Result State Refusal) → verdict c k ≡ v → Did c k (outcome c k v)
    go (Err r) e = refused-it r
    go (Ok s) e =
        did-it s
        (fitting k (end_of (actor k) c) (waiting (actor k) c) (queue_to (other (actor k)) c).count
        (fit-become _ _ (counts-become (leb c.to_caller.count 16 && leb c.to_callee.count 16) _ e)))

-- WHAT A STEP DOES TO CHANNELS: nothing, or one is in another state, which is not `unused`
data Kept (cs : List ℕ) : List ℕ → Type 0 where
  same : Kept cs cs
  one : (t n : ℕ) → 0 < n → n < 9 → Kept cs (set cs t n)

passed-kept : (s : Side) (b : Bool) (t : ℕ) (x : Status) (cs : List ℕ) → fits s b t x cs ≡ true → Kept cs (passed s b (Ordinary t x) cs)
passed-kept s b t x cs f = go (eqb t 0) f
  where
    go : (z : Bool) → cond z (no_channel_signal x) (not (eqb (next_channel s b t x cs) 9)) ≡ true → Kept cs (cond z cs (set cs t (next_channel s b t x cs)))
    go true e = same
    go false e =
        let u = step-used (opens s t) b (channel_at t cs) (kind_of x) (not-true (eqb (next_channel s b t x cs) 9) e) in
        one t (next_channel s b t x cs) u.0 u.1

by-kept : (k : Command) (cs : List ℕ) (w : List Signal) → Fitting k cs w → Kept cs (channels_by k w cs)
by-kept Accept cs w f = same
by-kept Busy cs w f = same
by-kept Unobtainable cs w f = same
by-kept (Send s t x) cs w f = passed-kept s true t x cs f
by-kept (Hang-up s) cs w f = same
by-kept (Deliver s) cs [] f = same
by-kept (Deliver s) cs (Upack ∷ w) f = same
by-kept (Deliver s) cs (Ordinary t x ∷ w) f = passed-kept s false t x cs f
by-kept (Deliver s) cs (Teardown ∷ w) f = same
by-kept (Deliver s) cs (Downack ∷ w) f = same

moved-kept : (a s : Side) (c : Call) (e : End) (i o : Queue) → Kept (end_of a c).channels e.channels → Kept (end_of s c).channels (end_of s (moved a e i o c)).channels
moved-kept Caller Caller c e i o h = h
moved-kept Caller Callee c e i o h = same
moved-kept Callee Caller c e i o h = same
moved-kept Callee Callee c e i o h = h

did-kept : (s : Side) {c : Call} {k : Command} {z : Step} → Did c k z → Kept (end_of s c).channels (end_of s z.call).channels
did-kept s (refused-it r) = same
did-kept s {c} {k} (did-it a f) = moved-kept (actor k) s c _ _ _ (by-kept k (end_of (actor k) c).channels (waiting (actor k) c) f)

-- a number that is used stays so, and a state is followed by a state
set-used : (cs : List ℕ) (t u n : ℕ) → 0 < n → get_or (set cs t n) u 9 ≡ 0 → get_or cs u 9 ≡ 0
set-used [] t u n h e = e
set-used (c ∷ cs) zero zero n h e = absurd (omega arith)
set-used (c ∷ cs) zero (suc u) n h e = e
set-used (c ∷ cs) (suc t) zero n h e = e
set-used (c ∷ cs) (suc t) (suc u) n h e = set-used cs t u n h e

set-state : (cs : List ℕ) (t u n : ℕ) → n < 9 → get_or cs u 9 < 9 → get_or (set cs t n) u 9 < 9
set-state [] t u n h e = e
set-state (c ∷ cs) zero zero n h e = h
set-state (c ∷ cs) zero (suc u) n h e = e
set-state (c ∷ cs) (suc t) zero n h e = e
set-state (c ∷ cs) (suc t) (suc u) n h e = set-state cs t u n h e

kept-used : {cs ds : List ℕ} (u : ℕ) → Kept cs ds → channel_at u ds ≡ 0 → channel_at u cs ≡ 0
kept-used u same e = e
kept-used {cs} u (one t n h g) e = set-used cs t u n h e

kept-state : {cs ds : List ℕ} (u : ℕ) → Kept cs ds → channel_at u cs < 9 → channel_at u ds < 9
kept-state u same e = e
kept-state {cs} u (one t n h g) e = set-state cs t u n g e

-- EVERY CHANNEL IN A STATE
states-after : (ks : List Command) (c : Call) (s : Side) (t : ℕ) → channel_of s t c < 9 → channel_of s t (after c ks) < 9
states-after [] c s t h = h
states-after (k ∷ ks) c s t h = states-after ks (step c k).call s t (kept-state t (did-kept s (did c k)) h)

unused-state : (n t : ℕ) → t < n → get_or (replicate n 0) t 9 < 9
unused-state zero t h = absurd (omega arith)
unused-state (suc n) zero h = omega arith
unused-state (suc n) (suc t) h = unused-state n t (omega arith)

placed-state : (c : Call) (s : Side) (t : ℕ) → t < 256 → channel_of s t (placed c) < 9
placed-state c Caller t h = unused-state 256 t h
placed-state c Callee t h = unused-state 256 t h

pub all_in_states : AllInStates
all_in_states c ks s t h = states-after ks (placed c) s t (placed-state c s t h)

-- WHICH OPENS A STEP SENDS: none in this tunnel; or one, which is the acting end's to open, and its channel was unused and is not so any more
data Opened (t : ℕ) (k : Command) (c : Call) (a : Answer) (z : Call) : Type 0 where
  none : tally (open_in t) (sent_with k a) ≡ 0 → Opened t k c a z
  once : tally (open_in t) (sent_with k a) ≡ 1 → opens (actor k) t ≡ true → channel_of (actor k) t c ≡ 0 → 0 < channel_of (actor k) t z → Opened t k c a z

end_moved : (s : Side) (c : Call) (e : End) (i o : Queue) → end_of s (moved s e i o c) ≡ e
end_moved Caller c e i o = refl
end_moved Callee c e i o = refl

-- an open that is fit
open-fits : (s : Side) (t : ℕ) (x : Status) (cs : List ℕ) → kind_of x ≡ «open» → fits s true t x cs ≡ true
    → (opens s t ≡ true) × (channel_at t cs ≡ 0) × (0 < channel_at t (passed s true (Ordinary t x) cs))
open-fits s t x cs o f = go (eqb t 0) f
  where
    go : (z : Bool) → cond z (no_channel_signal x) (not (eqb (next_channel s true t x cs) 9)) ≡ true
        → (opens s t ≡ true) × (channel_at t cs ≡ 0) × (0 < channel_at t (cond z cs (set cs t (next_channel s true t x cs))))
    go true e = absurd (not-both (sym e ∙ rw o))
    go false e =
        let n = not-true (eqb (next_channel s true t x cs) 9) e in
        let q = open-sent (opens s t) (channel_at t cs) (rw o at n) in
        let u = step-used (opens s t) true (channel_at t cs) (kind_of x) n in
        (q.0, q.1, rw (own-channel cs t (next_channel s true t x cs) (omega (arith, q.1))) u.0)

send-opened : (t : ℕ) (c : Call) (s : Side) (u : ℕ) (x : Status) (a : State) → fits s true u x (end_of s c).channels ≡ true
    → Opened t (Send s u x) c (Ok None) (outcome c (Send s u x) (Ok a)).call
send-opened t c s u x a f = go (eqb (kind_of x) «open») (eqb u t) refl refl
  where
    go : (p q : Bool) → eqb (kind_of x) «open» ≡ p → eqb u t ≡ q → Opened t (Send s u x) c (Ok None) (outcome c (Send s u x) (Ok a)).call
    go true true p q =
        let y = open-fits s u x (end_of s c).channels (eqb-true (kind_of x) «open» p) f in
        rw (← eqb-true u t q)
        (once (rw (p, eq-eqb u u refl)) y.0 y.1 (rw (end_moved s c (within a (passed s true (Ordinary u x) (end_of s c).channels)) _ _) y.2))
    go true false p q = none (rw (p, q))
    go false q p r = none (rw p)

did-opened : (t : ℕ) {c : Call} {k : Command} {z : Step} → Did c k z → Opened t k c z.answer z.call
did-opened t (refused-it r) = none refl
did-opened t {k = Accept} (did-it a f) = none refl
did-opened t {k = Busy} (did-it a f) = none refl
did-opened t {k = Unobtainable} (did-it a f) = none refl
did-opened t {c = c} {k = Send s u x} (did-it a f) = send-opened t c s u x a f
did-opened t {k = Hang-up s} (did-it a f) = none refl
did-opened t {c = c} {k = Deliver s} (did-it a f) = none (delivered (waiting s c))
  where
    delivered : (w : List Signal) → tally (open_in t) (sent_with (Deliver s) (hands (Deliver s) w)) ≡ 0
    delivered [] = refl
    delivered (Upack ∷ w) = refl
    delivered (Ordinary u x ∷ w) = refl
    delivered (Teardown ∷ w) = refl
    delivered (Downack ∷ w) = refl

-- NONE TWICE: the opens that may still be sent in a tunnel
abbrev unsent : Side → ℕ → Call → ℕ
unsent s t c = cond (eqb (channel_of s t c) 0) 1 0

abbrev to-come : ℕ → Call → ℕ
to-come t c = cond (opens Caller t) (unsent Caller t c) (unsent Callee t c)

kept-unsent : (s : Side) (t : ℕ) (c z : Call) → Kept (end_of s c).channels (end_of s z).channels → unsent s t z ≤ unsent s t c
kept-unsent s t c z h = go (eqb (channel_of s t z) 0) refl
  where
    go : (b : Bool) → eqb (channel_of s t z) 0 ≡ b → cond b 1 0 ≤ unsent s t c
    go true e = rw (eq-eqb (channel_of s t c) 0 (kept-used t h (eqb-true (channel_of s t z) 0 e))) (omega arith)
    go false e = omega arith

used-up : (s : Side) (t : ℕ) (c z : Call) → channel_of s t c ≡ 0 → 0 < channel_of s t z → 1 + unsent s t z ≤ unsent s t c
used-up s t c z p q = rw (eq-eqb (channel_of s t c) 0 p, ne_eqb (channel_of s t z) 0 (λ e. omega arith)) (omega arith)

one_less : (t : ℕ) (c : Call) (k : Command) → tally (open_in t) (sent_with k (step c k).answer) + to-come t (step c k).call ≤ to-come t c
one_less t c k = go (did-opened t (did c k))
  where
    z : Call
    z = (step c k).call

    less : (s : Side) → unsent s t z ≤ unsent s t c
    less s = kept-unsent s t c z (did-kept s (did c k))

    both : (b : Bool) → cond b (unsent Caller t z) (unsent Callee t z) ≤ cond b (unsent Caller t c) (unsent Callee t c)
    both true = less Caller
    both false = less Callee

    this-one : (s : Side) → opens s t ≡ true → channel_of s t c ≡ 0 → 0 < channel_of s t z → 1 + to-come t z ≤ to-come t c
    this-one Caller o p q = rw o (used-up Caller t c z p q)
    this-one Callee o p q = rw (not-true (opens Caller t) o) (used-up Callee t c z p q)

    go : Opened t k c (step c k).answer z → tally (open_in t) (sent_with k (step c k).answer) + to-come t z ≤ to-come t c
    go (none e) = omega (arith, both (opens Caller t))
    go (once e o p q) = omega (arith, this-one (actor k) o p q)

if-by-both : (f : Signal → ℕ) (s : Side) (xs : List Signal) → tally f (if_by Caller s xs) + tally f (if_by Callee s xs) ≡ tally f xs
if-by-both f Caller xs = omega arith
if-by-both f Callee xs = omega arith

opens-to-come : (t : ℕ) (ks : List Command) (c : Call) → sent_of (open_in t) c ks ≤ to-come t c
opens-to-come t [] c = omega arith
opens-to-come t (k ∷ ks) c =
    let s : Side = actor k in
    let z : Call = (step c k).call in
    let xs : List Signal = sent_with k (step c k).answer in
    omega (
      arith,
      opens-to-come t ks z,
      one_less t c k,
      if-by-both (open_in t) s xs,
      tally-append (open_in t) (if_by Caller s xs) (sent Caller z ks),
      tally-append (open_in t) (if_by Callee s xs) (sent Callee z ks),
    )

at_most_one : (t : ℕ) (c : Call) → to-come t c ≤ 1
at_most_one t c = go (opens Caller t) (eqb (channel_of Caller t c) 0) (eqb (channel_of Callee t c) 0)
  where
    go : (a b d : Bool) → cond a (cond b 1 0) (cond d 1 0) ≤ 1
    go true true d = omega arith
    go true false d = omega arith
    go false b true = omega arith
    go false b false = omega arith

pub none_twice : NoneTwice
none_twice c ks t = omega (arith, opens-to-come t ks (placed c), at_most_one t (placed c))

pub none_twice_in_row : NoneTwiceInRow
none_twice_in_row row r n acts ks h t = none_twice (record_at row r) ks t

-- OPENS OF ITS OWN PARITY, AND NONE IN TUNNEL 0
if-by : (f : Signal → ℕ) (s a : Side) (xs : List Signal) → (s ≡ a → tally f xs ≡ 0) → tally f (if_by s a xs) ≡ 0
if-by f Caller Caller xs h = h refl
if-by f Caller Callee xs h = refl
if-by f Callee Caller xs h = refl
if-by f Callee Callee xs h = h refl

-- what no step of an end sends, it never sends
never-sent : (f : Signal → ℕ) (s : Side) → ((c : Call) (k : Command) → s ≡ actor k → tally f (sent_with k (step c k).answer) ≡ 0)
    → (ks : List Command) (c : Call) → tally f (sent s c ks) ≡ 0
never-sent f s h [] c = refl
never-sent f s h (k ∷ ks) c =
    let z : Call = (step c k).call in
    let xs : List Signal = sent_with k (step c k).answer in
    omega (arith, tally-append f (if_by s (actor k) xs) (sent s z ks), if-by f s (actor k) xs (h c k), never-sent f s h ks z)

pub opens_its_own : OpensItsOwn
opens_its_own c ks s t n = never-sent (open_in t) s own ks (placed c)
  where
    own : (c : Call) (k : Command) → s ≡ actor k → tally (open_in t) (sent_with k (step c k).answer) ≡ 0
    own c k e = go (did-opened t (did c k))
      where
        go : Opened t k c (step c k).answer (step c k).call → tally (open_in t) (sent_with k (step c k).answer) ≡ 0
        go (none p) = p
        go (once p o q r) = absurd (not-both (sym o ∙ ap (λ a. opens a t) (sym e) ∙ n))

send-not-0 : (s : Side) (u : ℕ) (x : Status) (cs : List ℕ) → fits s true u x cs ≡ true → tally in_tunnel_0 (Ordinary u x ∷ []) ≡ 0
send-not-0 s u x cs f = go (eqb u 0) (no_channel_signal x) refl refl
  where
    go : (p q : Bool) → eqb u 0 ≡ p → no_channel_signal x ≡ q → tally in_tunnel_0 (Ordinary u x ∷ []) ≡ 0
    go p true e g = rw g
    go false false e g = rw (e, g)
    go true false e g = absurd (not-both (sym f ∙ rw (e, g)))

did-not-0 : {c : Call} {k : Command} {z : Step} → Did c k z → tally in_tunnel_0 (sent_with k z.answer) ≡ 0
did-not-0 (refused-it r) = refl
did-not-0 {k = Accept} (did-it a f) = refl
did-not-0 {k = Busy} (did-it a f) = refl
did-not-0 {k = Unobtainable} (did-it a f) = refl
did-not-0 {c = c} {k = Send s u x} (did-it a f) = send-not-0 s u x (end_of s c).channels f
did-not-0 {k = Hang-up s} (did-it a f) = refl
did-not-0 {c = c} {k = Deliver s} (did-it a f) = delivered (waiting s c)
  where
    delivered : (w : List Signal) → tally in_tunnel_0 (sent_with (Deliver s) (hands (Deliver s) w)) ≡ 0
    delivered [] = refl
    delivered (Upack ∷ w) = refl
    delivered (Ordinary u x ∷ w) = refl
    delivered (Teardown ∷ w) = refl
    delivered (Downack ∷ w) = refl

pub none_in_tunnel0 : NoneInTunnel0
none_in_tunnel0 c ks s = never-sent in_tunnel_0 s (λ c k e. did-not-0 (did c k)) ks (placed c)

-- NO CHANNEL IS STUCK
pub channels_go_on : ChannelsGoOn
channels_go_on c ks t h l = go (wires-go-on (placed-ran c ks).good.wires t h)
  where
    z : Call
    z = after (placed c) ks

    go : GoesOnFrom (opens Caller t) (channel_of Caller t z) (channel_of Callee t z) (under t (waiting Caller z)) (under t (waiting Callee z)) → GoesOn t z
    go (to-me k u p) = comes Caller k u p
    go (from-me k u p) = comes Callee k u p
    go (i-may k m y) = let x = may-send-in Caller (end_of Caller z).channels t h k m y in may_send Caller x.0 x.1
    go (they-may k m y) = let x = may-send-in Callee (end_of Callee z).channels t h k m y in may_send Callee x.0 x.1
    go (both-ended p q) = ended p q
    go (i-wait p q) = left_over Caller p q
    go (they-wait p q) = left_over Callee q p
    go (nowhere p q) = absurd (omega (arith, p, all_in_states c ks Caller t l))

-- EACH TUNNEL IN ORDER
pub tunnels_in_order : TunnelsInOrder
tunnels_in_order c ks s t = ap (under t) (in_order c ks s) ∙ under-append t (received s (placed c) ks) (waiting s (after (placed c) ks))

-- the acting end and the other
side-is : (s a : Side) → (s ≡ a) ⊎ (s ≡ other a)
side-is Caller Caller = inl refl
side-is Caller Callee = inr refl
side-is Callee Caller = inr refl
side-is Callee Callee = inl refl

if-own : (s : Side) (xs : List Signal) → if_by s s xs ≡ xs
if-own Caller xs = refl
if-own Callee xs = refl

if-other : (s : Side) (xs : List Signal) → if_by (other s) s xs ≡ []
if-other Caller xs = refl
if-other Callee xs = refl

other-moved : (s : Side) (c : Call) (e : End) (i o : Queue) → end_of (other s) (moved s e i o c) ≡ end_of (other s) c
other-moved Caller c e i o = refl
other-moved Callee c e i o = refl

did-other : {c : Call} {k : Command} {z : Step} → Did c k z → end_of (other (actor k)) z.call ≡ end_of (other (actor k)) c
did-other (refused-it r) = refl
did-other {c} {k} (did-it a f) = other-moved (actor k) c _ _ _

-- ANSWERS: `owed` is what an end in a state may still answer. No step of a program sends an answer that is not owed, or owes one that was not asked for.
abbrev fair : (Bool → ℕ → ℕ) → (ℕ → Bool) → (ℕ → Bool) → Bool → Arc → Bool
fair owed answers asks o a = leb (cond (a.sends && answers a.kind) 1 0 + owed o a.to) (owed o a.at + cond (not a.sends && asks a.kind) 1 0)

module _ (owed : Bool → ℕ → ℕ) (answers asks : ℕ → Bool) (all_fair : (o : Bool) → T (every (fair owed answers asks o) (program o))) where
  step-fair : (o b : Bool) (n k : ℕ) → eqb (follows o b n k) 9 ≡ false
      → cond (b && answers k) 1 0 + owed o (follows o b n k) ≤ owed o n + cond (not b && asks k) 1 0
  step-fair o b n k e = leb→le _ _ (step-holds (fair owed answers asks) all_fair o b n k e)

  -- a signal passes the channel of its tunnel; t is that tunnel or another
  passed-fair : (s : Side) (b : Bool) (u : ℕ) (x : Status) (cs : List ℕ) (t : ℕ) → 0 < t → fits s b u x cs ≡ true
      → cond (eqb u t && (b && answers (kind_of x))) 1 0 + owed (opens s t) (channel_at t (passed s b (Ordinary u x) cs))
      ≤ owed (opens s t) (channel_at t cs) + cond (eqb u t && (not b && asks (kind_of x))) 1 0
  passed-fair s b u x cs t h f = go (eqb u 0) (eqb u t) refl refl f
    where
      go : (z y : Bool) → eqb u 0 ≡ z → eqb u t ≡ y → cond z (no_channel_signal x) (not (eqb (next_channel s b u x cs) 9)) ≡ true
          → cond (y && (b && answers (kind_of x))) 1 0 + owed (opens s t) (channel_at t (cond z cs (set cs u (next_channel s b u x cs))))
          ≤ owed (opens s t) (channel_at t cs) + cond (y && (not b && asks (kind_of x))) 1 0
      go true true p q e = absurd (omega (arith, eqb-true u 0 p, eqb-true u t q))
      go true false p q e = omega arith
      go false true p q e =
          let n = not-true (eqb (next_channel s b u x cs) 9) e in
          let k = (step-known (opens s u) b (channel_at u cs) (kind_of x) n).0 in
          rw (← eqb-true u t q, own-channel cs u (next_channel s b u x cs) k) (step-fair (opens s u) b (channel_at u cs) (kind_of x) n)
      go false false p q e = rw (other-channel cs u (next_channel s b u x cs) t q) (omega arith)

  -- the acting end, with a command
  none_of : (b : Bool) → ◌≡◌ {A = ℕ} (cond (b && false) 1 0) 0
  none_of true = refl
  none_of false = refl

  own-fair : (t : ℕ) → 0 < t → {c : Call} {k : Command} {z : Step} → Did c k z
      → tally (kind_in answers t) (sent_with k z.answer) + owed (opens (actor k) t) (channel_of (actor k) t z.call)
      ≤ owed (opens (actor k) t) (channel_of (actor k) t c) + tally (kind_in asks t) (handed z.answer)
  own-fair t h (refused-it r) = omega arith
  own-fair t h {k = Accept} (did-it a f) = omega arith
  own-fair t h {k = Busy} (did-it a f) = rw (ne_eqb 0 t (λ e. omega arith)) (omega arith)
  own-fair t h {k = Unobtainable} (did-it a f) = rw (ne_eqb 0 t (λ e. omega arith)) (omega arith)
  own-fair t h {c = c} {k = Send s u x} (did-it a f) =
      rw (end_moved s c (within a (passed s true (Ordinary u x) (end_of s c).channels)) _ _)
      (omega (arith, passed-fair s true u x (end_of s c).channels t h f, none_of (eqb u t)))
  own-fair t h {c = c} {k = Hang-up s} (did-it a f) = rw (end_moved s c (within a (end_of s c).channels) _ _) (omega arith)
  own-fair t h {c = c} {k = Deliver s} (did-it a f) =
      rw (end_moved s c (within a (channels_by (Deliver s) (waiting s c) (end_of s c).channels)) _ _) (delivered (waiting s c) (end_of s c).channels f)
    where
      delivered : (w : List Signal) (cs : List ℕ) → HeadFits s cs w
          → tally (kind_in answers t) (sent_with (Deliver s) (hands (Deliver s) w)) + owed (opens s t) (channel_at t (channels_by (Deliver s) w cs))
          ≤ owed (opens s t) (channel_at t cs) + tally (kind_in asks t) (handed (hands (Deliver s) w))
      delivered [] cs f = omega arith
      delivered (Upack ∷ w) cs f = omega arith
      delivered (Ordinary u x ∷ w) cs f = omega (arith, passed-fair s false u x cs t h f, none_of (eqb u t))
      delivered (Teardown ∷ w) cs f = omega arith
      delivered (Downack ∷ w) cs f = omega arith

  -- either end, with a command, and with many
  both-fair : (s : Side) (t : ℕ) → 0 < t → (c : Call) (k : Command)
      → tally (kind_in answers t) (if_by s (actor k) (sent_with k (step c k).answer)) + owed (opens s t) (channel_of s t (step c k).call)
      ≤ owed (opens s t) (channel_of s t c) + tally (kind_in asks t) (if_by s (actor k) (handed (step c k).answer))
  both-fair s t h c k =
      ⊎_elim
      (λ (e : s ≡ actor k). rw (e, if-own (actor k) (sent_with k (step c k).answer), if-own (actor k) (handed (step c k).answer)) (own-fair t h (did c k)))
      (λ (e : s ≡ other (actor k)).
      rw (e, if-other (actor k) (sent_with k (step c k).answer), if-other (actor k) (handed (step c k).answer), did-other (did c k)) (omega arith))
      (side-is s (actor k))

  fair-after : (s : Side) (t : ℕ) → 0 < t → (ks : List Command) (c : Call)
      → tally (kind_in answers t) (sent s c ks) ≤ owed (opens s t) (channel_of s t c) + tally (kind_in asks t) (received s c ks)
  fair-after s t h [] c = omega arith
  fair-after s t h (k ∷ ks) c =
      let z : Call = (step c k).call in
      let xs : List Signal = if_by s (actor k) (sent_with k (step c k).answer) in
      let hs : List Signal = if_by s (actor k) (handed (step c k).answer) in
      omega (
        arith,
        fair-after s t h ks z,
        both-fair s t h c k,
        tally-append (kind_in answers t) xs (sent s z ks),
        tally-append (kind_in asks t) hs (received s z ks),
      )

  answers_with : ((o : Bool) → (owed o 0 ≡ 0) × (owed o 9 ≡ 0)) → AnswersWith answers asks
  answers_with nothing c ks s t h = omega (arith, fair-after s t h ks (placed c), start s)
    where
      start-at : (n u : ℕ) → owed (opens s t) (get_or (replicate n 0) u 9) ≡ 0
      start-at zero u = (nothing (opens s t)).1
      start-at (suc n) zero = (nothing (opens s t)).0
      start-at (suc n) (suc u) = start-at n u

      start : (s' : Side) → owed (opens s t) (channel_of s' t (placed c)) ≡ 0
      start Caller = start-at 256 t
      start Callee = start-at 256 t

-- the answerer owes an oack or an onack in opened, the opener a ready in oacked, either a closeack in closing2 and closed
abbrev owes-oack : Bool → ℕ → ℕ
owes-oack true n = 0
owes-oack false n = cond (eqb n opened) 1 0

abbrev owes-ready : Bool → ℕ → ℕ
owes-ready true n = cond (eqb n oacked) 1 0
owes-ready false n = 0

abbrev owes-closeack : Bool → ℕ → ℕ
owes-closeack o n = cond (eqb n closing2 || eqb n closed) 1 0

oack-fair : (o : Bool) → T (every (fair owes-oack (λ k. eqb k oack || eqb k onack) (λ k. eqb k «open») o) (program o))
oack-fair true = tt
oack-fair false = tt

ready-fair : (o : Bool) → T (every (fair owes-ready (λ k. eqb k ready) (λ k. eqb k oack) o) (program o))
ready-fair true = tt
ready-fair false = tt

closeack-fair : (o : Bool) → T (every (fair owes-closeack (λ k. eqb k closeack) (λ k. eqb k close) o) (program o))
closeack-fair true = tt
closeack-fair false = tt

both-none : (f : Bool → ℕ → ℕ) → (f true 0 ≡ 0) × (f true 9 ≡ 0) → (f false 0 ≡ 0) × (f false 9 ≡ 0) → (o : Bool) → (f o 0 ≡ 0) × (f o 9 ≡ 0)
both-none f p q true = p
both-none f p q false = q

pub answers_answer : AnswersAnswer
answers_answer = (
  answers_with owes-oack _ _ oack-fair (both-none owes-oack (refl, refl) (refl, refl)),
  answers_with owes-ready _ _ ready-fair (both-none owes-ready (refl, refl) (refl, refl)),
  answers_with owes-closeack _ _ closeack-fair (both-none owes-closeack (refl, refl) (refl, refl)),
)
