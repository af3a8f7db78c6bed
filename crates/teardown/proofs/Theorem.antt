-- The third demand and manual 8.7: proofs of the statements of specs/Teardown.antt. Assumes nothing.
use Prim.Native.Nat.{ℕ, zero, suc, ◌+◌, ◌≤◌}
use mathlib.Core.Path.{◌≡◌, refl, sym, ap, ◌∙◌}
use mathlib.Core.Bool.{Bool, true, false, cond, not, ◌&&◌, ◌||◌}
use mathlib.Core.List.{List, [], ◌∷◌, ◌++◌, append-nil, append_assoc}
use lib.ListN.{length, length-append}
use lib.Dec.{T, leb}
use borrow.Author.Tests.{le-leb}
use native.Mathlib.Omega.{arith}
use Rattle.refusal.specs.declared.Refusal.TheVariants.{BrokenRecord}
use Rattle.ends.specs.declared.State.{State}
use Rattle.ends.specs.declared.State.TheVariants.{Idle, Requesting, Waiting, Linked, Unlinking}
use Rattle.ends.specs.declared.End.{End}
use Rattle.ends.specs.declared.Signal.{Signal}
use Rattle.ends.specs.declared.Signal.TheVariants.{Upack, Ordinary, Teardown, Downack}
use Rattle.call.specs.Protocol.{Answer}
use Rattle.std.specs.Prelude.{Some, None, Ok, Err}
use Rattle.call.specs.declared.Queue.{Queue}
use Rattle.call.specs.declared.Call.{Call}
use Rattle.ends.specs.declared.Side.{Side}
use Rattle.ends.specs.declared.Side.TheVariants.{Caller, Callee}
use Rattle.call.specs.declared.Command.{Command}
use Rattle.call.specs.declared.Command.TheVariants.{Accept, Busy, Unobtainable, Send, Teardown as Hang-up, Deliver}
use Rattle.std.specs.Prelude.{Result, Ok, Err}
use Rattle.refusal.specs.declared.Refusal.{Refusal}
use Rattle.ends.specs.declared.State.{State}
use Rattle.std.specs.Prelude.{Ok, Err}
use Rattle.call.specs.Protocol.{actor, other, end_of, state_of, queue_to, waiting, is_idle, is_free, within, decide, reply, sends, hands, fit, verdict, channels_by, moved, outcome, step, placed}
use Rattle.call.specs.History.{accepted, allows, sent_with, after, if_by, sent, received, deliveries, tally, upack, ordinary, teardown, downack, sent_of, waiting_of, waiting_both_ways}
use Rattle.teardown.specs.Teardown.{Closes, Demand3, OfFour, accepting, tearing, to_caller, to_callee, NoDeadlock, EndsIdle, InOrder, Never17, NeverUnfit, Bounded, QueuesBounded, NothingElse, RefusedSame, KeepsItsUse}
use Rattle.ends.specs.declared.Status.{Status}
use Rattle.ends.specs.Ends.{fits}
use Rattle.tunnels.proofs.Wires.{Wires, wires-unused}
use Rattle.teardown.proofs.Fate.{head-sound, passes}
use Rattle.teardown.proofs.Slots.{Holds, holding, holds-none}
use Rattle.teardown.proofs.Phase.{open-end, by-t, by-d, by-td, Shape, shut, rest, up, tears-in, downs-in, cap, none', Flow, shut', rest', flow-counts, Phase, Stage, deliver-at}
use Rattle.teardown.proofs.Phase.{asking, asked, upack-to-me, upack-to-them, early-to-me, early-to-them, linked, i-tear, they-tear, crossed, they-done, i_done}
use Rattle.teardown.proofs.Phase.{crossed-they-took, crossed-i-took, crossed-both-took, crossed-they-done, crossed-i-done, over-mine, over-theirs, over-both}
use Rattle.teardown.proofs.Record.{Good, turn, hands-accepted, verdict-is, stepped}
use Rattle.teardown.proofs.Trace.{tally-append, kinds, seen_by, Ran, ran}

-- WHAT EVERY PHASE SAYS of the numbers: at most one upack, and a teardown of an end only after it; the teardowns of an end are those still waiting and those that got their downack
abbrev Facts : Shape → Shape → ℕ → ℕ → ℕ → ℕ → ℕ → Type 0
Facts i o u tm dm ty dy = (u ≤ 1) × (tm ≤ u) × (ty ≤ u) × (tears-in o + dy ≡ tm) × (tears-in i + dm ≡ ty)

facts : {e : Side} {a b : State} {i o : Shape} {u tm dm ty dy : ℕ} → Phase e a b i o u tm dm ty dy → Facts i o u tm dm ty dy
facts asking = omega arith
facts asked = omega arith
facts upack-to-me = omega arith
facts upack-to-them = omega arith
facts early-to-me = omega arith
facts early-to-them = omega arith
facts linked = omega arith
facts i-tear = omega arith
facts they-tear = omega arith
facts crossed = omega arith
facts they-done = omega arith
facts i_done = omega arith
facts crossed-they-took = omega arith
facts crossed-i-took = omega arith
facts crossed-both-took = omega arith
facts crossed-they-done = omega arith
facts crossed-i-done = omega arith
facts over-mine = omega arith
facts over-theirs = omega arith
facts over-both = omega arith

-- with both idle nothing waits
at_rest : {e : Side} {i o : Shape} {u tm dm ty dy : ℕ} → Phase e Idle Idle i o u tm dm ty dy → (i ≡ shut) × (o ≡ shut)
at_rest over-mine = (refl, refl)
at_rest over-theirs = (refl, refl)
at_rest over-both = (refl, refl)

shut-empty : {w : List Signal} → Flow w shut → w ≡ []
shut-empty shut' = refl

idle-state : (a : State) → T (is_idle a) → a ≡ Idle
idle-state Idle t = refl
idle-state Requesting t = absurd t
idle-state Waiting t = absurd t
idle-state Linked t = absurd t
idle-state Unlinking t = absurd t

pub and_left : (a b : Bool) → T (a && b) → T a
and_left true b t = tt
and_left false b t = absurd t

pub and_right : (a b : Bool) → T (a && b) → T b
and_right true b t = t
and_right false b t = absurd t

or_left : (a b : Bool) → T a → T (a || b)
or_left true b t = tt
or_left false b t = absurd t

or_right : (a b : Bool) → T b → T (a || b)
or_right true b t = tt
or_right false b t = t

pub is_true : (b : Bool) → b ≡ true → T b
is_true b p = rw p tt

idle-end : (s : Side) (c : Call) → T (is_free c) → state_of s c ≡ Idle
idle-end Caller c t = idle-state (state_of Caller c) (and_left (is_idle (state_of Caller c)) (is_idle (state_of Callee c)) t)
idle-end Callee c t = idle-state (state_of Callee c) (and_right (is_idle (state_of Caller c)) (is_idle (state_of Callee c)) t)

rests : {c : Call} {u ta da tb db : ℕ} → Good Caller c u ta da tb db → T (is_free c) → (s : Side) → waiting s c ≡ []
rests {c} g t =
    let p = at_rest (rw (idle-end Caller c t, idle-end Callee c t) at g.stage.phase) in
    elim [ Caller ↦ shut-empty (rw p.0 at g.stage.come) | Callee ↦ shut-empty (rw p.1 at g.stage.go) ]

-- SOME STEP IS ACCEPTED
-- a queue of this shape holds something
abbrev Full : Shape → Type 0
Full shut = ⊥
Full (rest open-end) = ⊥
Full (rest by-t) = Unit {0}
Full (rest by-d) = Unit {0}
Full (rest by-td) = Unit {0}
Full (up k) = Unit {0}

-- unless both ends are idle one of the queues does, or no teardown was sent and the callee may answer or both are linked
data Moves (a b : State) (i o : Shape) (t : ℕ) : Type 0 where
  to-me : Full i → Moves a b i o t
  to-them : Full o → Moves a b i o t
  may-answer : b ≡ Waiting → i ≡ shut → t ≡ 0 → Moves a b i o t
  both-linked : a ≡ Linked → o ≡ rest open-end → t ≡ 0 → Moves a b i o t

moves : {a b : State} {i o : Shape} {u tm dm ty dy : ℕ} → Phase Caller a b i o u tm dm ty dy → T (not (is_idle a && is_idle b)) → Moves a b i o (tm + ty)
moves asking n = may-answer refl refl refl
moves upack-to-me n = to-me tt
moves early-to-me n = to-me tt
moves linked n = both-linked refl refl refl
moves i-tear n = to-them tt
moves they-tear n = to-me tt
moves crossed n = to-me tt
moves they-done n = to-me tt
moves i_done n = to-them tt
moves crossed-they-took n = to-me tt
moves crossed-i-took n = to-them tt
moves crossed-both-took n = to-me tt
moves crossed-they-done n = to-me tt
moves crossed-i-done n = to-them tt
moves over-mine n = absurd n
moves over-theirs n = absurd n
moves over-both n = absurd n

not_full : {i : Shape} → Flow [] i → Full i → ⊥
not_full shut' f = f
not_full (rest' none') f = f

-- a command whose verdict is no refusal is accepted
goes : (c : Call) (k : Command) (st : State) → verdict c k ≡ Ok st → T (allows c k)
goes c k st p = rw p (is_true (accepted (hands k (waiting (actor k) c))) (hands-accepted k (waiting (actor k) c)).0)

ready : {e : Side} {a b : State} {cs ds : List ℕ} {w v : List Signal} {u tm dm ty dy : ℕ} (s : Stage e a b w v u tm dm ty dy) → Wires e cs ds w v → Full s.i
    → (a' : State) × (fit (decide (Deliver e) (within a cs) w (length v)) (length v + length (reply w)) ≡ Ok a')
ready {w = []} s q f = absurd (not_full s.come f)
ready {a = a} {cs = cs} {w = x ∷ w} s q f =
    let d = deliver-at s.come s.phase s.go s.come-room s.go-room in
    (d.a', rw (d.taken cs (passes a x (head-sound s.come) q).0, le-leb _ _ d.room))

full-allows : {c : Call} {u tm dm ty dy : ℕ} (e : Side) (g : Good e c u tm dm ty dy) → Full g.stage.i → T (allows c (Deliver e))
full-allows {c} e g f =
    let r = ready g.stage g.wires f in
    goes c (Deliver e) r.0 (verdict-is c (Deliver e) g ∙ r.1)

some-delivery : {c : Call} {u ta da tb db : ℕ} (g : Good Caller c u ta da tb db) → Moves (state_of Caller c) (state_of Callee c) g.stage.i g.stage.o (ta + tb)
    → 1 ≤ ta + tb → T (allows c (Deliver Caller) || allows c (Deliver Callee))
some-delivery {c} g (to-me f) h = or_left (allows c (Deliver Caller)) (allows c (Deliver Callee)) (full-allows Caller g f)
some-delivery {c} g (to-them f) h = or_right (allows c (Deliver Caller)) (allows c (Deliver Callee)) (full-allows Callee (turn Caller g) f)
some-delivery g (may-answer p q z) h = absurd (omega arith)
some-delivery g (both-linked p q z) h = absurd (omega arith)

some-command : {c : Call} {u ta da tb db : ℕ} (g : Good Caller c u ta da tb db) → Moves (state_of Caller c) (state_of Callee c) g.stage.i g.stage.o (ta + tb)
    → (k : Command) × OfFour k × T (allows c k)
some-command g (to-me f) = (Deliver Caller, to_caller, full-allows Caller g f)
some-command g (to-them f) = (Deliver Callee, to_callee, full-allows Callee (turn Caller g) f)
some-command {c} g (may-answer p q z) =
    let w : waiting Caller c ≡ [] = shut-empty (rw q at g.stage.come) in
    (Accept, accepting, goes c Accept Linked (verdict-is c Accept (turn Caller g) ∙ rw (p, w)))
some-command {c} g (both-linked p q z) =
    let n : length (waiting Callee c) ≤ 14 = rw q at g.stage.go-room in
    (Hang-up Caller, tearing, goes c (Hang-up Caller) Unlinking (verdict-is c (Hang-up Caller) g ∙ rw (p, le-leb (length (waiting Callee c) + 1) 16 (omega arith))))

-- THE RECORD AS PLACED
pub placed-good : (c : Call) → Good Caller (placed c) 0 0 0 0 0
placed-good c =
    record {
      come = holds-none;
      go = holds-none;
      stage = record { i = shut; o = shut; phase = asking; come = shut'; go = shut'; come-room = omega arith; go-room = omega arith };
      wires = wires-unused Caller 256;
    }

pub placed-ran : (c : Call) (ks : List Command) → Ran (placed c) ks 0 0 0 0 0
placed-ran c ks = ran ks (placed c) (placed-good c)

pub no_deadlock : NoDeadlock
no_deadlock c ks n =
    let g = (placed-ran c ks).good in
    some-command g (moves g.stage.phase n)

pub in_order : InOrder
in_order c ks Caller = (placed-ran c ks).through Caller
in_order c ks Callee = (placed-ran c ks).through Callee

pub never17 : Never17
never17 c ks k = (stepped (after (placed c) ks) k (seen_by (actor k) (placed-ran c ks).good)).not-17

-- what waits first is fit for its channel
head-fit : {s : Side} {z : Call} {u tm dm ty dy : ℕ} {t : ℕ} {x : Status} {w : List Signal} → Good s z u tm dm ty dy → waiting s z ≡ Ordinary t x ∷ w
    → fits s false t x (end_of s z).channels ≡ true
head-fit {s} {z} {t = t} {x = x} g e =
    (passes (state_of s z) (Ordinary t x) (head-sound (rw e at g.stage.come)) (rw e at g.wires)).0

pub never_unfit : NeverUnfit
never_unfit c ks s t x w e = head-fit (seen_by s (placed-ran c ks).good) e

bounded : {s : Side} {z : Call} {i : Shape} → Flow (waiting s z) i → length (waiting s z) ≤ cap i → tears-in i ≤ 1 → downs-in i ≤ 1 → Bounded s z
bounded {s} {z} f n t d =
    let k = flow-counts f in
    record {
      upacks_ordinary = omega (arith, kinds (waiting s z), k.0, k.1);
      teardowns = omega (arith, k.0);
      downacks = omega (arith, k.1);
    }

at_most_one : (i : Shape) → (tears-in i ≤ 1) × (downs-in i ≤ 1)
at_most_one shut = omega arith
at_most_one (rest open-end) = omega arith
at_most_one (rest by-t) = omega arith
at_most_one (rest by-d) = omega arith
at_most_one (rest by-td) = omega arith
at_most_one (up open-end) = omega arith
at_most_one (up by-t) = omega arith
at_most_one (up by-d) = omega arith
at_most_one (up by-td) = omega arith

pub queues_bounded : QueuesBounded
queues_bounded c ks Caller =
    let s = (placed-ran c ks).good.stage in
    bounded s.come s.come-room (at_most_one s.i).0 (at_most_one s.i).1
queues_bounded c ks Callee =
    let s = (placed-ran c ks).good.stage in
    bounded s.go s.go-room (at_most_one s.o).0 (at_most_one s.o).1

-- NOTHING OF THE PAST STAYS
same-call : {c d : Call} → c.caller ≡ d.caller → c.callee ≡ d.callee → c.to_caller ≡ d.to_caller → c.to_callee ≡ d.to_callee
    → c.use_number ≡ d.use_number → c ≡ d
same-call p q r s t = rw (p, q, r, s, t)

same_queue : {q p : Queue} {w v : List Signal} → Holds q w → Holds p v → w ≡ v → q ≡ p
same_queue h k e = h.is ∙ ap holding e ∙ sym k.is

pub nothing_else : NothingElse
nothing_else c d ks ls ends waits uses =
    let g = (placed-ran c ks).good in
    let h = (placed-ran d ls).good in
    same-call (ends Caller) (ends Callee) (same_queue g.come h.come (waits Caller)) (same_queue g.go h.go (waits Callee)) uses

-- AN IDLE END DOES NOTHING
idle-refuses : (c : Call) (k : Command) (e : End) (w : List Signal) (n m : ℕ) (b : Bool) → e.state ≡ Idle
    → T (not (accepted (outcome c k (cond b (fit (decide k e w n) m) (Err BrokenRecord))).answer))
idle-refuses c k e w n m false p = tt
idle-refuses c Accept e w n m true p = rw p tt
idle-refuses c Busy e w n m true p = rw p tt
idle-refuses c Unobtainable e w n m true p = rw p tt
idle-refuses c (Send s t x) e w n m true p = rw p tt
idle-refuses c (Hang-up s) e w n m true p = rw p tt
idle-refuses c (Deliver s) e [] n m true p = tt
idle-refuses c (Deliver s) e (x ∷ w) n m true p = rw p tt

pub ends_idle : EndsIdle
ends_idle c k t =
    idle-refuses c k (end_of (actor k) c) (waiting (actor k) c) (queue_to (other (actor k)) c).count ((queue_to (other (actor k)) c).count + length (sends k (waiting (actor k) c)))
    (leb c.to_caller.count 16 && leb c.to_callee.count 16) (idle-end (actor k) c t)

refused_as : (c : Call) (k : Command) (v : Result State Refusal) → T (not (accepted (outcome c k v).answer)) → (outcome c k v).call ≡ c
refused_as c k (Err r) n = refl
refused_as c k (Ok e) n = absurd (rw (hands-accepted k (waiting (actor k) c)).0 at n)

pub refused_same : RefusedSame
refused_same c k n = refused_as c k (verdict c k) n

-- THE USE NUMBER STAYS
moved-use : (s : Side) (e : End) (i o : Queue) (c : Call) → (moved s e i o c).use_number ≡ c.use_number
moved-use Caller e i o c = refl
moved-use Callee e i o c = refl

use-as : (c : Call) (k : Command) (v : Result State Refusal) → (outcome c k v).call.use_number ≡ c.use_number
use-as c k (Err r) = refl
use-as c k (Ok st) = moved-use (actor k) (within st (channels_by k (waiting (actor k) c) (end_of (actor k) c).channels)) _ _ c

pub keeps_its_use : KeepsItsUse
keeps_its_use c k = use-as c k (verdict c k)

pub after-use : (c : Call) (ks : List Command) → (after c ks).use_number ≡ c.use_number
after-use c [] = refl
after-use c (k ∷ ks) = after-use (step c k).call ks ∙ keeps_its_use c k

-- HISTORIES one after the other
pub after-append : (c : Call) (ks ls : List Command) → after c (ks ++ ls) ≡ after (after c ks) ls
after-append c [] ls = refl
after-append c (k ∷ ks) ls = after-append (step c k).call ks ls

sent-append : (s : Side) (c : Call) (ks ls : List Command) → sent s c (ks ++ ls) ≡ sent s c ks ++ sent s (after c ks) ls
sent-append s c [] ls = refl
sent-append s c (k ∷ ks) ls =
    ap (λ l. if_by s (actor k) (sent_with k (step c k).answer) ++ l) (sent-append s (step c k).call ks ls)
    ∙ sym (append_assoc (if_by s (actor k) (sent_with k (step c k).answer)) (sent s (step c k).call ks) (sent s (after c (k ∷ ks)) ls))

tally-sent : (f : Signal → ℕ) (s : Side) (c : Call) (ks ls : List Command)
    → tally f (sent s c (ks ++ ls)) ≡ tally f (sent s c ks) + tally f (sent s (after c ks) ls)
tally-sent f s c ks ls = rw sent-append (tally-append f (sent s c ks) (sent s (after c ks) ls))

-- THE FIRST TEARDOWN
-- no command sends a teardown and a downack
one_of_two : (k : Command) (w : List Signal) → tally teardown (sends k w) + tally downack (sends k w) ≤ 1
one_of_two Accept w = omega arith
one_of_two Busy w = omega arith
one_of_two Unobtainable w = omega arith
one_of_two (Send e t x) w = omega arith
one_of_two (Hang-up e) w = omega arith
one_of_two (Deliver e) [] = omega arith
one_of_two (Deliver e) (Upack ∷ w) = omega arith
one_of_two (Deliver e) (Ordinary t x ∷ w) = omega arith
one_of_two (Deliver e) (Teardown ∷ w) = omega arith
one_of_two (Deliver e) (Downack ∷ w) = omega arith

by_answer : (k : Command) (a : Answer) → tally teardown (sent_with k a) + tally downack (sent_with k a) ≤ 1
by_answer k (Ok None) = one_of_two k []
by_answer k (Ok (Some x)) = one_of_two k (x ∷ [])
by_answer k (Err r) = omega arith

-- what one more command adds to an end's history
snoc : (f : Signal → ℕ) (s : Side) (c : Call) (ks : List Command) (k : Command)
    → tally f (sent s c (ks ++ k ∷ [])) ≡ tally f (sent s c ks) + tally f (if_by s (actor k) (sent_with k (step (after c ks) k).answer))
snoc f s c ks k = rw sent-append (simp (append-nil, tally-append))

by_both : (f : Signal → ℕ) (s : Side) (xs : List Signal) → tally f (if_by Caller s xs) + tally f (if_by Callee s xs) ≡ tally f xs
by_both f Caller xs = omega arith
by_both f Callee xs = omega arith

by-self : (s : Side) (xs : List Signal) → if_by s s xs ≡ xs
by-self Caller xs = refl
by-self Callee xs = refl

of-both : (f : Signal → ℕ) (s : Side) (c : Call) (ks : List Command) → tally f (sent s c ks) ≤ sent_of f c ks
of-both f Caller c ks = omega arith
of-both f Callee c ks = omega arith

-- just after it: one teardown, of the end that acted, and no downack
record First (p : Call) (front : List Command) (e : Side) : Type 0 where
  tears : sent_of teardown p front ≡ 1
  tear-by : tally teardown (sent e p front) ≡ 1
  downs : sent_of downack p front ≡ 0

first : (c : Call) (before : List Command) (k : Command) → sent_of teardown (placed c) before ≡ 0
    → sent_of teardown (placed c) (before ++ k ∷ []) ≡ 1 → First (placed c) (before ++ k ∷ []) (actor k)
first c before k n o =
    let p : Call = placed c in
    let a : Answer = (step (after p before) k).answer in
    let xs : List Signal = sent_with k a in
    let f = facts (placed-ran c before).good.stage.phase in
    let tk : tally teardown xs ≡ 1 =
    omega (arith, snoc teardown Caller p before k, snoc teardown Callee p before k, by_both teardown (actor k) xs) in
    record {
      tears = o;
      tear-by =
          omega (arith, snoc teardown (actor k) p before k, ap (tally teardown) (by-self (actor k) xs), of-both teardown (actor k) p before);
      downs =
          omega
          (arith, f, snoc downack Caller p before k, snoc downack Callee p before k, by_both downack (actor k) xs, by_answer k a);
    }

three-or-one : (x : ℕ) → x ≤ 1 → cond (leb 1 x) 3 1 ≡ 1 + (x + x)
three-or-one zero h = refl
three-or-one (suc zero) h = refl
three-or-one (suc (suc x)) h = absurd (omega arith)

-- the end e sent one teardown, so what both sent is that and the other's
of_other : (e : Side) (p : Call) (ks : List Command) → tally teardown (sent e p ks) ≡ 1
    → sent_of teardown p ks ≡ 1 + tally teardown (sent (other e) p ks)
of_other Caller p ks h = omega arith
of_other Callee p ks h = omega arith

-- THE NUMBERS of the commands `later` from t, where `front` led from the placed record p to t
record Numbers (p t z : Call) (front later : List Command) : Type 0 where
  conserved : deliveries t later + waiting_both_ways z ≡ waiting_both_ways t + (sent_of upack t later + sent_of ordinary t later + sent_of teardown t later + sent_of downack t later)
  no-upack : sent_of upack t later ≡ 0
  one_more : sent_of teardown t later ≤ 1
  answered : waiting_of teardown z + sent_of downack t later ≡ 1 + sent_of teardown t later

numbers : (c : Call) (front later : List Command) (e : Side) → First (placed c) front e
    → Numbers (placed c) (after (placed c) front) (after (after (placed c) front) later) front later
numbers c front later e h =
    let t : Call = after (placed c) front in
    let m1 = placed-ran c front in
    let m2 = ran later t m1.good in
    let f1 = facts m1.good.stage.phase in
    let f2 = facts m2.good.stage.phase in
    record {
      conserved =
          omega
          (arith, m2.count, simp length-append at (ap length (m2.through Caller)), simp length-append at (ap length (m2.through Callee)), kinds (sent Caller t later), kinds (sent Callee t later));
      no-upack = omega (arith, h.tears, f1, f2);
      one_more = omega (arith, h.tears, f2);
      answered = omega (arith, h.tears, h.downs, f2, flow-counts m2.good.stage.come, flow-counts m2.good.stage.go);
    }

-- with nothing waiting at the end, what was received is what was sent
all-received : (w r s : List Signal) → w ≡ [] → s ≡ r ++ w → r ≡ s
all-received w r s q e = sym (rw (q, append-nil) at e)

closes : (c : Call) (before : List Command) (k : Command) (later : List Command)
    → sent_of teardown (placed c) before ≡ 0 → sent_of teardown (placed c) (before ++ k ∷ []) ≡ 1
    → Closes (placed c) (after (placed c) (before ++ k ∷ [])) (after (placed c) ((before ++ k ∷ []) ++ later)) (actor k) ((before ++ k ∷ []) ++ later) later
closes c before k later n o =
    let p : Call = placed c in
    let front : List Command = before ++ k ∷ [] in
    let ks : List Command = front ++ later in
    let t : Call = after p front in
    let z : Call = after p ks in
    let f = first c before k n o in
    let m = placed-ran c ks in
    let fs = facts m.good.stage.phase in
    let x : Numbers p t z front later = rw (after-append p front later) (numbers c front later (actor k) f) in
    let tears : sent_of teardown p ks ≡ 1 + sent_of teardown t later =
    omega (arith, f.tears, tally-sent teardown Caller p front later, tally-sent teardown Callee p front later) in
    let once' : (s : Side) → tally teardown (sent s p ks) ≤ 1 = elim [ Caller ↦ omega (arith, fs) | Callee ↦ omega (arith, fs) ] in
    let mine : tally teardown (sent (actor k) p ks) ≡ 1 =
    omega (arith, f.tear-by, tally-sent teardown (actor k) p front later, once' (actor k)) in
    let got : T (is_free z) → (s : Side) → received s p ks ≡ sent (other s) p ks =
    λ b s. all-received (waiting s z) (received s p ks) (sent (other s) p ks) (rests m.good b s) (in_order c ks s) in
    record {
      moves = λ u. some-delivery m.good (moves m.good.stage.phase u) (omega (arith, tears));
      empty = rests m.good;
      in_order = got;
      downacks =
          λ b.
          (let r = rests m.good b in
          let a = flow-counts m.good.stage.come in
          let d = flow-counts m.good.stage.go in
          elim [
            | Caller ↦ omega (arith, fs, a, d, ap (tally downack) (got b Caller), ap (tally teardown) (r Caller), ap (tally teardown) (r Callee))
            | Callee ↦ omega (arith, fs, a, d, ap (tally downack) (got b Callee), ap (tally teardown) (r Caller), ap (tally teardown) (r Callee))
          ]);
      once = once';
      bound = omega (arith, x.conserved, x.no-upack, x.one_more, x.answered);
      exact =
          λ b.
          (let y : ℕ = tally teardown (sent (other (actor k)) p ks) in
          let r = rests m.good b in
          omega (
            arith,
            tears,
            x.conserved,
            x.no-upack,
            x.answered,
            of_other (actor k) p ks mine,
            three-or-one y (once' (other (actor k))),
            ap length (r Caller),
            ap length (r Callee),
            ap (tally teardown) (r Caller),
            ap (tally teardown) (r Callee),
          ));
      count = omega (arith, tears, x.conserved, x.no-upack, x.answered);
    }

pub demand3 : Demand3
demand3 c before k later h = rw append_assoc at (closes c before k later h.none_before h.one_with_k)
