-- WHAT A COMMAND COMES TO under the invariant: never a refusal 17; and an accepted command leads to the invariant again. Assumes nothing.
use Prim.Native.Nat.{ℕ, ◌+◌, ◌≤◌, ◌<◌}
use mathlib.Core.Path.{◌≡◌, refl}
use mathlib.Core.Bool.{Bool, true, false, cond}
use mathlib.Core.List.{List, [], ◌∷◌, ◌++◌}
use mathlib.Core.Logic.{◌≢◌}
use lib.ListN.{length, length-append, drop}
use lib.Dec.{ltb}
use borrow.Author.Tests.{ltb-true, le-leb, ne_eqb}
use native.Mathlib.Omega.{arith}
use Rattle.refusal.specs.declared.Refusal.{Refusal}
use Rattle.refusal.specs.declared.Refusal.TheVariants.{StateForbids, TooManyWaiting, NothingWaiting, NotOrdinary, TunnelTaken, ChannelForbids}
use Rattle.refusal.specs.Numbers.{number_of}
use Rattle.ends.specs.declared.State.{State}
use Rattle.ends.specs.declared.State.TheVariants.{Idle, Requesting, Waiting, Linked, Unlinking}
use Rattle.ends.specs.declared.Status.{Status}
use Rattle.ends.specs.declared.Status.TheVariants.{Unknown, Unavail}
use Rattle.ends.specs.declared.Signal.{Signal}
use Rattle.ends.specs.declared.Signal.TheVariants.{Upack, Ordinary, Teardown, Downack}
use Rattle.ends.specs.Ends.{is_open, fits, forbidden}
use Rattle.tunnels.proofs.Wires.{Wires, Silent, sound, wires-silent, wires-sends, wires-takes, fits-sound}
use Rattle.ends.specs.declared.Side.{Side}
use Rattle.ends.specs.declared.Side.TheVariants.{Callee}
use Rattle.call.specs.declared.Command.{Command}
use Rattle.call.specs.declared.Command.TheVariants.{Accept, Busy, Unobtainable, Send, Teardown as Hang-up, Deliver}
use Rattle.std.specs.Prelude.{Result, Ok, Err}
use Rattle.refusal.specs.declared.Refusal.{Refusal}
use Rattle.ends.specs.declared.State.{State}
use Rattle.std.specs.Prelude.{Ok, Err}
use Rattle.call.specs.Protocol.{actor, is_waiting, is_linked, is_ordinary, within, passed, reply, decide, sends, hands, fit, channels_by}
use Rattle.call.specs.History.{handed, is_delivery}
use Rattle.teardown.proofs.Phase.{Lawful, Fitting, none', tear', down', both', ord', Flow, shut', rest', up', Shape, cap, at}
use Rattle.teardown.proofs.Phase.{Phase, asked, upack-to-them, early-to-them, linked, i-tear, they-tear, crossed}
use Rattle.teardown.proofs.Phase.{Stage, Next, deliver-at, add-ordinary, add-teardown}

-- what is left of what waits for the acting end
abbrev pub left : Command → List Signal → List Signal
left Accept w = w
left Busy w = w
left Unobtainable w = w
left (Send e t x) w = w
left (Hang-up e) w = w
left (Deliver e) w = drop 1 w

pub data Fate (k : Command) (b : State) (cs ds : List ℕ) (w v : List Signal) (u tm dm ty dy : ℕ) : Result State Refusal → Type 0 where
  not_so : (r : Refusal) → number_of r ≢ 17 → Fate k b cs ds w v u tm dm ty dy (Err r)
  so : {a' : State} → cond (is_delivery k) 1 0 ≡ length (handed (hands k w)) → length v + length (sends k w) ≤ 16
      → Next (actor k) a' b (left k w) v (sends k w) u tm dm ty dy → Wires (actor k) (channels_by k w cs) ds (left k w) (v ++ sends k w)
      → Fate k b cs ds w v u tm dm ty dy (Ok a')

so-fit : {k : Command} {a' b : State} {cs ds : List ℕ} {w v : List Signal} {u tm dm ty dy : ℕ}
    → cond (is_delivery k) 1 0 ≡ length (handed (hands k w)) → length v + length (sends k w) ≤ 16
    → Next (actor k) a' b (left k w) v (sends k w) u tm dm ty dy → Wires (actor k) (channels_by k w cs) ds (left k w) (v ++ sends k w)
    → Fate k b cs ds w v u tm dm ty dy (fit (Ok a') (length v + length (sends k w)))
so-fit d h s q = rw (le-leb _ _ h) (so d h s q)

-- the callee's answers, from the one phase that has a waiting end
accept : {b : State} {cs ds : List ℕ} {w v : List Signal} {u tm dm ty dy : ℕ} {i o : Shape} → Phase Callee Waiting b i o u tm dm ty dy → Flow w i → Flow v o
    → Wires Callee cs ds w v → Fate Accept b cs ds w v u tm dm ty dy (fit (Ok Linked) (length v + 1))
accept asked shut' shut' q = so refl (omega arith) (at upack-to-them shut' (up' none') (omega arith) (omega arith)) (wires-silent (Upack ∷ []) (λ t h. refl) q)

-- three signals in no tunnel from 1 on
silent-three : (x : Status) → Silent (Upack ∷ Ordinary 0 x ∷ Teardown ∷ [])
silent-three x t h = rw (ne_eqb 0 t (λ p. omega arith))

busy : {b : State} {cs ds : List ℕ} {w v : List Signal} {u tm dm ty dy : ℕ} {i o : Shape} → Phase Callee Waiting b i o u tm dm ty dy → Flow w i → Flow v o
    → Wires Callee cs ds w v → Fate Busy b cs ds w v u tm dm ty dy (fit (Ok Unlinking) (length v + 3))
busy asked shut' shut' q =
    so refl (omega arith) (at early-to-them shut' (up' (ord' (refl, refl) tear')) (omega arith) (omega arith))
    (wires-silent (Upack ∷ Ordinary 0 Unavail ∷ Teardown ∷ []) (silent-three Unavail) q)

unobtainable : {b : State} {cs ds : List ℕ} {w v : List Signal} {u tm dm ty dy : ℕ} {i o : Shape} → Phase Callee Waiting b i o u tm dm ty dy → Flow w i → Flow v o
    → Wires Callee cs ds w v → Fate Unobtainable b cs ds w v u tm dm ty dy (fit (Ok Unlinking) (length v + 3))
unobtainable asked shut' shut' q =
    so refl (omega arith) (at early-to-them shut' (up' (ord' (refl, refl) tear')) (omega arith) (omega arith))
    (wires-silent (Upack ∷ Ordinary 0 Unknown ∷ Teardown ∷ []) (silent-three Unknown) q)

-- a teardown, and an ordinary signal, from a linked end
hang-up : {e : Side} {b : State} {cs ds : List ℕ} {w v : List Signal} {u tm dm ty dy : ℕ} {i o : Shape} → Phase e Linked b i o u tm dm ty dy → Flow w i → Flow v o
    → length w ≤ cap i → length v ≤ cap o → Wires e cs ds w (v ++ Teardown ∷ []) → Fate (Hang-up e) b cs ds w v u tm dm ty dy (fit (Ok Unlinking) (length v + 1))
hang-up upack-to-them f (up' g) h k q = so-fit refl (omega arith) (at early-to-them f (up' (add-teardown g)) h (simp length-append (omega arith))) q
hang-up linked f (rest' g) h k q = so-fit refl (omega arith) (at i-tear f (rest' (add-teardown g)) h (simp length-append (omega arith))) q
hang-up they-tear f (rest' g) h k q = so-fit refl (omega arith) (at crossed f (rest' (add-teardown g)) h (simp length-append (omega arith))) q

send : {e : Side} {b : State} {cs ds : List ℕ} {w v : List Signal} {u tm dm ty dy : ℕ} {i o : Shape} (t : ℕ) (x : Status) → Lawful t x
    → Phase e Linked b i o u tm dm ty dy → Flow w i → Flow v o
    → length w ≤ cap i → length v < 14 → Wires e (passed e true (Ordinary t x) cs) ds w (v ++ Ordinary t x ∷ [])
    → Fate (Send e t x) b cs ds w v u tm dm ty dy (fit (Ok Linked) (length v + 1))
send t x l upack-to-them f (up' g) h k q = so-fit refl (omega arith) (at upack-to-them f (up' (add-ordinary t x l g)) h (simp length-append (omega arith))) q
send t x l linked f (rest' g) h k q = so-fit refl (omega arith) (at linked f (rest' (add-ordinary t x l g)) h (simp length-append (omega arith))) q
send t x l they-tear f (rest' g) h k q = so-fit refl (omega arith) (at they-tear f (rest' (add-ordinary t x l g)) h (simp length-append (omega arith))) q

-- 40 or 41
forbidden-not : (b : Bool) → number_of (cond b TunnelTaken ChannelForbids) ≢ 17
forbidden-not true = λ z. omega arith
forbidden-not false = λ z. omega arith

send-tests : {e : Side} {b : State} {cs ds : List ℕ} {w v : List Signal} {u tm dm ty dy : ℕ} (t : ℕ) (x : Status) → Stage e Linked b w v u tm dm ty dy → Wires e cs ds w v
    → (l f m : Bool) → is_ordinary t x ≡ l → fits e true t x cs ≡ f → ltb (length v) 14 ≡ m
    → Fate (Send e t x) b cs ds w v u tm dm ty dy (fit (cond l (cond f (cond m (Ok Linked) (Err TooManyWaiting)) (Err (forbidden x))) (Err NotOrdinary)) (length v + 1))
send-tests {e} {cs = cs} t x s c true true true p q r =
    send t x (p, fits-sound e t x cs q) s.phase s.come s.go s.come-room (ltb-true _ _ r) (wires-sends t x q c)
send-tests t x s c true true false p q r = not_so TooManyWaiting (λ z. omega arith)
send-tests t x s c true false m p q r = not_so (forbidden x) (forbidden-not (is_open x))
send-tests t x s c false f m p q r = not_so NotOrdinary (λ z. omega arith)

-- a delivery: what waits is fit for its channel, and passes it
abbrev pub SoundSignal : Signal → Type 0
SoundSignal Upack = Unit {0}
SoundSignal (Ordinary t x) = sound t x ≡ true
SoundSignal Teardown = Unit {0}
SoundSignal Downack = Unit {0}

pub head-sound : {x : Signal} {w : List Signal} {i : Shape} → Flow (x ∷ w) i → SoundSignal x
head-sound (rest' tear') = tt
head-sound (rest' down') = tt
head-sound (rest' both') = tt
head-sound (rest' (ord' l r)) = l.1
head-sound (up' r) = tt

pub passes : {s : Side} {cs ds : List ℕ} {w v : List Signal} (a : State) (x : Signal) → SoundSignal x → Wires s cs ds (x ∷ w) v
    → Fitting s (within a cs) x × Wires s (passed s false x cs) ds w (v ++ reply (x ∷ w))
passes {v = v} a Upack o q = (tt, wires-silent {v = v} [] (λ t h. refl) (record { at = q.at }))
passes {v = v} a (Ordinary t x) o q = ((wires-takes o q).0, wires-silent [] (λ t h. refl) (wires-takes o q).1)
passes {v = v} a Teardown o q = (tt, wires-silent {v = v} (Downack ∷ []) (λ t h. refl) (record { at = q.at }))
passes {v = v} a Downack o q = (tt, wires-silent {v = v} [] (λ t h. refl) (record { at = q.at }))

handing : {e : Side} {a b : State} {cs ds : List ℕ} {w v : List Signal} {u tm dm ty dy : ℕ} → Stage e a b w v u tm dm ty dy → Wires e cs ds w v
    → Fate (Deliver e) b cs ds w v u tm dm ty dy (fit (decide (Deliver e) (within a cs) w (length v)) (length v + length (reply w)))
handing {w = []} s q = not_so NothingWaiting (λ z. omega arith)
handing {a = a} {cs = cs} {w = x ∷ w} s q =
    let d = deliver-at s.come s.phase s.go s.come-room s.go-room in
    let p = passes a x (head-sound s.come) q in
    rw (d.taken cs p.0) (so-fit refl d.room d.stage p.1)

-- what only a waiting end, or only a linked end, may do
module _ {e : Side} {k : Command} {b : State} {cs ds : List ℕ} {w v : List Signal} {u tm dm ty dy : ℕ} (y : Result State Refusal) (n : ℕ) where
  if-waiting : (a : State) → Stage e a b w v u tm dm ty dy → (Stage e Waiting b w v u tm dm ty dy → Fate k b cs ds w v u tm dm ty dy (fit y n))
      → Fate k b cs ds w v u tm dm ty dy (fit (cond (is_waiting a) y (Err StateForbids)) n)
  if-waiting Waiting s f = f s
  if-waiting Idle s f = not_so StateForbids (λ z. omega arith)
  if-waiting Requesting s f = not_so StateForbids (λ z. omega arith)
  if-waiting Linked s f = not_so StateForbids (λ z. omega arith)
  if-waiting Unlinking s f = not_so StateForbids (λ z. omega arith)

  if-linked : (a : State) → Stage e a b w v u tm dm ty dy → (Stage e Linked b w v u tm dm ty dy → Fate k b cs ds w v u tm dm ty dy (fit y n))
      → Fate k b cs ds w v u tm dm ty dy (fit (cond (is_linked a) y (Err StateForbids)) n)
  if-linked Linked s f = f s
  if-linked Idle s f = not_so StateForbids (λ z. omega arith)
  if-linked Requesting s f = not_so StateForbids (λ z. omega arith)
  if-linked Waiting s f = not_so StateForbids (λ z. omega arith)
  if-linked Unlinking s f = not_so StateForbids (λ z. omega arith)

pub fate : {a b : State} {cs ds : List ℕ} {w v : List Signal} {u tm dm ty dy : ℕ} (k : Command) → Stage (actor k) a b w v u tm dm ty dy → Wires (actor k) cs ds w v
    → Fate k b cs ds w v u tm dm ty dy (fit (decide k (within a cs) w (length v)) (length v + length (sends k w)))
fate {a} Accept s q = if-waiting _ _ a s (λ s. accept s.phase s.come s.go q)
fate {a} Busy s q = if-waiting _ _ a s (λ s. busy s.phase s.come s.go q)
fate {a} Unobtainable s q = if-waiting _ _ a s (λ s. unobtainable s.phase s.come s.go q)
fate {a} {cs = cs} {v = v} (Send e t x) s q = if-linked _ _ a s (λ s. send-tests t x s q (is_ordinary t x) (fits e true t x cs) (ltb (length v) 14) refl refl refl)
fate {a} (Hang-up e) s q = if-linked _ _ a s (λ s. hang-up s.phase s.come s.go s.come-room s.go-room (wires-silent (Teardown ∷ []) (λ t h. refl) q))
fate (Deliver e) s q = handing s q
