-- ALL TUNNELS: the channels of two ends and the signals under way both ways, seen from one end. A signal touches one channel, and is under way in one tunnel. Assumes nothing.
use Prim.Native.Nat.{ℕ, zero, suc, ◌%◌, ◌<◌}
use mathlib.Core.Path.{◌≡◌, refl, sym, ap, ◌∙◌}
use mathlib.Core.Bool.{Bool, true, false, cond, not}
use mathlib.Core.List.{List, [], ◌∷◌, ◌++◌, append-nil}
use native.Mathlib.Omega.{arith}
use lib.ListN.{length, get_or, set, replicate}
use lib.Seq.{get_or-set_same, get_or-set_other}
use lib.Dec.{T, eqb}
use borrow.Author.Tests.{eqb-true, eqb-false, eq-eqb, ne_eqb, not-true}
use Rattle.channels.specs.Channels.{follows}
use Rattle.channels.proofs.Table.{step-known}
use Rattle.channels.proofs.Lines.{Fit, fit-unused, fit-nowhere, fit-turned, fit-sends, fit-takes, GoesOn, fit-goes-on}
use Rattle.ends.specs.declared.Side.{Side}
use Rattle.ends.specs.declared.Side.TheVariants.{Caller, Callee}
use Rattle.ends.specs.declared.Status.{Status}
use Rattle.ends.specs.declared.Status.TheVariants.{Special, Open, Oack, Onack, Ready, Close, Closeack}
use Rattle.ends.specs.declared.Signal.{Signal}
use Rattle.ends.specs.declared.Signal.TheVariants.{Upack, Ordinary, Teardown, Downack}
use Rattle.ends.specs.Ends.{other, opens, kind_of, channel_at, next_channel, fits, passed, no_channel_signal}
use Rattle.tunnels.specs.Tunnels.{under}

-- THE INVARIANT, seen from the end s: its channels, the other's; what waits for it, what waits for the other
pub record Wires (s : Side) (cs ds : List ℕ) (w v : List Signal) : Type 0 where
  pub at : (t : ℕ) → 0 < t → Fit (opens s t) (channel_at t cs) (channel_at t ds) (under t w) (under t v)

-- signals that are in no tunnel from 1 on
abbrev pub Silent : List Signal → Type 0
Silent xs = (t : ℕ) → 0 < t → under t xs ≡ []

-- a signal fit for tunnel 0, where that is its tunnel
abbrev pub sound : ℕ → Status → Bool
sound t x = cond (eqb t 0) (no_channel_signal x) true

pub under-append : (t : ℕ) (w v : List Signal) → under t (w ++ v) ≡ under t w ++ under t v
under-append t [] v = refl
under-append t (Upack ∷ w) v = under-append t w v
under-append t (Teardown ∷ w) v = under-append t w v
under-append t (Downack ∷ w) v = under-append t w v
under-append t (Ordinary u x ∷ w) v = go (eqb u t) (under-append t w v)
  where
    go : (b : Bool) → under t (w ++ v) ≡ under t w ++ under t v
        → cond b (kind_of x ∷ under t (w ++ v)) (under t (w ++ v)) ≡ cond b (kind_of x ∷ under t w) (under t w) ++ under t v
    go true ih = ap (◌∷◌ (kind_of x)) ih
    go false ih = ih

pos : {t : ℕ} → eqb t 0 ≡ false → 0 < t
pos {t} e = let n = eqb-false t 0 e in omega arith

-- EVERY TUNNEL UNUSED
unused-at : (o : Bool) (n t : ℕ) → Fit o (get_or (replicate n 0) t 9) (get_or (replicate n 0) t 9) [] []
unused-at o zero t = fit-nowhere o
unused-at o (suc n) zero = fit-unused o
unused-at o (suc n) (suc t) = unused-at o n t

pub wires-unused : (s : Side) (n : ℕ) → Wires s (replicate n 0) (replicate n 0) [] []
wires-unused s n = record { at = λ t h. unused-at (opens s t) n t }

-- SEEN FROM THE OTHER END
pub opens-other : (s : Side) (t : ℕ) → not (opens s t) ≡ opens (other s) t
opens-other Caller t = refl
opens-other Callee t = go (eqb (t % 2) 1)
  where
    go : (b : Bool) → not (not b) ≡ b
    go true = refl
    go false = refl

pub wires-turned : {s : Side} {cs ds : List ℕ} {w v : List Signal} → Wires s cs ds w v → Wires (other s) ds cs v w
wires-turned {s} f = record { at = λ t h. rw (opens-other s t) at (fit-turned (opens s t) (f.at t h)) }

-- SIGNALS IN NO TUNNEL
pub wires-silent : {s : Side} {cs ds : List ℕ} {w v : List Signal} (xs : List Signal) → Silent xs → Wires s cs ds w v → Wires s cs ds w (v ++ xs)
wires-silent {v = v} xs q f = record { at = λ t h. rw (under-append t v xs ∙ ap (◌++◌ (under t v)) (q t h) ∙ append-nil (under t v)) (f.at t h) }

-- ONE TUNNEL'S CHANNEL
-- a channel that has a step is there
there : (cs : List ℕ) (t : ℕ) → get_or cs t 9 < 9 → t < length cs
there [] t h = absurd (omega arith)
there (c ∷ cs) zero h = omega arith
there (c ∷ cs) (suc t) h = let n = there cs t h in omega arith

true-is : (b : Bool) → T b → b ≡ true
true-is true t = refl
true-is false t = absurd t

-- what a step does to a tunnel: in its own the channel is the next, and in another nothing changes
module _ (cs : List ℕ) (t n : ℕ) where
  pub own-channel : get_or cs t 9 < 9 → channel_at t (set cs t n) ≡ n
  own-channel h = get_or-set_same cs t n 9 (there cs t h)

  pub other-channel : (u : ℕ) → eqb t u ≡ false → channel_at u (set cs t n) ≡ channel_at u cs
  other-channel u e = get_or-set_other cs t u n 9 (λ p. eqb-false t u e (sym p))

-- A SIGNAL IS SENT
pub wires-sends : {s : Side} {cs ds : List ℕ} {w v : List Signal} (t : ℕ) (x : Status) → fits s true t x cs ≡ true
    → Wires s cs ds w v → Wires s (passed s true (Ordinary t x) cs) ds w (v ++ Ordinary t x ∷ [])
wires-sends {s} {cs} {ds} {w} {v} t x f q = go (eqb t 0) refl f
  where
    own : eqb t 0 ≡ false → eqb (next_channel s true t x cs) 9 ≡ false
        → Fit (opens s t) (channel_at t (set cs t (next_channel s true t x cs))) (channel_at t ds) (under t w) (under t (v ++ Ordinary t x ∷ []))
    own z e =
        let h : 0 < t = pos z in
        rw (own-channel cs t (next_channel s true t x cs) (step-known (opens s t) true (channel_at t cs) (kind_of x) e).0, under-append t v (Ordinary t x ∷ []), eq-eqb t t refl)
        (fit-sends (kind_of x) e (q.at t h))

    at-tunnel : eqb t 0 ≡ false → eqb (next_channel s true t x cs) 9 ≡ false → (u : ℕ) → 0 < u → (b : Bool) → eqb t u ≡ b
        → Fit (opens s u) (channel_at u (set cs t (next_channel s true t x cs))) (channel_at u ds) (under u w) (under u (v ++ Ordinary t x ∷ []))
    at-tunnel z e u h true p = rw (← eqb-true t u p) (own z e)
    at-tunnel z e u h false p = rw (other-channel cs t (next_channel s true t x cs) u p, under-append u v (Ordinary t x ∷ []), p, append-nil (under u v)) (q.at u h)

    go : (b : Bool) → eqb t 0 ≡ b → cond b (no_channel_signal x) (not (eqb (next_channel s true t x cs) 9)) ≡ true
        → Wires s (cond b cs (set cs t (next_channel s true t x cs))) ds w (v ++ Ordinary t x ∷ [])
    go true z e = wires-silent (Ordinary t x ∷ []) (λ u h. rw (ne_eqb t u (λ p. omega (arith, eqb-true t 0 z)))) q
    go false z e = record { at = λ u h. at-tunnel z (not-true (eqb (next_channel s true t x cs) 9) e) u h (eqb t u) refl }

-- A SIGNAL IS TAKEN
pub wires-takes : {s : Side} {cs ds : List ℕ} {t : ℕ} {x : Status} {w v : List Signal} → sound t x ≡ true → Wires s cs ds (Ordinary t x ∷ w) v
    → (fits s false t x cs ≡ true) × Wires s (passed s false (Ordinary t x) cs) ds w v
wires-takes {s} {cs} {ds} {t} {x} {w} {v} f q = go (eqb t 0) refl f
  where
    own : eqb t 0 ≡ false
        → T (not (eqb (next_channel s false t x cs) 9)) × Fit (opens s t) (next_channel s false t x cs) (channel_at t ds) (under t w) (under t v)
    own z = fit-takes (rw (eq-eqb t t refl) at (q.at t (pos z)))

    at-tunnel : eqb t 0 ≡ false → (u : ℕ) → 0 < u → (b : Bool) → eqb t u ≡ b
        → Fit (opens s u) (channel_at u (set cs t (next_channel s false t x cs))) (channel_at u ds) (under u w) (under u v)
    at-tunnel z u h true p =
        let e = not-true (eqb (next_channel s false t x cs) 9) (true-is (not (eqb (next_channel s false t x cs) 9)) (own z).0) in
        let k = (step-known (opens s t) false (channel_at t cs) (kind_of x) e).0 in
        let r : Fit (opens s t) (channel_at t (set cs t (next_channel s false t x cs))) (channel_at t ds) (under t w) (under t v) = rw (own-channel cs t (next_channel s false t x cs) k) (own z).1 in
        rw (← eqb-true t u p) r
    at-tunnel z u h false p = rw (other-channel cs t (next_channel s false t x cs) u p) (rw p at (q.at u h))

    go : (b : Bool) → eqb t 0 ≡ b → cond b (no_channel_signal x) true ≡ true
        → (cond b (no_channel_signal x) (not (eqb (next_channel s false t x cs) 9)) ≡ true) × Wires s (cond b cs (set cs t (next_channel s false t x cs))) ds w v
    go true z e = (e, record { at = λ u h. rw (ne_eqb t u (λ p. omega (arith, eqb-true t 0 z))) at (q.at u h) })
    go false z e = (true-is (not (eqb (next_channel s false t x cs) 9)) (own z).0, record { at = λ u h. at-tunnel z u h (eqb t u) refl })

-- what is fit when it is sent is fit for tunnel 0, where that is its tunnel
pub fits-sound : (s : Side) (t : ℕ) (x : Status) (cs : List ℕ) → fits s true t x cs ≡ true → sound t x ≡ true
fits-sound s t x cs f = go (eqb t 0) f
  where
    go : (b : Bool) → cond b (no_channel_signal x) (not (eqb (next_channel s true t x cs) 9)) ≡ true → cond b (no_channel_signal x) true ≡ true
    go true e = e
    go false e = refl

-- WHERE A TUNNEL CAN GO ON, seen from the end s
-- a signal of a kind
sign : (k : ℕ) → k < 7 → (x : Status) × (kind_of x ≡ k)
sign zero h = (Open, refl)
sign (suc zero) h = (Oack, refl)
sign (suc (suc zero)) h = (Onack, refl)
sign (suc (suc (suc zero))) h = (Ready, refl)
sign (suc (suc (suc (suc zero)))) h = (Close, refl)
sign (suc (suc (suc (suc (suc zero))))) h = (Closeack, refl)
sign (suc (suc (suc (suc (suc (suc zero)))))) h = (Special 0, refl)
sign (suc (suc (suc (suc (suc (suc (suc k))))))) h = absurd (omega arith)

-- an end whose program has a step for it may send a signal of the kind
pub may_send : (s : Side) (cs : List ℕ) (t : ℕ) → 0 < t → (k : ℕ) → k < 7 → T (not (eqb (follows (opens s t) true (channel_at t cs) k) 9))
    → (x : Status) × (fits s true t x cs ≡ true)
may_send s cs t h k l y =
    let x = sign k l in
    (x.0, rw (ne_eqb t 0 (λ p. omega arith), x.1) (true-is (not (eqb (follows (opens s t) true (channel_at t cs) k) 9)) y))

pub wires-go-on : {s : Side} {cs ds : List ℕ} {w v : List Signal} → Wires s cs ds w v → (t : ℕ) → 0 < t
    → GoesOn (opens s t) (channel_at t cs) (channel_at t ds) (under t w) (under t v)
wires-go-on {s} f t h = fit-goes-on (opens s t) (f.at t h)
