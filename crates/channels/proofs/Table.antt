-- THE CODE'S TABLE is the two programs and nothing else: every digit of it is where the program goes, 9 where it has no step. Assumes nothing.
use Prim.Native.Nat.{ℕ, zero, suc, ◌+◌, ◌/◌, ◌%◌, ◌<◌}
use mathlib.Core.Path.{◌≡◌, refl, sym}
use mathlib.Core.Bool.{Bool, true, false, not, ◌&&◌, ◌||◌}
use mathlib.Core.List.{List, [], ◌∷◌}
use lib.ListN.{get_or}
use lib.Dec.{T, eqb, ltb, eqb→eq, ltb→lt}
use borrow.Author.Tests.{eqb-true, eqb-false}
use native.Mathlib.Omega.{arith}
use Rattle.channels.specs.Channels.{Arc, «open», unused, program, same, goes, follows, every}
use Rattle.channels.specs.Layout.{table, part, column}

-- a test of all numbers below n
abbrev below : ℕ → (ℕ → Bool) → Bool
below zero f = true
below (suc n) f = f n && below n f

and_left : (a b : Bool) → T (a && b) → T a
and_left true b t = tt
and_left false b t = absurd t

and_right : (a b : Bool) → T (a && b) → T b
and_right true b t = t
and_right false b t = absurd t

below_at : (n : ℕ) (f : ℕ → Bool) (i : ℕ) → T (below n f) → i < n → T (f i)
below_at zero f i t h = absurd (omega arith)
below_at (suc n) f i t h = go (eqb i n) refl (below_at n f i (and_right (f n) (below n f) t))
  where
    go : (b : Bool) → eqb i n ≡ b → (i < n → T (f i)) → T (f i)
    go true e ih = rw (eqb-true i n e) (and_left (f n) (below n f) t)
    go false e ih = let m = eqb-false i n e in ih (omega arith)

-- THE COMPUTATION: both programs, what is sent and what is taken, every state, every kind
abbrev agrees : Bool → Bool → ℕ → ℕ → Bool
agrees o b s k = eqb (get_or table (part o b + s) 0 / column k % 16) (follows o b s k)

all-agree : (o b : Bool) → T (below 9 (λ s. below 7 (agrees o b s)))
unfolding table column follows
all-agree true true = tt
all-agree true false = tt
all-agree false true = tt
all-agree false false = tt

pub in_table : (o b : Bool) (s k : ℕ) → s < 9 → k < 7 → get_or table (part o b + s) 0 / column k % 16 ≡ follows o b s k
in_table o b s k h g =
    eqb→eq (get_or table (part o b + s) 0 / column k % 16) (follows o b s k)
    (below_at 7 (agrees o b s) k (below_at 9 (λ s. below 7 (agrees o b s)) s (all-agree o b) h) g)

-- WHAT HOLDS OF EVERY LINE of a program holds of every step of it.
same-is : (a b : Bool) → T (same a b) → a ≡ b
same-is true true t = refl
same-is true false t = absurd t
same-is false true t = absurd t
same-is false false t = refl

abbrev arc : Bool → ℕ → ℕ → ℕ → Arc
arc b s k n = record { at = s; sends = b; kind = k; to = n }

not-both : true ≡ false → ⊥
not-both e = eqb-false 0 0 e refl

steps-too : (f : Arc → Bool) (as' : List Arc) (b : Bool) (s k : ℕ) → T (every f as') → eqb (goes as' b s k) 9 ≡ false → T (f (arc b s k (goes as' b s k)))
steps-too f [] b s k t e = absurd (not-both e)
steps-too f (a ∷ as') b s k t e =
    go (same a.sends b && (eqb a.at s && eqb a.kind k)) refl e (steps-too f as' b s k (and_right (f a) (every f as') t))
  where
    go : (c : Bool) → (same a.sends b && (eqb a.at s && eqb a.kind k)) ≡ c
        → eqb (elim c [ true ↦ a.to | false ↦ goes as' b s k ]) 9 ≡ false → (eqb (goes as' b s k) 9 ≡ false → T (f (arc b s k (goes as' b s k))))
        → T (f (arc b s k (elim c [ true ↦ a.to | false ↦ goes as' b s k ])))
    go true c e ih =
        let y : T (same a.sends b && (eqb a.at s && eqb a.kind k)) = rw c tt in
        let z = and_right (same a.sends b) (eqb a.at s && eqb a.kind k) y in
        let p = same-is a.sends b (and_left (same a.sends b) (eqb a.at s && eqb a.kind k) y) in
        let q = eqb→eq a.at s (and_left (eqb a.at s) (eqb a.kind k) z) in
        let r = eqb→eq a.kind k (and_right (eqb a.at s) (eqb a.kind k) z) in
        let same-arc : a ≡ arc b s k a.to = λ i. record { at = q i; sends = p i; kind = r i; to = a.to } in
        rw same-arc at (and_left (f a) (every f as') t)
    go false c e ih = ih e

module _ (f : Bool → Arc → Bool) (holds : (o : Bool) → T (every (f o) (program o))) where
  pub step-holds : (o b : Bool) (s k : ℕ) → eqb (follows o b s k) 9 ≡ false → T (f o (arc b s k (follows o b s k)))
  unfolding follows
  step-holds o b s k e = steps-too (f o) (program o) b s k (holds o) e

-- only a channel in a state has a step, and only with a kind of signal;
abbrev both-known : Bool → Arc → Bool
both-known o a = ltb a.at 9 && ltb a.kind 7

all_known : (o : Bool) → T (every (both-known o) (program o))
all_known true = tt
all_known false = tt

pub step-known : (o b : Bool) (s k : ℕ) → eqb (follows o b s k) 9 ≡ false → (s < 9) × (k < 7)
step-known o b s k e =
    let y = step-holds both-known all_known o b s k e in
    (ltb→lt s 9 (and_left (ltb s 9) (ltb k 7) y), ltb→lt k 7 (and_right (ltb s 9) (ltb k 7) y))

-- it leads to a state, and never back to `unused`;
abbrev to-used : Bool → Arc → Bool
to-used o a = ltb 0 a.to && ltb a.to 9

all-used : (o : Bool) → T (every (to-used o) (program o))
all-used true = tt
all-used false = tt

pub step-used : (o b : Bool) (s k : ℕ) → eqb (follows o b s k) 9 ≡ false → (0 < follows o b s k) × (follows o b s k < 9)
step-used o b s k e =
    let y = step-holds to-used all-used o b s k e in (
      ltb→lt 0 (follows o b s k) (and_left (ltb 0 (follows o b s k)) (ltb (follows o b s k) 9) y),
      ltb→lt (follows o b s k) 9 (and_right (ltb 0 (follows o b s k)) (ltb (follows o b s k) 9) y),
    )

-- and open is sent by the opener alone, in `unused`.
abbrev opens-unused : Bool → Arc → Bool
opens-unused o a = not (a.sends && eqb a.kind «open») || (o && eqb a.at unused)

all-opens : (o : Bool) → T (every (opens-unused o) (program o))
all-opens true = tt
all-opens false = tt

pub open-sent : (o : Bool) (s : ℕ) → eqb (follows o true s «open») 9 ≡ false → (o ≡ true) × (s ≡ unused)
open-sent o s e = go o (step-holds opens-unused all-opens o true s «open» e)
  where
    go : (o : Bool) → T (not (true && eqb «open» «open») || (o && eqb s unused)) → (o ≡ true) × (s ≡ unused)
    go true y = (refl, eqb→eq s unused y)
    go false y = absurd y

-- NO STEP of a number that is no state, or with one that is no kind
pub no_step : (o b : Bool) (s k : ℕ) → (s < 9 → k < 7 → ⊥) → 9 ≡ follows o b s k
no_step o b s k h = go (eqb (follows o b s k) 9) refl
  where
    go : (c : Bool) → eqb (follows o b s k) 9 ≡ c → 9 ≡ follows o b s k
    go true c = sym (eqb-true (follows o b s k) 9 c)
    go false c = let y = step-known o b s k c in absurd (h y.0 y.1)
