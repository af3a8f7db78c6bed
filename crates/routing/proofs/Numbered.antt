-- The outcome of routing in document 01's numbers and places: 23, 5, 18, then the caller's own, each exactly when its line holds and nothing earlier does. Assumes nothing.
use Rattle.std.specs.Prelude.{Result, Ok, Err, ⊤}
use mathlib.Core.Path.{◌≡◌, refl, ap, ◌∙◌}
use mathlib.Core.Logic.{⊎_elim}
use mathlib.Core.Bool.{true, false}
use Prim.Native.Nat.{ℕ}
use Rattle.typeset.proofs.Bools.{yes_or_no}
use Rattle.plan.specs.declared.Plan.{Plan}
use Rattle.plan.specs.Sound.{sound}
use Rattle.setup.specs.declared.Setup.{Setup}
use Rattle.setup.specs.Setups.{well_formed}
use Rattle.routing.specs.declared.Callee.{Callee}
use Rattle.routing.specs.declared.Routed.{Routed}
use Rattle.routing.specs.Steps.{callee_of, received_of, left_of}
use Rattle.refusal.specs.Numbers.{◌>>=◌, number_said, place_said}
use Rattle.routing.specs.Routing.{roomy, settled_by, outcome, outcome_by, answered, answer, answer_by, number_given, place_given}
use Rattle.refusal.specs.declared.Refusal.{Refusal}

then-number : (later : Result ⊤ Refusal) (c : Callee) → number_said (later >>= λ ok. Ok c) ≡ number_said later
then-number (Ok _) c = refl
then-number (Err r) c = refl

then-place : (later : Result ⊤ Refusal) (c : Callee) → place_said (later >>= λ ok. Ok c) ≡ place_said later
then-place (Ok _) c = refl
then-place (Err r) c = refl

module _ (p : Plan) (out : Setup) (later : (Result ⊤ Refusal)) (n m : ℕ) where
  pub route-number : number_said (outcome p out later n m) ≡ number_given p out later n m
  unfolding outcome_by settled_by number_given
  route-number =
      ⊎_elim (λ (a : sound p ≡ true).
      ⊎_elim (λ (b : well_formed p out ≡ true).
      ⊎_elim (λ (d : roomy n m ≡ true). rw (a, b, d) (then-number later (callee_of p out)))
      (λ (d : roomy n m ≡ false). rw (a, b, d))
      (yes_or_no (roomy n m)))
      (λ (b : well_formed p out ≡ false). rw (a, b))
      (yes_or_no (well_formed p out)))
      (λ (a : sound p ≡ false). rw a)
      (yes_or_no (sound p))

  pub route-place : place_said (outcome p out later n m) ≡ place_given p out later n m
  unfolding outcome_by settled_by place_given
  route-place =
      ⊎_elim (λ (a : sound p ≡ true).
      ⊎_elim (λ (b : well_formed p out ≡ true).
      ⊎_elim (λ (d : roomy n m ≡ true). rw (a, b, d) (then-place later (callee_of p out)))
      (λ (d : roomy n m ≡ false). rw (a, b, d))
      (yes_or_no (roomy n m)))
      (λ (b : well_formed p out ≡ false). rw (a, b))
      (yes_or_no (well_formed p out)))
      (λ (a : sound p ≡ false). rw a)
      (yes_or_no (sound p))

number-answered : (o : Result Callee Refusal) (s : Setup) (n : ℕ) → number_said (answered o s n) ≡ number_said o
number-answered (Ok c) s n = refl
number-answered (Err r) s n = refl

place-answered : (o : Result Callee Refusal) (s : Setup) (n : ℕ) → place_said (answered o s n) ≡ place_said o
place-answered (Ok c) s n = refl
place-answered (Err r) s n = refl

-- what is answered has this number and this place
pub said : (p : Plan) (out : Setup) (later : Result ⊤ Refusal) (n m : ℕ) (r : Result Routed Refusal) → r ≡ answer p out later n m
    → (number_said r ≡ number_given p out later n m) × (place_said r ≡ place_given p out later n m)
unfolding answer_by
said p out later n m r e = (
  ap (λ (a : Result Routed Refusal). number_said a) e ∙ number-answered (outcome p out later n m) (received_of p out) (left_of p out) ∙ route-number p out later n m,
  ap (λ (a : Result Routed Refusal). place_said a) e ∙ place-answered (outcome p out later n m) (received_of p out) (left_of p out) ∙ route-place p out later n m,
)
