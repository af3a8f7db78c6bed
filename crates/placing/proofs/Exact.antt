-- Any two results that a contract of this crate allows are equal, and so are any two contents of what was lent. Each line is stated of the contract itself: of `clauses`, which the toolchain reads off the function's `ensures`, at one
-- entry and at any two results and exits. And each result has document 01's number and place (`-numbered`). Assumes nothing.
use Rattle.std.specs.Prelude.{Result, Ok, Err, ⊤}
use Prim.Native.Nat.{ℕ}
use mathlib.Core.Path.{◌≡◌, refl, sym, ap, ◌∙◌}
use mathlib.Core.List.{List, [], ◌∷◌}
use lib.ListN.{length}
use seplogic.Ra.Ura.{Ura}
use base.Logic.{SProp, ent}
use prog.Memory.{Memory}
use prog.Routine.{Routine}
use types.Logic.{Logic}
use contract.Monad.{Fun, conj, fact, fact_mono}
use contract.Lifetimes.{Lfts}
use denote.Triple.Clauses.{AtExit}
use denote.Triple.Entry.{Res, Args}
use Rattle.walk.proofs.Exact.{any-two}
use Rattle.refusal.specs.Numbers.{number_said, place_said}
use Rattle.routing.specs.Routing.{number_given, place_given}
use Rattle.routing.proofs.Numbered.{said}
use Rattle.call.specs.declared.Call.{Call}
use Rattle.plan.specs.declared.Plan.{Plan}
use Rattle.setup.specs.declared.Setup.{Setup}
use Rattle.routing.specs.declared.Routed.{Routed}
use Rattle.placing.specs.declared.Placed.{Placed}
use Rattle.placing.specs.Rows.{later_for, answer_in, answered, placed_in}
use Rattle.placing.specs.contracts.place_port as place-port
use Rattle.placing.specs.contracts.place as place
use Rattle.placing.proofs.later_for.Reads as later-for
use Rattle.refusal.specs.declared.Refusal.{Refusal}

-- what is answered has the number and the place of what routing gave
as-routed : (row : List Call) (o : Result Routed Refusal) → (number_said (answered row o) ≡ number_said o) × (place_said (answered row o) ≡ place_said o)
as-routed row (Ok a) = (refl, refl)
as-routed row (Err r) = (refl, refl)

numbered : (row : List Call) (p : Plan) (out : Setup) (n m : ℕ) (r : Result Placed Refusal) → r ≡ placed_in row p out n m
    → (number_said r ≡ number_given p out (later_for row) n m) × (place_said r ≡ place_given p out (later_for row) n m)
numbered row p out n m r e =
    let o = as-routed row (answer_in row p out n m) in
    let s = said p out (later_for row) n m (answer_in row p out n m) refl in
    (ap number_said e ∙ o.0 ∙ s.0, ap place_said e ∙ o.1 ∙ s.1)

module _ {M : Type 1} {𝓤 : Ura M} (𝓛 : Logic 𝓤) (mem : Memory → SProp 𝓤) (run : Routine → Fun 𝓤) where
  pub place-port-exact : (κs : Lfts (place-port.signature).lifetimes) (a : Args place-port.signature κs) (g h : (place-port.clauses 𝓛 mem run κs a).ghost) (r s : Res place-port.signature κs) (e f : AtExit place-port.ended κs)
      → ent 𝓤 (conj 𝓤 ((place-port.clauses 𝓛 mem run κs a).ensures g r e) ((place-port.clauses 𝓛 mem run κs a).ensures h s f)) (fact 𝓤 ((r ≡ s) × (e.0.now ≡ f.0.now) × (e.1.1.1.0.now ≡ f.1.1.1.0.now) × (e.1.1.1.1.0.now ≡ f.1.1.1.1.0.now)))
  place-port-exact κs a g h r s e f = any-two 𝓛 ((r ≡ s) × (e.0.now ≡ f.0.now) × (e.1.1.1.0.now ≡ f.1.1.1.0.now) × (e.1.1.1.1.0.now ≡ f.1.1.1.1.0.now)) (λ p q. (p.0 ∙ sym q.0, p.1 ∙ sym q.1, p.2 ∙ sym q.2, p.3 ∙ sym q.3))

  pub place-exact : (κs : Lfts (place.signature).lifetimes) (a : Args place.signature κs) (g h : (place.clauses 𝓛 mem run κs a).ghost) (r s : Res place.signature κs) (e f : AtExit place.ended κs)
      → ent 𝓤 (conj 𝓤 ((place.clauses 𝓛 mem run κs a).ensures g r e) ((place.clauses 𝓛 mem run κs a).ensures h s f)) (fact 𝓤 ((r ≡ s) × (e.0.now ≡ f.0.now) × (e.1.1.1.0.now ≡ f.1.1.1.0.now) × (e.1.1.1.1.0.now ≡ f.1.1.1.1.0.now)))
  place-exact κs a g h r s e f = any-two 𝓛 ((r ≡ s) × (e.0.now ≡ f.0.now) × (e.1.1.1.0.now ≡ f.1.1.1.0.now) × (e.1.1.1.1.0.now ≡ f.1.1.1.1.0.now)) (λ p q. (p.0 ∙ sym q.0, p.1 ∙ sym q.1, p.2 ∙ sym q.2, p.3 ∙ sym q.3))

  -- AND EACH RESULT that a contract allows has document 01's number and place: 23, 5, 18, then the row's own
  pub place-port-numbered : (κs : Lfts (place-port.signature).lifetimes) (a : Args place-port.signature κs) (g : (place-port.clauses 𝓛 mem run κs a).ghost) (r : Res place-port.signature κs) (e : AtExit place-port.ended κs)
      → ent 𝓤 ((place-port.clauses 𝓛 mem run κs a).ensures g r e) (fact 𝓤 ((number_said r ≡ number_given a.1.0 a.1.1.0 (later_for (a.0.now ∷ [])) (length a.1.1.1.0.now) (length a.1.1.1.1.0.now)) × (place_said r ≡ place_given a.1.0 a.1.1.0 (later_for (a.0.now ∷ [])) (length a.1.1.1.0.now) (length a.1.1.1.1.0.now))))
  place-port-numbered κs a g r e = fact_mono 𝓤 _ ((number_said r ≡ number_given a.1.0 a.1.1.0 (later_for (a.0.now ∷ [])) (length a.1.1.1.0.now) (length a.1.1.1.1.0.now)) × (place_said r ≡ place_given a.1.0 a.1.1.0 (later_for (a.0.now ∷ [])) (length a.1.1.1.0.now) (length a.1.1.1.1.0.now))) (λ p. numbered (a.0.now ∷ []) a.1.0 a.1.1.0 (length a.1.1.1.0.now) (length a.1.1.1.1.0.now) r p.0)

  pub place-numbered : (κs : Lfts (place.signature).lifetimes) (a : Args place.signature κs) (g : (place.clauses 𝓛 mem run κs a).ghost) (r : Res place.signature κs) (e : AtExit place.ended κs)
      → ent 𝓤 ((place.clauses 𝓛 mem run κs a).ensures g r e) (fact 𝓤 ((number_said r ≡ number_given a.1.0 a.1.1.0 (later_for a.0.now) (length a.1.1.1.0.now) (length a.1.1.1.1.0.now)) × (place_said r ≡ place_given a.1.0 a.1.1.0 (later_for a.0.now) (length a.1.1.1.0.now) (length a.1.1.1.1.0.now))))
  place-numbered κs a g r e = fact_mono 𝓤 _ ((number_said r ≡ number_given a.1.0 a.1.1.0 (later_for a.0.now) (length a.1.1.1.0.now) (length a.1.1.1.1.0.now)) × (place_said r ≡ place_given a.1.0 a.1.1.0 (later_for a.0.now) (length a.1.1.1.0.now) (length a.1.1.1.1.0.now))) (λ p. numbered a.0.now a.1.0 a.1.1.0 (length a.1.1.1.0.now) (length a.1.1.1.1.0.now) r p.0)

pub later-for-exact : (n i : ℕ) (r s : (Result ⊤ Refusal)) → later-for.Post tt (n, (i, tt)) r (n, (i, tt)) → later-for.Post tt (n, (i, tt)) s (n, (i, tt)) → r ≡ s
later-for-exact n i r s p q = p ∙ sym q
