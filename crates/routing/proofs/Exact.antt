-- Any two results that a contract of this crate allows are equal, and so are any two contents of the two lists: read off the contracts themselves, as the functions in src/ state
-- them. Assumes nothing.
use Rattle.std.specs.Prelude.{Result, Ok, Err, ⊤}
use mathlib.Core.Path.{◌≡◌, sym, ap, ◌∙◌}
use mathlib.Core.List.{List}
use Prim.Native.Nat.{ℕ}
use contract.Lifetimes.{Lfts}
use denote.Ref.{MutBor}
use denote.Triple.Clauses.{AtExit}
use borrow.Fn.Kinds.{ended_of}
use Rattle.plan.specs.declared.Plan.{Plan}
use Rattle.plan.specs.declared.Seen.{Seen}
use Rattle.plan.specs.Find.{seen}
use Rattle.setup.specs.declared.Setup.{Setup}
use Rattle.refusal.specs.declared.Refusal.{Refusal}
use Rattle.routing.specs.declared.Routed.{Routed}
use Rattle.std.specs.Prelude.{is_ok}
use lib.ListN.{length}
use Rattle.routing.specs.Steps.{target1}
use Rattle.refusal.specs.Numbers.{number_said, place_said}
use Rattle.routing.specs.Routing.{number_given, place_given}
use Rattle.routing.proofs.Numbered.{said}
use Rattle.routing.proofs.extracted.Reads as extracted
use Rattle.routing.proofs.route.Reads as route
use Rattle.routing.proofs.route.Kinds as route-kinds
use Rattle.routing.proofs.route_unless.Reads as route-unless
use Rattle.routing.proofs.route_unless.Kinds as route-unless-kinds
use mathlib.Core.Bool.{Bool}
use Rattle.routing.proofs.route_tested.Reads as route-tested
use Rattle.routing.proofs.route_tested.Kinds as route-tested-kinds
use Rattle.routing.proofs.route_seen.Reads as route-seen
use Rattle.routing.proofs.route_seen.Kinds as route-seen-kinds

pub extracted-exact : (out : Setup) (r s : ℕ) → extracted.Post tt (out, tt) r (out, tt) → extracted.Post tt (out, tt) s (out, tt) → r ≡ s
extracted-exact out r s p q = p ∙ sym q

pub route-exact : (κs : Lfts 2) (plan : Plan) (out : Setup) (source target : MutBor (List ℕ)) (end end' : AtExit (ended_of 2 route-kinds.ps route-kinds.r) κs) (r s : Result Routed Refusal)
    → route.Post κs (plan, (out, (source, (target, tt)))) r end → route.Post κs (plan, (out, (source, (target, tt)))) s end'
    → (r ≡ s) × (end.1.1.0.now ≡ end'.1.1.0.now) × (end.1.1.1.0.now ≡ end'.1.1.1.0.now)
route-exact κs plan out source target end end' r s p q = (p.0 ∙ sym q.0, p.1 ∙ sym q.1, p.2 ∙ sym q.2)

pub route-unless-exact : (κs : Lfts 2) (plan : Plan) (out : Setup) (later : (Result ⊤ Refusal)) (source target : MutBor (List ℕ)) (end end' : AtExit (ended_of 2 route-unless-kinds.ps route-unless-kinds.r) κs) (r s : Result Routed Refusal)
    → route-unless.Post κs (plan, (out, (later, (source, (target, tt))))) r end → route-unless.Post κs (plan, (out, (later, (source, (target, tt))))) s end'
    → (r ≡ s) × (end.1.1.1.0.now ≡ end'.1.1.1.0.now) × (end.1.1.1.1.0.now ≡ end'.1.1.1.1.0.now)
route-unless-exact κs plan out later source target end end' r s p q = (p.0 ∙ sym q.0, p.1 ∙ sym q.1, p.2 ∙ sym q.2)

-- and each result that the contract allows has document 01's number and place
pub route-numbered : (κs : Lfts 2) (plan : Plan) (out : Setup) (source target : MutBor (List ℕ)) (end : AtExit (ended_of 2 route-kinds.ps route-kinds.r) κs) (r : Result Routed Refusal)
    → route.Post κs (plan, (out, (source, (target, tt)))) r end
    → (number_said r ≡ number_given plan out (Ok tt) (length source.now) (length target.now))
    × (place_said r ≡ place_given plan out (Ok tt) (length source.now) (length target.now))
route-numbered κs plan out source target end r p = said plan out (Ok tt) (length source.now) (length target.now) r p.0

pub route-unless-numbered : (κs : Lfts 2) (plan : Plan) (out : Setup) (later : (Result ⊤ Refusal)) (source target : MutBor (List ℕ)) (end : AtExit (ended_of 2 route-unless-kinds.ps route-unless-kinds.r) κs) (r : Result Routed Refusal)
    → route-unless.Post κs (plan, (out, (later, (source, (target, tt))))) r end
    → (number_said r ≡ number_given plan out later (length source.now) (length target.now))
    × (place_said r ≡ place_given plan out later (length source.now) (length target.now))
route-unless-numbered κs plan out later source target end r p = said plan out later (length source.now) (length target.now) r p.0

-- by a verdict on the plan
pub route-tested-exact : (κs : Lfts 2) (kept : Bool) (plan : Plan) (out : Setup) (later : (Result ⊤ Refusal)) (source target : MutBor (List ℕ)) (end end' : AtExit (ended_of 2 route-tested-kinds.ps route-tested-kinds.r) κs) (r s : Result Routed Refusal)
    → route-tested.Post κs (kept, (plan, (out, (later, (source, (target, tt)))))) r end → route-tested.Post κs (kept, (plan, (out, (later, (source, (target, tt)))))) s end'
    → (r ≡ s) × (end.1.1.1.1.0.now ≡ end'.1.1.1.1.0.now) × (end.1.1.1.1.1.0.now ≡ end'.1.1.1.1.1.0.now)
route-tested-exact κs kept plan out later source target end end' r s p q = (p.0 ∙ sym q.0, p.1 ∙ sym q.1, p.2 ∙ sym q.2)

-- by what a plan shows: where some plan shows it
pub route-seen-exact : (κs : Lfts 2) (kept : Bool) (v : Seen) (out : Setup) (later : (Result ⊤ Refusal)) (source target : MutBor (List ℕ)) (end end' : AtExit (ended_of 2 route-seen-kinds.ps route-seen-kinds.r) κs) (r s : Result Routed Refusal)
    → route-seen.Post κs (kept, (v, (out, (later, (source, (target, tt)))))) r end → route-seen.Post κs (kept, (v, (out, (later, (source, (target, tt)))))) s end'
    → (plan : Plan) → seen plan out.source (target1 out) ≡ v
    → (r ≡ s) × (end.1.1.1.1.0.now ≡ end'.1.1.1.1.0.now) × (end.1.1.1.1.1.0.now ≡ end'.1.1.1.1.1.0.now)
route-seen-exact κs kept v out later source target end end' r s p q plan shows =
    let of-p = p.0 plan shows in
    let of-q = q.0 plan shows in
    (of-p.0 ∙ sym of-q.0, of-p.1 ∙ sym of-q.1, of-p.2 ∙ sym of-q.2)

-- whatever part of a plan it is handed: where a setup is refused, both lists are as they were
pub route-seen-kept : (κs : Lfts 2) (kept : Bool) (v : Seen) (out : Setup) (later : (Result ⊤ Refusal)) (source target : MutBor (List ℕ)) (end : AtExit (ended_of 2 route-seen-kinds.ps route-seen-kinds.r) κs) (r : Result Routed Refusal) (x : Refusal)
    → route-seen.Post κs (kept, (v, (out, (later, (source, (target, tt)))))) r end → r ≡ Err x
    → (end.1.1.1.1.0.now ≡ source.now) × (end.1.1.1.1.1.0.now ≡ target.now)
route-seen-kept κs kept v out later source target end r x p e = (p.1.0 (ap (λ (a : Result Routed Refusal). is_ok a) e), p.1.1 (ap (λ (a : Result Routed Refusal). is_ok a) e))
