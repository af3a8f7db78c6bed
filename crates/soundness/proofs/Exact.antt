-- Any two results that a contract of this crate allows are equal: read off the contracts themselves, as the functions in src/ state them.
-- Assumes nothing.
use Rattle.std.specs.Prelude.{Result, ⊤}
use mathlib.Core.Path.{◌≡◌, sym, ◌∙◌}
use mathlib.Core.Bool.{Bool}
use mathlib.Core.List.{List}
use Prim.Native.Nat.{ℕ}
use Rattle.plan.specs.declared.Subscriber.{Subscriber}
use Rattle.plan.specs.declared.Plan.{Plan}
use Rattle.soundness.proofs.sound.Reads as sound
use Rattle.soundness.proofs.check.Reads as check
use Rattle.soundness.proofs.above.Reads as above
use Rattle.soundness.proofs.fits.Reads as fits
use Rattle.soundness.proofs.fits.Kinds as fits-kinds
use Rattle.soundness.proofs.claim.Reads as claim
use Rattle.soundness.proofs.claim.Kinds as claim-kinds
use contract.Lifetimes.{Lfts}
use denote.Ref.{Bor, MutBor}
use denote.Triple.Clauses.{AtExit}
use borrow.Fn.Kinds.{ended_of}
use Rattle.refusal.specs.declared.Refusal.{Refusal}

pub sound-exact : (plan : Plan) (r s : Bool)
    → sound.Post tt (plan, tt) r (plan, tt) → sound.Post tt (plan, tt) s (plan, tt) → r ≡ s
sound-exact plan r s p q = p ∙ sym q

pub check-exact : (plan : Plan) (r s : (Result ⊤ Refusal))
    → check.Post tt (plan, tt) r (plan, tt) → check.Post tt (plan, tt) s (plan, tt) → r ≡ s
check-exact plan r s p q = p.0 ∙ sym q.0

pub above-exact : (i before address : ℕ) (r s : Bool)
    → above.Post tt (i, (before, (address, tt))) r (i, (before, (address, tt))) → above.Post tt (i, (before, (address, tt))) s (i, (before, (address, tt))) → r ≡ s
above-exact i before address r s p q = p ∙ sym q

-- a table that is read; and one that is written, whose content at the end is what is claimed
pub fits-exact : (κs : Lfts 1) (taken : Bor (List ℕ)) (subscriber : Subscriber) (end : AtExit (ended_of 1 fits-kinds.ps fits-kinds.r) κs) (r s : Bool)
    → fits.Post κs (taken, (subscriber, tt)) r end → fits.Post κs (taken, (subscriber, tt)) s end → r ≡ s
fits-exact κs taken subscriber end r s p q = p ∙ sym q

pub claim-exact : (κs : Lfts 1) (taken : MutBor (List ℕ)) (subscriber : Subscriber) (end end' : AtExit (ended_of 1 claim-kinds.ps claim-kinds.r) κs)
    → claim.Post κs (taken, (subscriber, tt)) tt end → claim.Post κs (taken, (subscriber, tt)) tt end' → end.0.now ≡ end'.0.now
claim-exact κs taken subscriber end end' p q = p ∙ sym q
