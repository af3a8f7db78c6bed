-- Any two results that a contract of this crate allows are equal: read off the contracts themselves, as the functions in src/ state them.
-- Assumes nothing.
use Rattle.std.specs.Prelude.{Option}
use mathlib.Core.Path.{◌≡◌, sym, ◌∙◌}
use mathlib.Core.Bool.{Bool}
use Prim.Native.Nat.{ℕ}
use Rattle.plan.specs.declared.Subscriber.{Subscriber}
use Rattle.plan.specs.declared.Plan.{Plan}
use Rattle.plan.specs.declared.Seen.{Seen}
use denote.RattleType.{RattleType}
use denote.Param.Laws.{Laws}
use mir.Syntax.{Dict}
use contract.Lifetimes.{Lfts}
use denote.Triple.Clauses.{AtExit}
use borrow.Fn.Kinds.{ended_of}
use Rattle.plan.proofs.Region.of.Kinds as of-kinds
use Rattle.plan.specs.declared.Region.{Region}
use Rattle.plan.proofs.Region.of.Reads as of
use Rattle.plan.proofs.legal.Reads as legal
use Rattle.plan.proofs.given.Reads as given
use Rattle.plan.proofs.find.Reads as find
use Rattle.plan.proofs.no_subscriber.Reads as no-subscriber
use Rattle.plan.proofs.look.Reads as look

pub legal-exact : (address : ℕ) (r s : Bool)
    → legal.Post tt (address, tt) r (address, tt) → legal.Post tt (address, tt) s (address, tt) → r ≡ s
legal-exact address r s p q = p ∙ sym q

pub given-exact : (address : ℕ) (r s : Bool)
    → given.Post tt (address, tt) r (address, tt) → given.Post tt (address, tt) s (address, tt) → r ≡ s
given-exact address r s p q = p ∙ sym q

pub find-exact : (plan : Plan) (address : ℕ) (r s : (Option ℕ))
    → find.Post tt (plan, (address, tt)) r (plan, (address, tt)) → find.Post tt (plan, (address, tt)) s (plan, (address, tt)) → r ≡ s
find-exact plan address r s p q = p ∙ sym q

pub no-subscriber-exact : (r s : Subscriber) → no-subscriber.Post tt tt r tt → no-subscriber.Post tt tt s tt → r ≡ s
no-subscriber-exact r s p q = p ∙ sym q

pub look-exact : (plan : Plan) (first second : ℕ) (r s : Seen)
    → look.Post tt (plan, (first, (second, tt))) r (plan, (first, (second, tt))) → look.Post tt (plan, (first, (second, tt))) s (plan, (first, (second, tt))) → r ≡ s
look-exact plan first second r s p q = p ∙ sym q

-- of values of any type
pub of-exact : (T : RattleType) (law : Laws T) (d : Dict) (κs : Lfts 1) (self : Region) (source target r s : T.Denot) (end : AtExit (ended_of 1 (of-kinds.ps T law) (of-kinds.r T law)) κs)
    → of.Post T law d κs (self, (source, (target, tt))) r end → of.Post T law d κs (self, (source, (target, tt))) s end → r ≡ s
of-exact T law d κs self source target r s end p q = p ∙ sym q
