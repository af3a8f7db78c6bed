-- Any two results that a contract of this crate allows are equal, and so are any two contents of the lent index: read off the contracts themselves, as the functions in src/ state them.
-- Assumes nothing.
use mathlib.Core.Path.{◌≡◌, sym, ◌∙◌}
use mathlib.Core.Bool.{Bool}
use mathlib.Core.List.{List}
use Prim.Native.Nat.{ℕ}
use contract.Lifetimes.{Lfts}
use denote.Ref.{Bor, MutBor}
use denote.Triple.Clauses.{AtExit}
use borrow.Fn.Kinds.{ended_of}
use Rattle.plan.specs.declared.Plan.{Plan}
use Rattle.plan.specs.declared.Region.{Region}
use Rattle.std.specs.Prelude.{Result, ⊤}
use Rattle.refusal.specs.declared.Refusal.{Refusal}
use Rattle.index.proofs.build.Reads as build
use Rattle.index.proofs.build.Kinds as build-kinds
use Rattle.index.proofs.build_tested.Reads as build-tested
use Rattle.index.proofs.build_tested.Kinds as build-tested-kinds
use Rattle.index.proofs.row_for.Reads as row-for
use Rattle.index.proofs.look.Reads as look
use Rattle.index.proofs.look.Kinds as look-kinds
use Rattle.index.proofs.update.Reads as update
use Rattle.index.proofs.update.Kinds as update-kinds
use Rattle.index.proofs.update_tested.Reads as update-tested
use Rattle.index.proofs.update_tested.Kinds as update-tested-kinds

pub build-exact : (κs : Lfts 1) (plan : Plan) (index : MutBor (List (List ℕ))) (end end' : AtExit (ended_of 1 build-kinds.ps build-kinds.r) κs) (r s : Result ⊤ Refusal)
    → build.Post κs (plan, (index, tt)) r end → build.Post κs (plan, (index, tt)) s end' → (r ≡ s) × (end.1.0.now ≡ end'.1.0.now)
build-exact κs plan index end end' r s p q = (p.0 ∙ sym q.0, p.1 ∙ sym q.1)

-- by a verdict on the plan
pub build-tested-exact : (κs : Lfts 1) (kept : Bool) (plan : Plan) (index : MutBor (List (List ℕ))) (end end' : AtExit (ended_of 1 build-tested-kinds.ps build-tested-kinds.r) κs) (r s : Result ⊤ Refusal)
    → build-tested.Post κs (kept, (plan, (index, tt))) r end → build-tested.Post κs (kept, (plan, (index, tt))) s end' → (r ≡ s) × (end.1.1.0.now ≡ end'.1.1.0.now)
build-tested-exact κs kept plan index end end' r s p q = (p.0 ∙ sym q.0, p.1 ∙ sym q.1)

pub row-for-exact : (region : Region) (type : ℕ) (r s : ℕ) → row-for.Post tt (region, (type, tt)) r (region, (type, tt)) → row-for.Post tt (region, (type, tt)) s (region, (type, tt)) → r ≡ s
row-for-exact region type r s p q = p.0 ∙ sym q.0

-- the part that a look-up answers has one content
pub look-exact : (κs : Lfts 1) (index : Bor (List (List ℕ))) (region : Region) (type : ℕ) (end end' : AtExit (ended_of 1 look-kinds.ps look-kinds.r) κs) (r s : Bor (List ℕ))
    → look.Post κs (index, (region, (type, tt))) r end → look.Post κs (index, (region, (type, tt))) s end' → r.now ≡ s.now
look-exact κs index region type end end' r s p q = p ∙ sym (q)

pub update-exact : (κs : Lfts 1) (plan : Plan) (index : MutBor (List (List ℕ))) (address source target : ℕ) (end end' : AtExit (ended_of 1 update-kinds.ps update-kinds.r) κs) (r s : Result Plan Refusal)
    → update.Post κs (plan, (index, (address, (source, (target, tt))))) r end → update.Post κs (plan, (index, (address, (source, (target, tt))))) s end'
    → (r ≡ s) × (end.1.0.now ≡ end'.1.0.now)
update-exact κs plan index address source target end end' r s p q = (p.0 ∙ sym q.0, p.1 ∙ sym q.1)

pub update-tested-exact : (κs : Lfts 1) (kept : Bool) (plan : Plan) (index : MutBor (List (List ℕ))) (address source target : ℕ) (end end' : AtExit (ended_of 1 update-tested-kinds.ps update-tested-kinds.r) κs)
    (r s : Result Plan Refusal)
    → update-tested.Post κs (kept, (plan, (index, (address, (source, (target, tt)))))) r end → update-tested.Post κs (kept, (plan, (index, (address, (source, (target, tt)))))) s end'
    → (r ≡ s) × (end.1.1.0.now ≡ end'.1.1.0.now)
update-tested-exact κs kept plan index address source target end end' r s p q = (p.0 ∙ sym q.0, p.1 ∙ sym q.1)
