-- Any two results that a contract of this crate allows are equal, and so are any two contents of the room: read off the contract itself, as the function in
-- src/ states it. Assumes nothing.
use Rattle.std.specs.Prelude.{Result}
use mathlib.Core.Path.{◌≡◌, sym, ◌∙◌}
use mathlib.Core.List.{List}
use Prim.Native.Nat.{ℕ}
use contract.Lifetimes.{Lfts}
use denote.Ref.{MutBor}
use denote.Triple.Clauses.{AtExit}
use borrow.Fn.Kinds.{ended_of}
use Rattle.plan.specs.declared.Plan.{Plan}
use Rattle.planwrite.proofs.write.Reads as write
use Rattle.planwrite.proofs.write.Kinds as write-kinds
use mathlib.Core.Bool.{Bool}
use Rattle.planwrite.proofs.write_tested.Reads as write-tested
use Rattle.planwrite.proofs.write_tested.Kinds as write-tested-kinds
use Rattle.refusal.specs.declared.Refusal.{Refusal}

pub write-exact : (κs : Lfts 1) (plan : Plan) (room : MutBor (List ℕ)) (end end' : AtExit (ended_of 1 write-kinds.ps write-kinds.r) κs) (r s : (Result ℕ Refusal))
    → write.Post κs (plan, (room, tt)) r end → write.Post κs (plan, (room, tt)) s end' → (r ≡ s) × (end.1.0.now ≡ end'.1.0.now)
write-exact κs plan room end end' r s p q = (p.0.0 ∙ sym q.0.0, p.0.1 ∙ sym q.0.1)

-- by a verdict on the plan
pub write-tested-exact : (κs : Lfts 1) (kept : Bool) (plan : Plan) (room : MutBor (List ℕ)) (end end' : AtExit (ended_of 1 write-tested-kinds.ps write-tested-kinds.r) κs) (r s : (Result ℕ Refusal))
    → write-tested.Post κs (kept, (plan, (room, tt))) r end → write-tested.Post κs (kept, (plan, (room, tt))) s end' → (r ≡ s) × (end.1.1.0.now ≡ end'.1.1.0.now)
write-tested-exact κs kept plan room end end' r s p q = (p.0 ∙ sym q.0, p.1 ∙ sym q.1)
