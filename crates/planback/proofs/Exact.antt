-- Any two results that a contract of this crate allows are equal, and so are any two contents of the room: read off the contract itself, as the function in
-- src/ states it. (`held` hands nothing back.) Assumes nothing.
use Rattle.std.specs.Prelude.{Result}
use mathlib.Core.Path.{◌≡◌, sym, ◌∙◌}
use mathlib.Core.List.{List}
use Prim.Native.Nat.{ℕ}
use contract.Lifetimes.{Lfts}
use denote.Ref.{Bor, MutBor}
use denote.Triple.Clauses.{AtExit}
use borrow.Fn.Kinds.{ended_of}
use Rattle.plan.specs.declared.Plan.{Plan}
use Rattle.plan.specs.declared.Seen.{Seen}
use Rattle.planback.proofs.there_and_back.Reads as there_and_back
use Rattle.planback.proofs.there_and_back.Kinds as there-and-back-kinds
use Rattle.planback.proofs.read.Reads as read
use Rattle.planback.proofs.read.Kinds as read-kinds
use Rattle.planback.proofs.scan.Reads as scan
use Rattle.planback.proofs.scan.Kinds as scan-kinds
use Rattle.planback.proofs.rewrite.Reads as rewrite
use Rattle.planback.proofs.rewrite.Kinds as rewrite-kinds
use Rattle.refusal.specs.declared.Refusal.{Refusal}

pub there-and-back-exact : (κs : Lfts 1) (plan : Plan) (room : MutBor (List ℕ)) (end end' : AtExit (ended_of 1 there-and-back-kinds.ps there-and-back-kinds.r) κs) (r s : Result Plan Refusal)
    → there_and_back.Post κs (plan, (room, tt)) r end → there_and_back.Post κs (plan, (room, tt)) s end' → (r ≡ s) × (end.1.0.now ≡ end'.1.0.now)
there-and-back-exact κs plan room end end' r s p q = (p.0 ∙ sym q.0, p.1 ∙ sym q.1)

pub read-exact : (κs : Lfts 1) (file : Bor (List ℕ)) (end end' : AtExit (ended_of 1 read-kinds.ps read-kinds.r) κs) (r s : Result Plan Refusal)
    → read.Post κs (file, tt) r end → read.Post κs (file, tt) s end' → r ≡ s
read-exact κs file end end' r s p q = p.0 ∙ sym q.0

pub scan-exact : (κs : Lfts 1) (file : Bor (List ℕ)) (first second : ℕ) (end end' : AtExit (ended_of 1 scan-kinds.ps scan-kinds.r) κs) (r s : Result Seen Refusal)
    → scan.Post κs (file, (first, (second, tt))) r end → scan.Post κs (file, (first, (second, tt))) s end' → r ≡ s
scan-exact κs file first second end end' r s p q = p.0 ∙ sym q.0

pub rewrite-exact : (κs : Lfts 2) (file : Bor (List ℕ)) (room : MutBor (List ℕ)) (end end' : AtExit (ended_of 2 rewrite-kinds.ps rewrite-kinds.r) κs) (r s : Result ℕ Refusal)
    → rewrite.Post κs (file, (room, tt)) r end → rewrite.Post κs (file, (room, tt)) s end' → (r ≡ s) × (end.1.0.now ≡ end'.1.0.now)
rewrite-exact κs file room end end' r s p q = (p.0 ∙ sym q.0, p.1 ∙ sym q.1)
