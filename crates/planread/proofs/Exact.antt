-- Any two results that a contract of this crate allows are equal: read off the contract itself, as the function in src/ states it. Assumes nothing.
use Rattle.std.specs.Prelude.{Result, ⊤}
use mathlib.Core.Path.{◌≡◌, sym, ◌∙◌}
use mathlib.Core.List.{List}
use Prim.Native.Nat.{ℕ}
use contract.Lifetimes.{Lfts}
use denote.Ref.{Bor}
use denote.Triple.Clauses.{AtExit}
use borrow.Fn.Kinds.{ended_of}
use Rattle.plan.specs.declared.Plan.{Plan}
use Rattle.plan.specs.declared.Seen.{Seen}
use Rattle.planread.proofs.read.Reads as read
use Rattle.planread.proofs.read.Kinds as read-kinds
use Rattle.planread.proofs.scan.Reads as scan
use Rattle.planread.proofs.scan.Kinds as scan-kinds
use Rattle.planread.proofs.verdict.Reads as verdict
use Rattle.planread.proofs.verdict.Kinds as verdict-kinds
use Rattle.refusal.specs.declared.Refusal.{Refusal}

pub read-exact : (κs : Lfts 1) (bytes : Bor (List ℕ)) (end end' : AtExit (ended_of 1 read-kinds.ps read-kinds.r) κs) (r s : Result Plan Refusal)
    → read.Post κs (bytes, tt) r end → read.Post κs (bytes, tt) s end' → r ≡ s
read-exact κs bytes end end' r s p q = p.0 ∙ sym q.0

pub scan-exact : (κs : Lfts 1) (bytes : Bor (List ℕ)) (first second : ℕ) (end end' : AtExit (ended_of 1 scan-kinds.ps scan-kinds.r) κs) (r s : Result Seen Refusal)
    → scan.Post κs (bytes, (first, (second, tt))) r end → scan.Post κs (bytes, (first, (second, tt))) s end' → r ≡ s
scan-exact κs bytes first second end end' r s p q = p ∙ sym q

pub verdict-exact : (κs : Lfts 1) (bytes : Bor (List ℕ)) (end end' : AtExit (ended_of 1 verdict-kinds.ps verdict-kinds.r) κs) (r s : (Result ⊤ Refusal))
    → verdict.Post κs (bytes, tt) r end → verdict.Post κs (bytes, tt) s end' → r ≡ s
verdict-exact κs bytes end end' r s p q = p.0 ∙ sym q.0
