-- Any two results that a contract of this crate allows are equal, and so are any two contents of what was lent: read off the contracts themselves, as the functions in src/ state them. Assumes nothing.
use Rattle.std.specs.Prelude.{Option, Result, ⊤}
use mathlib.Core.Path.{◌≡◌, sym, ◌∙◌}
use mathlib.Core.List.{List}
use Prim.Native.Nat.{ℕ}
use contract.Lifetimes.{Lfts}
use denote.Ref.{Bor, MutBor}
use denote.Triple.Clauses.{AtExit}
use borrow.Fn.Kinds.{ended_of}
use Rattle.refusal.specs.declared.Refusal.{Refusal}
use Rattle.store.specs.declared.Who.{Who}
use Rattle.store.proofs.access_in.Reads as access-in
use Rattle.store.proofs.access_in.Kinds as access-in-kinds
use Rattle.store.proofs.read.Reads as read
use Rattle.store.proofs.read.Kinds as read-kinds
use Rattle.store.proofs.write.Reads as write
use Rattle.store.proofs.write.Kinds as write-kinds
use Rattle.store.proofs.delete.Reads as delete
use Rattle.store.proofs.delete.Kinds as delete-kinds

pub access-in-exact : (κs : Lfts 1) (relations : Bor (List ℕ)) (w : Who) (n : ℕ) (end end' : AtExit (ended_of 1 access-in-kinds.ps access-in-kinds.r) κs) (r s : Option ℕ)
    → access-in.Post κs (relations, (w, (n, tt))) r end → access-in.Post κs (relations, (w, (n, tt))) s end' → r ≡ s
access-in-exact κs relations w n end end' r s p q = p ∙ sym q

pub read-exact : (κs : Lfts 2) (relations rows : Bor (List ℕ)) (w : Who) (n k : ℕ) (end end' : AtExit (ended_of 2 read-kinds.ps read-kinds.r) κs) (r s : Result ℕ Refusal)
    → read.Post κs (relations, (rows, (w, (n, (k, tt))))) r end → read.Post κs (relations, (rows, (w, (n, (k, tt))))) s end' → r ≡ s
read-exact κs relations rows w n k end end' r s p q = p ∙ sym q

pub write-exact : (κs : Lfts 2) (relations : Bor (List ℕ)) (rows : MutBor (List ℕ)) (w : Who) (n k x : ℕ) (end end' : AtExit (ended_of 2 write-kinds.ps write-kinds.r) κs) (r s : Result ⊤ Refusal)
    → write.Post κs (relations, (rows, (w, (n, (k, (x, tt)))))) r end → write.Post κs (relations, (rows, (w, (n, (k, (x, tt)))))) s end'
    → (r ≡ s) × (end.1.0.now ≡ end'.1.0.now)
write-exact κs relations rows w n k x end end' r s p q = (p.0 ∙ sym q.0, p.1 ∙ sym q.1)

pub delete-exact : (κs : Lfts 2) (relations : Bor (List ℕ)) (rows : MutBor (List ℕ)) (w : Who) (n k : ℕ) (end end' : AtExit (ended_of 2 delete-kinds.ps delete-kinds.r) κs) (r s : Result ⊤ Refusal)
    → delete.Post κs (relations, (rows, (w, (n, (k, tt))))) r end → delete.Post κs (relations, (rows, (w, (n, (k, tt))))) s end'
    → (r ≡ s) × (end.1.0.now ≡ end'.1.0.now)
delete-exact κs relations rows w n k end end' r s p q = (p.0 ∙ sym q.0, p.1 ∙ sym q.1)
