-- Any two results that a contract of this crate allows are equal, and so are any two contents of what was lent: read off the contracts themselves, as the functions in src/ state them. Assumes nothing.
use mathlib.Core.Path.{◌≡◌, sym, ◌∙◌}
use mathlib.Core.List.{List}
use Prim.Native.Nat.{ℕ}
use contract.Lifetimes.{Lfts}
use denote.Ref.{Bor, MutBor}
use denote.Triple.Clauses.{AtExit}
use borrow.Fn.Kinds.{ended_of}
use Rattle.answers.specs.declared.Answer.{Answer}
use Rattle.dfc_store.proofs.dfc_data_read.Reads as data-read
use Rattle.dfc_store.proofs.dfc_data_read.Kinds as data-read-kinds
use Rattle.dfc_store.proofs.dfc_data_write.Reads as data-write
use Rattle.dfc_store.proofs.dfc_data_write.Kinds as data-write-kinds
use Rattle.dfc_store.proofs.dfc_data_delete.Reads as data-delete
use Rattle.dfc_store.proofs.dfc_data_delete.Kinds as data-delete-kinds

pub data-read-exact : (κs : Lfts 5) (file features owners : Bor (List ℕ)) (t a : ℕ) (relations rows : Bor (List ℕ)) (n k : ℕ) (end end' : AtExit (ended_of 5 data-read-kinds.ps data-read-kinds.r) κs) (r s : Answer)
    → data-read.Post κs (file, (features, (owners, (t, (a, (relations, (rows, (n, (k, tt))))))))) r end
    → data-read.Post κs (file, (features, (owners, (t, (a, (relations, (rows, (n, (k, tt))))))))) s end' → r ≡ s
data-read-exact κs file features owners t a relations rows n k end end' r s u v = u ∙ sym v

pub data-write-exact : (κs : Lfts 5) (file features owners : Bor (List ℕ)) (t a : ℕ) (relations : Bor (List ℕ)) (rows : MutBor (List ℕ)) (n k x : ℕ) (end end' : AtExit (ended_of 5 data-write-kinds.ps data-write-kinds.r) κs) (r s : Answer)
    → data-write.Post κs (file, (features, (owners, (t, (a, (relations, (rows, (n, (k, (x, tt)))))))))) r end
    → data-write.Post κs (file, (features, (owners, (t, (a, (relations, (rows, (n, (k, (x, tt)))))))))) s end' → (r ≡ s) × (end.1.1.1.1.1.1.0.now ≡ end'.1.1.1.1.1.1.0.now)
data-write-exact κs file features owners t a relations rows n k x end end' r s u v = (u.0 ∙ sym v.0, u.1 ∙ sym v.1)

pub data-delete-exact : (κs : Lfts 5) (file features owners : Bor (List ℕ)) (t a : ℕ) (relations : Bor (List ℕ)) (rows : MutBor (List ℕ)) (n k : ℕ) (end end' : AtExit (ended_of 5 data-delete-kinds.ps data-delete-kinds.r) κs) (r s : Answer)
    → data-delete.Post κs (file, (features, (owners, (t, (a, (relations, (rows, (n, (k, tt))))))))) r end
    → data-delete.Post κs (file, (features, (owners, (t, (a, (relations, (rows, (n, (k, tt))))))))) s end' → (r ≡ s) × (end.1.1.1.1.1.1.0.now ≡ end'.1.1.1.1.1.1.0.now)
data-delete-exact κs file features owners t a relations rows n k end end' r s u v = (u.0 ∙ sym v.0, u.1 ∙ sym v.1)
