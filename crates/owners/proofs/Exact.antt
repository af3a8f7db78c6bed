-- Any two results that a contract of this crate allows are equal, and so are any two contents of what was lent: read off the contracts themselves, as the functions in src/ state them. Assumes nothing.
use mathlib.Core.Path.{◌≡◌, sym, ◌∙◌}
use mathlib.Core.List.{List}
use Prim.Native.Nat.{ℕ}
use contract.Lifetimes.{Lfts}
use denote.Ref.{Bor, MutBor}
use denote.Triple.Clauses.{AtExit}
use borrow.Fn.Kinds.{ended_of}
use Rattle.plan.specs.declared.Plan.{Plan}
use Rattle.store.specs.declared.Who.{Who}
use Rattle.std.specs.Prelude.{Result, ⊤}
use Rattle.refusal.specs.declared.Refusal.{Refusal}
use Rattle.owners.proofs.who_by.Reads as who-by
use Rattle.owners.proofs.who_by.Kinds as who-by-kinds
use Rattle.owners.proofs.who.Reads as who
use Rattle.owners.proofs.who.Kinds as who-kinds
use Rattle.owners.proofs.read_as.Reads as read_as
use Rattle.owners.proofs.read_as.Kinds as read-as-kinds
use Rattle.owners.proofs.write_as.Reads as write_as
use Rattle.owners.proofs.write_as.Kinds as write-as-kinds
use Rattle.owners.proofs.delete_as.Reads as delete-as
use Rattle.owners.proofs.delete_as.Kinds as delete-as-kinds

pub who-by-exact : (κs : Lfts 2) (x k : ℕ) (features owners : Bor (List ℕ)) (t a : ℕ) (end end' : AtExit (ended_of 2 who-by-kinds.ps who-by-kinds.r) κs) (r s : Who)
    → who-by.Post κs (x, (k, (features, (owners, (t, (a, tt)))))) r end → who-by.Post κs (x, (k, (features, (owners, (t, (a, tt)))))) s end' → r ≡ s
who-by-exact κs x k features owners t a end end' r s p q = p ∙ sym q

pub who-exact : (κs : Lfts 2) (p : Plan) (features owners : Bor (List ℕ)) (t a : ℕ) (end end' : AtExit (ended_of 2 who-kinds.ps who-kinds.r) κs) (r s : Who)
    → who.Post κs (p, (features, (owners, (t, (a, tt))))) r end → who.Post κs (p, (features, (owners, (t, (a, tt))))) s end' → r ≡ s
who-exact κs p features owners t a end end' r s u v = u ∙ sym v

pub read-as-exact : (κs : Lfts 4) (p : Plan) (features owners : Bor (List ℕ)) (t a : ℕ) (relations rows : Bor (List ℕ)) (n k : ℕ) (end end' : AtExit (ended_of 4 read-as-kinds.ps read-as-kinds.r) κs) (r s : Result ℕ Refusal)
    → read_as.Post κs (p, (features, (owners, (t, (a, (relations, (rows, (n, (k, tt))))))))) r end
    → read_as.Post κs (p, (features, (owners, (t, (a, (relations, (rows, (n, (k, tt))))))))) s end' → r ≡ s
read-as-exact κs p features owners t a relations rows n k end end' r s u v = u ∙ sym v

pub write-as-exact : (κs : Lfts 4) (p : Plan) (features owners : Bor (List ℕ)) (t a : ℕ) (relations : Bor (List ℕ)) (rows : MutBor (List ℕ)) (n k x : ℕ) (end end' : AtExit (ended_of 4 write-as-kinds.ps write-as-kinds.r) κs) (r s : Result ⊤ Refusal)
    → write_as.Post κs (p, (features, (owners, (t, (a, (relations, (rows, (n, (k, (x, tt)))))))))) r end
    → write_as.Post κs (p, (features, (owners, (t, (a, (relations, (rows, (n, (k, (x, tt)))))))))) s end' → (r ≡ s) × (end.1.1.1.1.1.1.0.now ≡ end'.1.1.1.1.1.1.0.now)
write-as-exact κs p features owners t a relations rows n k x end end' r s u v = (u.0 ∙ sym v.0, u.1 ∙ sym v.1)

pub delete-as-exact : (κs : Lfts 4) (p : Plan) (features owners : Bor (List ℕ)) (t a : ℕ) (relations : Bor (List ℕ)) (rows : MutBor (List ℕ)) (n k : ℕ) (end end' : AtExit (ended_of 4 delete-as-kinds.ps delete-as-kinds.r) κs) (r s : Result ⊤ Refusal)
    → delete-as.Post κs (p, (features, (owners, (t, (a, (relations, (rows, (n, (k, tt))))))))) r end
    → delete-as.Post κs (p, (features, (owners, (t, (a, (relations, (rows, (n, (k, tt))))))))) s end' → (r ≡ s) × (end.1.1.1.1.1.1.0.now ≡ end'.1.1.1.1.1.1.0.now)
delete-as-exact κs p features owners t a relations rows n k end end' r s u v = (u.0 ∙ sym v.0, u.1 ∙ sym v.1)
