-- What an operation does, case by case. Assumes nothing.
use Rattle.std.specs.Prelude.{Ok, Err, Some, None}
use mathlib.Core.Path.{◌≡◌, sym, ap}
use mathlib.Core.Logic.{⊎_elim}
use mathlib.Core.List.{List}
use Prim.Native.Nat.{ℕ, ◌+◌, ◌<◌, ◌≤◌}
use native.Mathlib.Omega.{arith}
use lib.Dec.{ltb}
use borrow.Author.Tests.{ltb-true, lt-ltb, le-ltb}
use Rattle.typeset.proofs.Bools.{yes_or_no}
use Rattle.store.specs.declared.Who.{Who}
use Rattle.refusal.specs.declared.Refusal.TheVariants.{Closed, StoreFull}
use Rattle.store.specs.Words.{data_row, no_row, data_row_at, with_row, first_for, first_free}
use Rattle.store.specs.Access.{access_in}
use Rattle.store.specs.Operations.{Answer, StoreOperation, read, write, delete, Effect, gives, relation_of, key_of, added_at, effect_at, effect_by, effect}

-- what an operation says, and what it leaves
pub settled : {t : Effect} {a : Answer} {z : List ℕ} → t ≡ gives a z → (a ≡ t.answer) × (z ≡ t.rows)
settled e = (ap (λ (x : Effect). x.answer) (sym e), ap (λ (x : Effect). x.rows) (sym e))

-- only the 64 relations have rows
pub rows-below : (relations : List ℕ) (w : Who) (r o : ℕ) → access_in relations w r ≡ Some o → r < 64
unfolding access_in
rows-below relations w r o e =
    ⊎_elim (λ h. ltb-true r 64 h)
    (λ h. let none : None ≡ Some o = rw h at e in let z : ◌≡◌ {A = ℕ} 0 1 = cc in absurd (omega arith))
    (yes_or_no (ltb r 64))

module _ (relations b : List ℕ) (w : Who) (c : StoreOperation) where
  pub shut : access_in relations w (relation_of c) ≡ None → effect relations b w c ≡ gives (Err Closed) b
  unfolding effect effect_by
  shut e = rw e

  pub opened : (o : ℕ) → access_in relations w (relation_of c) ≡ Some o → {i : ℕ} → i ≡ first_for b (relation_of c + 1) o (key_of c) → effect relations b w c ≡ effect_at b i o c
  unfolding effect effect_by
  opened o e p = rw (e, p)

-- where the row stands at the place i, or nowhere
module _ (b : List ℕ) (i o : ℕ) where
  pub read_found : (r k : ℕ) → i < 1024 → effect_at b i o (read r k) ≡ gives (Ok (Some (data_row_at b i).number)) b
  unfolding effect_at
  read_found r k h = rw (lt-ltb i 1024 h)

  pub read-absent : (r k : ℕ) → 1024 ≤ i → effect_at b i o (read r k) ≡ gives (Err Closed) b
  unfolding effect_at
  read-absent r k h = rw (le-ltb i 1024 h)

  pub delete-found : (r k : ℕ) → i < 1024 → effect_at b i o (delete r k) ≡ gives (Ok None) (with_row b i no_row)
  unfolding effect_at
  delete-found r k h = rw (lt-ltb i 1024 h)

  pub delete-absent : (r k : ℕ) → 1024 ≤ i → effect_at b i o (delete r k) ≡ gives (Err Closed) b
  unfolding effect_at
  delete-absent r k h = rw (le-ltb i 1024 h)

  pub write-found : (r k n : ℕ) → i < 1024 → effect_at b i o (write r k n) ≡ gives (Ok None) (with_row b i (data_row (r + 1) o k n))
  unfolding effect_at
  write-found r k n h = rw (lt-ltb i 1024 h)

  pub write-added : (r k n : ℕ) → 1024 ≤ i → {f : ℕ} → f ≡ first_free b → f < 1024 → effect_at b i o (write r k n) ≡ gives (Ok None) (with_row b f (data_row (r + 1) o k n))
  unfolding effect_at added_at
  write-added r k n h {f} e l = rw (le-ltb i 1024 h, ← e, lt-ltb f 1024 l)

  pub write-full : (r k n : ℕ) → 1024 ≤ i → {f : ℕ} → f ≡ first_free b → 1024 ≤ f → effect_at b i o (write r k n) ≡ gives (Err StoreFull) b
  unfolding effect_at added_at
  write-full r k n h {f} e l = rw (le-ltb i 1024 h, ← e, le-ltb f 1024 l)
