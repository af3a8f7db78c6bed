-- What another box does to a data row that is closed to a box, the box can't see. Assumes nothing.
use Rattle.std.specs.Prelude.{Some}
use mathlib.Core.Path.{◌≡◌, refl, sym}
use mathlib.Core.List.{List}
use mathlib.Core.Bool.{true}
use Prim.Native.Nat.{ℕ, ◌+◌, ◌-◌}
use native.Mathlib.Omega.{arith}
use lib.ListN.{length}
use Rattle.typeset.proofs.Bools.{fails}
use Rattle.store.specs.declared.Who.{Who}
use Rattle.store.specs.Words.{data_row, is_for}
use Rattle.store.specs.Access.{access_in}
use Rattle.store.specs.Operations.{StoreOperation, relation_of, key_of, effect}
use Rattle.store.specs.Agree.{Agree}
use Rattle.store.proofs.Seen.{same-request}
use Rattle.store.proofs.Rules.{other-numbers-stay}

-- WHAT OTHERS DO TO CLOSED ROWS IS NOT SEEN: an operation of a box w' in a relation where w has no rows, or those of another owner, leaves a store that agrees for w with the one before
module _ (w w' : Who) (R b : List ℕ) (long : length b ≡ 4096) (c : StoreOperation)
    (d : (o : ℕ) → access_in R w' (relation_of c) ≡ Some o → access_in R w (relation_of c) ≡ Some o → ⊥) where
  not-its-row : (r o k o' : ℕ) → is_for (r + 1) o k (data_row (relation_of c + 1) o' (key_of c) 0) ≡ true → access_in R w' (relation_of c) ≡ Some o' → access_in R w r ≡ Some o → ⊥
  not-its-row r o k o' p e' e =
      let there : relation_of c + 1 - 1 ≡ relation_of c = omega arith in
      let here : r + 1 - 1 ≡ r = omega arith in
      same-request (λ m x y. access_in R w (m - 1) ≡ Some x → ⊥) (relation_of c + 1) o' (key_of c) (r + 1) o k p (rw there (d o' e')) (rw here e)

  pub others-unseen : Agree w R R b (effect R b w' c).rows
  others-unseen = record {
    access = λ r. refl;
    same = λ r o e k. sym (other-numbers-stay w' R b long c r o k (λ o' e'. fails (is_for (r + 1) o k (data_row (relation_of c + 1) o' (key_of c) 0)) (λ p. not-its-row r o k o' p e' e)));
  }
