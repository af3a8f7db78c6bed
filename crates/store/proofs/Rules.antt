-- The access rules as manual 7 and 02's ask 12 say them; an operation touches no row but its own; what is written is read. Assumes nothing.
use Rattle.std.specs.Prelude.{Option, Ok, Err, Some, None}
use mathlib.Core.Path.{◌≡◌, refl, sym, ap, ◌∙◌}
use mathlib.Core.Logic.{◌⊎◌, inl, inr, ⊎_elim}
use mathlib.Core.Bool.{Bool, true, false, cond, ◌&&◌, ◌||◌}
use mathlib.Core.List.{List, [], ◌∷◌}
use Prim.Native.Nat.{ℕ, ◌+◌, ◌<◌}
use native.Mathlib.Omega.{arith}
use lib.Dec.{eqb}
use lib.ListN.{length}
use borrow.Author.Tests.{eqb-true, eqb-false, eq-eqb, ne_eqb, lt-ltb}
use Rattle.typeset.proofs.Bools.{or_cases}
use Rattle.store.specs.declared.Who.{Who}
use Rattle.refusal.specs.declared.Refusal.TheVariants.{Closed}
use Rattle.store.specs.Words.{Relation, relation_at, data_row, is_for}
use Rattle.store.specs.Access.{Allowed, whose, access_to, access_in}
use Rattle.store.specs.Operations.{Answer, StoreOperation, read, write, relation_of, key_of, effect}
use Rattle.store.specs.Agree.{numbers_for, has_room}
use Rattle.store.specs.Seen.{answer_seen, numbers_left}
use Rattle.store.proofs.Effects.{rows-below, shut, opened}
use Rattle.store.proofs.Seen.{told, kept, made-length}

-- ---- who may use a row

never : {o : ℕ} → None ≡ Some o → ⊥
never e = let z : ◌≡◌ {A = ℕ} 0 1 = cc in omega arith

by-feature : (x y : Bool) (a : Option ℕ) (o : ℕ) → cond x None (cond y a None) ≡ Some o → (x ≡ false) × (y ≡ true) × (a ≡ Some o)
by-feature true y a o e = absurd (never e)
by-feature false false a o e = absurd (never e)
by-feature false true a o e = (refl, refl, e)

by-customer : (c n o : ℕ) → cond (eqb c 0) (Some 0) (cond (eqb n 0) None (Some n)) ≡ Some o → ((c ≡ 0) × (o ≡ 0)) ⊎ ((c ≡ 0 → ⊥) × (n ≡ 0 → ⊥) × (o ≡ n))
by-customer c n o e = by (eqb c 0) (eqb n 0) refl refl e
  where
    by : (x y : Bool) → eqb c 0 ≡ x → eqb n 0 ≡ y → cond x (Some 0) (cond y None (Some n)) ≡ Some o → ((c ≡ 0) × (o ≡ 0)) ⊎ ((c ≡ 0 → ⊥) × (n ≡ 0 → ⊥) × (o ≡ n))
    by true y p q e = inl (eqb-true c 0 p, cc)
    by false true p q e = absurd (never e)
    by false false p q e = inr (eqb-false c 0 p, eqb-false n 0 q, cc)

pub access-rule : (R : List ℕ) (w : Who) (r o : ℕ) → access_in R w r ≡ Some o → (r < 64) × Allowed (relation_at R r) w o
unfolding access_in access_to whose
access-rule R w r o e =
    let low : r < 64 = rows-below R w r o e in
    let f = (relation_at R r).feature in
    let c = (relation_at R r).customers in
    let given : access_to (relation_at R r) w ≡ Some o = rw (lt-ltb r 64 low) at e in
    let p = by-feature (eqb f 0 && eqb c 0) (eqb f 0 || eqb f w.feature) (whose c w) o given in
    let q = by-customer c w.owner o p.2 in (
      low,
      record {
        either = λ a b. some f c a b p.0;
        feature = ⊎_elim (λ t. inl (eqb-true f 0 t)) (λ t. inr (eqb-true f w.feature t)) (or_cases (eqb f 0) (eqb f w.feature) p.1);
        customer = λ d. ⊎_elim (λ t. absurd (d t.0)) (λ t. (t.1, t.2)) q;
        nobody = λ d. ⊎_elim (λ t. t.1) (λ t. absurd (t.0 d)) q;
      },
    )
  where
    some : (f c : ℕ) → f ≡ 0 → c ≡ 0 → (eqb f 0 && eqb c 0) ≡ false → ⊥
    some f c a b e = let no : true ≡ false = sym (rw (eq-eqb f 0 a, eq-eqb c 0 b) refl) ∙ e in let z : ◌≡◌ {A = ℕ} 0 1 = cc in omega arith

-- and wherever these hold, the box has that access
allowed-access : (x : Relation) (w : Who) (o : ℕ) → Allowed x w o → access_to x w ≡ Some o
unfolding access_to whose
allowed-access z w o a = by (eqb z.feature 0) (eqb z.customers 0) refl refl
  where
    feature-is : eqb z.feature 0 ≡ false → eqb z.feature w.feature ≡ true
    feature-is p = ⊎_elim (λ e. absurd (eqb-false z.feature 0 p e)) (λ e. eq-eqb z.feature w.feature e) a.feature

    owner-is : eqb z.customers 0 ≡ false → cond (eqb w.owner 0) None (Some w.owner) ≡ Some o
    owner-is q = let who = a.customer (eqb-false z.customers 0 q) in rw (ne_eqb w.owner 0 who.0) (ap (λ (n : ℕ). Some n) (sym who.1))

    by : (x y : Bool) → eqb z.feature 0 ≡ x → eqb z.customers 0 ≡ y
        → cond (x && y) None (cond (x || eqb z.feature w.feature) (cond y (Some 0) (cond (eqb w.owner 0) None (Some w.owner))) None) ≡ Some o
    by true true p q = absurd (a.either (eqb-true z.feature 0 p) (eqb-true z.customers 0 q))
    by true false p q = owner-is q
    by false true p q = rw (feature-is p) (ap (λ (n : ℕ). Some n) (sym (a.nobody (eqb-true z.customers 0 q))))
    by false false p q = rw (feature-is p) (owner-is q)

pub access-rule-back : (R : List ℕ) (w : Who) (r o : ℕ) → r < 64 → Allowed (relation_at R r) w o → access_in R w r ≡ Some o
unfolding access_in
access-rule-back R w r o low a = rw (lt-ltb r 64 low) (allowed-access (relation_at R r) w o a)

-- "A BOX READS OR WRITES A ROW ONLY IF": an operation that is not refused by 70 is in a relation where the box is allowed the rows of an owner
pub only-if-allowed : (w : Who) (R b : List ℕ) (c : StoreOperation) → ((effect R b w c).answer ≡ Err Closed → ⊥) → (o : ℕ) × (relation_of c < 64) × Allowed (relation_at R (relation_of c)) w o
only-if-allowed w R b c used = by (access_in R w (relation_of c)) refl
  where
    by : (a : Option ℕ) → access_in R w (relation_of c) ≡ a → (o : ℕ) × (relation_of c < 64) × Allowed (relation_at R (relation_of c)) w o
    by None e = absurd (used (rw (shut R b w c e)))
    by (Some o) e = let rule = access-rule R w (relation_of c) o e in (o, rule.0, rule.1)

-- ---- an operation touches no row but the one that it names, in the relation that it names, of the owner that the box has there

module _ (w : Who) (R b : List ℕ) (long : length b ≡ 4096) where
  pub other-numbers-stay : (c : StoreOperation) (r o k : ℕ) → ((o' : ℕ) → access_in R w (relation_of c) ≡ Some o' → is_for (r + 1) o k (data_row (relation_of c + 1) o' (key_of c) 0) ≡ false)
      → numbers_for (effect R b w c).rows (r + 1) o k ≡ numbers_for b (r + 1) o k
  other-numbers-stay c r o k d = by (access_in R w (relation_of c)) refl
    where
      by : (a : Option ℕ) → access_in R w (relation_of c) ≡ a → numbers_for (effect R b w c).rows (r + 1) o k ≡ numbers_for b (r + 1) o k
      by None e = rw (shut R b w c e)
      by (Some o') e = rw (opened R b w c o' e refl) (kept b long o' r o k c (d o' e))

  -- ---- what is written is read

  pub read_back : (r k n : ℕ) → (effect R b w (write r k n)).answer ≡ Ok None → (effect R (effect R b w (write r k n)).rows w (read r k)).answer ≡ Ok (Some n)
  read_back r k n = by (access_in R w r) refl
    where
      lost : {A : Type 0} → ◌≡◌ {A = Answer} (Err Closed) (Ok None) → A
      lost q = let z : ◌≡◌ {A = ℕ} 0 1 = cc in absurd (omega arith)

      seen : (f g : Bool) (l : List ℕ) → answer_seen (write r k n) f l ≡ Ok None → answer_seen (read r k) g (numbers_left (write r k n) f l) ≡ Ok (Some n)
      seen true g [] q = refl
      seen false g [] q = let z : ◌≡◌ {A = ℕ} 0 1 = cc in absurd (omega arith)
      seen f g (x ∷ l) q = refl

      by : (a : Option ℕ) → access_in R w r ≡ a → (effect R b w (write r k n)).answer ≡ Ok None → (effect R (effect R b w (write r k n)).rows w (read r k)).answer ≡ Ok (Some n)
      by None e q = lost (rw (shut R b w (write r k n) e) at q)
      by (Some o) e q =
          let is = opened R b w (write r k n) o e refl in
          let t = told b long o (write r k n) in
          let z = (effect R b w (write r k n)).rows in
          let long' : length z ≡ 4096 = rw is (made-length b long o (write r k n)) in
          let now : numbers_for z (r + 1) o k ≡ numbers_left (write r k n) (has_room b) (numbers_for b (r + 1) o k) = rw is t.1 in
          let done : answer_seen (write r k n) (has_room b) (numbers_for b (r + 1) o k) ≡ Ok None = sym t.0 ∙ (rw is at q) in
          rw (opened R z w (read r k) o e refl, (told z long' o (read r k)).0, now) (seen (has_room b) (has_room z) (numbers_for b (r + 1) o k) done)
