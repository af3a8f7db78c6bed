-- The interface box of an address of a sound plan, kind by kind (manual 6.5). Assumes nothing.
use Rattle.std.specs.Prelude.{Option, Some, None}
use mathlib.Core.Path.{◌≡◌, refl, sym, ap, ◌∙◌}
use mathlib.Core.Logic.{⊎_elim}
use mathlib.Core.Bool.{true, false}
use Prim.Native.Nat.{ℕ, ◌≤◌, ◌<◌}
use native.Mathlib.Omega.{arith}
use lib.Dec.{eqb}
use borrow.Author.Tests.{ne_eqb}
use Rattle.typeset.proofs.Bools.{yes_or_no}
use Rattle.plan.specs.declared.Subscriber.{Subscriber}
use Rattle.plan.specs.declared.Plan.{Plan}
use Rattle.plan.specs.Parts.{at, box}
use Rattle.plan.specs.Sound.{sound}
use Rattle.plan.specs.Find.{used, lookup, holder_of, holder_at}
use Rattle.plan.proofs.Lookup.{found-used}
use Rattle.plan.proofs.Holders.{line-one, resource-some, mobile-none}
use Rattle.routing.specs.declared.Callee.{Callee}
use Rattle.routing.specs.declared.Callee.TheVariants.{Line, Trunk, Resource, Error}
use Rattle.routing.specs.Places.{first_listed}
use Rattle.routing.specs.Interface.{is_feature, address_of, box_of, first_box, found_box, interface_at}

record Interface (c : Callee) (a : ℕ) : Type 0 where
  pub no-feature : is_feature c ≡ false
  pub address : address_of c ≡ a

box-interface : (kind n a : ℕ) → Interface (box_of kind n a) a
unfolding box_of
box-interface kind n a =
    ⊎_elim (λ (e : eqb kind 1 ≡ true). record { no-feature = rw e; address = rw e })
    (λ (e : eqb kind 1 ≡ false).
    ⊎_elim (λ (f : eqb kind 2 ≡ true). record { no-feature = rw (e, f); address = rw (e, f) })
    (λ (f : eqb kind 2 ≡ false).
    ⊎_elim (λ (g : eqb kind 3 ≡ true). record { no-feature = rw (e, f, g); address = rw (e, f, g) })
    (λ (g : eqb kind 3 ≡ false). record { no-feature = rw (e, f, g); address = rw (e, f, g) })
    (yes_or_no (eqb kind 3)))
    (yes_or_no (eqb kind 2)))
    (yes_or_no (eqb kind 1))

first-interface : (s : Subscriber) (a : ℕ) → Interface (first_box s a) a
unfolding first_box
first-interface s a =
    ⊎_elim (λ (e : eqb s.count 0 ≡ true). rw e record { no-feature = refl; address = refl })
    (λ (e : eqb s.count 0 ≡ false). rw e (box-interface s.kind (box s 0) a))
    (yes_or_no (eqb s.count 0))

found-interface : (p : Plan) (f : (Option ℕ)) (a : ℕ) → Interface (found_box p f a) a
unfolding found_box
found-interface p (Some i) a = first-interface (at p.subscribers i) a
found-interface p None a = record { no-feature = refl; address = refl }

-- it is never a feature box, and its address is the one looked up
pub interface-no-feature : (p : Plan) (a : ℕ) → is_feature (interface_at p a) ≡ false
unfolding interface_at
interface-no-feature p a = (found-interface p (lookup p a) a).no-feature

pub interface-address : (p : Plan) (a : ℕ) → address_of (interface_at p a) ≡ a
unfolding interface_at
interface-address p a = (found-interface p (lookup p a) a).address

-- it is the first listed box of the subscriber whom the plan shows for the address; nobody lists one
shown_of : (p : Plan) (f : (Option ℕ)) (a : ℕ) → found_box p f a ≡ first_box (holder_of p f) a
unfolding found_box first_box
shown_of p (Some i) a = refl
shown_of p None a = refl

pub interface-shown : (p : Plan) (a : ℕ) {s : Subscriber} → holder_at p a ≡ s → interface_at p a ≡ first_box s a
unfolding interface_at holder_at
interface-shown p a e = shown_of p (lookup p a) a ∙ ap (λ (s : Subscriber). first_box s a) e

-- ---- who has which

pub nobody-error : (p : Plan) (a : ℕ) → lookup p a ≡ None → interface_at p a ≡ Error a
unfolding interface_at found_box
nobody-error p a e = rw e

-- the first listed box as the look-up tells it
pub none-listed : (s : Subscriber) (a : ℕ) → first_listed s ≡ None → first_box s a ≡ Error a
unfolding first_box
none-listed s a e =
    ⊎_elim (λ (yes : eqb s.count 0 ≡ true). rw yes)
    (λ (no : eqb s.count 0 ≡ false).
    let some : first_listed s ≡ Some (s.kind, box s 0) = rw no in
    let never : ◌≡◌ {A = ℕ} 0 1 = cc in
    absurd (omega arith))
    (yes_or_no (eqb s.count 0))

pub one-listed : (s : Subscriber) (a kind n : ℕ) → first_listed s ≡ Some (kind, n) → first_box s a ≡ box_of kind n a
unfolding first_box
one-listed s a kind n e =
    ⊎_elim
    (λ (yes : eqb s.count 0 ≡ true).
    let none : first_listed s ≡ None = rw yes in
    let never : ◌≡◌ {A = ℕ} 0 1 = cc in
    absurd (omega arith))
    (λ (no : eqb s.count 0 ≡ false).
    let some : first_listed s ≡ Some (s.kind, box s 0) = rw no in
    let same : Some (s.kind, box s 0) ≡ Some (kind, n) = sym some ∙ e in
    let listed : (s.kind, box s 0) ≡ (kind, n) = cc in
    let kinds : s.kind ≡ kind = ap (λ (x : ℕ × ℕ). x.0) listed in
    let numbers : box s 0 ≡ n = ap (λ (x : ℕ × ℕ). x.1) listed in
    rw (no, kinds, numbers))
    (yes_or_no (eqb s.count 0))

module _ (p : Plan) (𝓢 : sound p ≡ true) (a i : ℕ) (found : lookup p a ≡ Some i) where
  in_use : i < p.count
  unfolding used
  in_use = omega (arith, found-used p a i found)

  -- a line address has its one line box
  pub line-box : (at p.subscribers i).kind ≡ 1 → interface_at p a ≡ Line (box (at p.subscribers i) 0) a
  unfolding interface_at found_box first_box box_of
  line-box k = rw (found, line-one p 𝓢 i in_use k, k)

  -- a trunk address its first listed box, or the error box
  pub trunk-box : (at p.subscribers i).kind ≡ 2 → 1 ≤ (at p.subscribers i).count → interface_at p a ≡ Trunk (box (at p.subscribers i) 0) a
  unfolding interface_at found_box first_box box_of
  trunk-box k some = rw (found, ne_eqb (at p.subscribers i).count 0 (λ z. absurd (omega (arith, some, z))), k)

  pub trunk-none : (at p.subscribers i).count ≡ 0 → interface_at p a ≡ Error a
  unfolding interface_at found_box first_box
  trunk-none none = rw (found, none)

  -- a resource address its first listed box
  pub resource-box : (at p.subscribers i).kind ≡ 3 → interface_at p a ≡ Resource (box (at p.subscribers i) 0) a
  unfolding interface_at found_box first_box box_of
  resource-box k = rw (found, ne_eqb (at p.subscribers i).count 0 (λ z. absurd (omega (arith, (resource-some p 𝓢 i in_use k).0, z))), k)

  -- a mobile address the error box
  pub mobile-box : (at p.subscribers i).kind ≡ 4 → interface_at p a ≡ Error a
  mobile-box k = trunk-none (mobile-none p 𝓢 i in_use k)
