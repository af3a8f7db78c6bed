-- The look-up of an address as the loop of `find` goes through the places, and what it says of any plan. Assumes nothing.
use Rattle.std.specs.Prelude.{Option, Some, None, MatchOption, HoldsAt, length, take, get_or}
use Rattle.std.specs.List.{AllWithin}
use Rattle.plan.specs.declared.Subscriber.{Subscriber}
use mathlib.Core.Path.{◌≡◌, refl, sym, ap, subst, ◌∙◌}
use mathlib.Core.Logic.{⊎_elim, ◌⊎◌, inl, inr}
use mathlib.Core.Bool.{false≢true, Bool, true, false, ◌&&◌, and-false}
use Prim.Native.Nat.{ℕ, ◌<◌, ◌≤◌}
use native.Mathlib.Nat.{le_refl}
use native.Mathlib.Omega.{arith}
use lib.Dec.{eqb, ltb}
use borrow.Author.Tests.{lt-ltb, le-ltb, ne_eqb, ltb-true, ltb-false, eqb-true}
use Rattle.typeset.proofs.Bools.{yes_or_no, and_left, and_right, and-make}
use Rattle.typeset.proofs.Below.{least-found, least-none, least-has, least-min}
use Rattle.plan.specs.declared.Plan.{Plan}
use Rattle.plan.specs.Parts.{legal, given, at, nobody}
use Rattle.std.proofs.lemmas.List.{get_or-take, length-take, get_or_past}
use Rattle.plan.specs.Find.{used, first_with, found_at, lookup}

-- the subscriber at place i has the address
abbrev pub has_address : Plan → ℕ → ℕ → Bool
has_address p a i = eqb (at p.subscribers i).address a

module _ (p : Plan) (a : ℕ) where
  -- the first place in use that has it
  pub lookup-at : given a ≡ true → (i : ℕ) → i < used p → ((k : ℕ) → k < i → has_address p a k ≡ false) → has_address p a i ≡ true → lookup p a ≡ Some i
  unfolding lookup first_with
  lookup-at g i h none e =
      let first : first_with p a ≡ i = least-found (used p) (has_address p a) i none h e in
      rw (g, first, lt-ltb i (used p) h)

  -- no place in use has it
  pub lookup-nothing : ((k : ℕ) → k < used p → has_address p a k ≡ false) → lookup p a ≡ None
  unfolding lookup first_with
  lookup-nothing none =
      let last : first_with p a ≡ used p = least-none (used p) (has_address p a) none in
      let past : (given a && ltb (first_with p a) (used p)) ≡ false =
      ap (λ (k : ℕ). given a && ltb k (used p)) last ∙ ap (λ (b : Bool). given a && b) (le-ltb (used p) (used p) (le_refl (used p))) ∙ and-false (given a) in
      rw past

  -- nobody who is given an address has none
  not-nobody : given a ≡ true → eqb 0 a ≡ false
  unfolding given legal
  not-nobody g = ne_eqb 0 a (λ z. false≢true (sym (subst (λ (n : ℕ). given n ≡ false) z refl) ∙ g))

  -- a place in use that is passed does not have it; a place past all of them has address 0, which is not given
  passed-place : given a ≡ true → (n : ℕ) → AllWithin (λ (s : Subscriber). eqb s.address a ≡ false) (take (used p) p.subscribers) 0 n
      → (k : ℕ) → k < used p → (k < n ⊎ length (take (used p) p.subscribers) ≤ k) → has_address p a k ≡ false
  passed-place g n none k h (inl l) = rw (← get_or-take (used p) p.subscribers k nobody h) (none k nobody (omega arith) l)
  passed-place g n none k h (inr l) =
      let none_here : get_or p.subscribers k nobody ≡ nobody = get_or_past p.subscribers k nobody (let e = length-take (used p) p.subscribers in omega (arith, e, l, h)) in
      rw none_here (not-nobody g)

  -- each place is one of them or past them
  one-of : (k : ℕ) → (k < length (take (used p) p.subscribers)) ⊎ (length (take (used p) p.subscribers) ≤ k)
  one-of k = ⊎_elim (λ e. inl (ltb-true _ _ e)) (λ e. inr (ltb-false _ _ e)) (yes_or_no (ltb k (length (take (used p) p.subscribers))))

  in_use : (i : ℕ) → i < length (take (used p) p.subscribers) → i < used p
  in_use i h = let e = length-take (used p) p.subscribers in omega (arith, e, h)

  -- what `position` answers of the places in use
  pub lookup-position : given a ≡ true → (r : Option ℕ)
      → MatchOption r (AllWithin (λ (s : Subscriber). eqb s.address a ≡ false) (take (used p) p.subscribers) 0 (length (take (used p) p.subscribers)))
      (λ i. (i < length (take (used p) p.subscribers)) × HoldsAt (λ (s : Subscriber). eqb s.address a ≡ true) (take (used p) p.subscribers) i
      × AllWithin (λ (s : Subscriber). eqb s.address a ≡ false) (take (used p) p.subscribers) 0 i)
      → r ≡ lookup p a
  lookup-position g None none = sym (lookup-nothing (λ k h. passed-place g _ none k h (one-of k)))
  lookup-position g (Some i) (h, here, before) = sym (lookup-at g i (in_use i h) (λ k l. passed-place g i before k (omega (arith, l, in_use i h)) (inl l)) (rw (← get_or-take (used p) p.subscribers i nobody (in_use i h)) (here nobody)))

  -- nobody can have it
  pub lookup-not-given : given a ≡ false → lookup p a ≡ None
  unfolding lookup
  lookup-not-given g = rw g

  -- what is found is the first place that has the address, and is in use
  found-is : (i : ℕ) → lookup p a ≡ Some i → (first_with p a ≡ i) × (given a && ltb (first_with p a) (used p) ≡ true)
  unfolding lookup
  found-is i e =
      ⊎_elim
      (λ in_use.
      let here : found_at (given a && ltb (first_with p a) (used p)) (first_with p a) ≡ Some (first_with p a) = rw in_use in
      let there : first_with p a ≡ i = cc in
      (there, in_use))
      (λ past.
      let nowhere : found_at (given a && ltb (first_with p a) (used p)) (first_with p a) ≡ None = rw past in
      let never : ◌≡◌ {A = ℕ} 0 1 = cc in
      absurd (omega arith))
      (yes_or_no (given a && ltb (first_with p a) (used p)))

  pub found-used : (i : ℕ) → lookup p a ≡ Some i → i < used p
  found-used i e =
      let r = found-is i e in
      rw r.0 at (ltb-true (first_with p a) (used p) (and_right (given a) (ltb (first_with p a) (used p)) r.1))

  -- so it is one of the 256 places
  pub found_below : (i : ℕ) → lookup p a ≡ Some i → i < 256
  unfolding used
  found_below i e = omega (arith, found-used i e)

  pub found-given : (i : ℕ) → lookup p a ≡ Some i → given a ≡ true
  found-given i e = and_left (given a) (ltb (first_with p a) (used p)) (found-is i e).1

  pub found-address : (i : ℕ) → lookup p a ≡ Some i → (at p.subscribers i).address ≡ a
  unfolding first_with
  found-address i e =
      let r = found-is i e in
      eqb-true (at p.subscribers i).address a (rw r.0 at (least-has (used p) (has_address p a) (rw r.0 (found-used i e))))

  -- no place before it has the address
  pub found_first : (i : ℕ) → lookup p a ≡ Some i → (k : ℕ) → k < i → has_address p a k ≡ false
  unfolding first_with
  found_first i e k h = least-min (used p) (has_address p a) k (rw (found-is i e).0 h)

  -- where nothing is found no place in use has the address, unless nobody can have it
  pub nothing-has : given a ≡ true → lookup p a ≡ None → (k : ℕ) → k < used p → has_address p a k ≡ false
  unfolding lookup first_with
  nothing-has g e k h =
      ⊎_elim
      (λ in_use.
      let here : found_at (given a && ltb (first_with p a) (used p)) (first_with p a) ≡ Some (first_with p a) = rw (and-make g in_use) in
      let never : ◌≡◌ {A = ℕ} 0 1 = cc in
      absurd (omega arith))
      (λ past. least-min (used p) (has_address p a) k (omega (arith, ltb-false (first_with p a) (used p) past)))
      (yes_or_no (ltb (first_with p a) (used p)))

-- 0 is nobody's address, and neither is a number that is no address
pub zero-not-given : given 0 ≡ false
unfolding given legal
zero-not-given = refl

pub illegal-not-given : (a : ℕ) → legal a ≡ false → given a ≡ false
unfolding given
illegal-not-given a e = rw e
