-- What a plan shows of an address says all that the operations ask: whether somebody has it, and who. Of any plan. Assumes nothing.
use Rattle.std.specs.Prelude.{Option, Some, None}
use mathlib.Core.Path.{◌≡◌, refl, sym, ap, ◌∙◌}
use mathlib.Core.Logic.{⊎_elim}
use mathlib.Core.Bool.{true, false, not}
use Prim.Native.Nat.{ℕ, ◌+◌, ◌≤◌, ◌<◌}
use native.Mathlib.Nat.{not-suc-le-zero}
use native.Mathlib.Omega.{arith}
use lib.Dec.{eqb}
use borrow.Author.Tests.{eq-eqb, ne_eqb}
use Rattle.typeset.specs.Sets.{every}
use Rattle.typeset.proofs.Bools.{yes_or_no, and_right, not-true}
use Rattle.typeset.proofs.Laws.{split}
use Rattle.plan.specs.declared.Types.{Types}
use Rattle.plan.specs.declared.Subscriber.{Subscriber}
use Rattle.plan.specs.declared.Plan.{Plan}
use Rattle.plan.specs.declared.Seen.{Seen}
use Rattle.plan.specs.Parts.{legal, given, at, no_subscriber}
use Rattle.plan.specs.Rules.{address_given}
use Rattle.plan.specs.Sound.{own_sound, subscriber_sound}
use Rattle.plan.specs.Find.{used, lookup, holder_of, holder_at, seen}
use Rattle.plan.proofs.Subscribers.{own_at, own-address, ascending}
use Rattle.plan.proofs.Lookup.{has_address, lookup-at, lookup-nothing, lookup-not-given, found-used, found-given, found_first, found-address, nothing-has}

module _ (p : Plan) (a : ℕ) where
  pub holder-found : (i : ℕ) → lookup p a ≡ Some i → holder_at p a ≡ at p.subscribers i
  unfolding holder_at
  holder-found i e = ap (holder_of p) e

  pub holder-nobody : lookup p a ≡ None → holder_at p a ≡ no_subscriber
  unfolding holder_at
  holder-nobody e = ap (holder_of p) e

  -- who is found has the address, which is not 0; where nobody is, the address shown is 0
  pub found-address-shown : (i : ℕ) → lookup p a ≡ Some i → eqb (holder_at p a).address 0 ≡ false
  unfolding given
  found-address-shown i e =
      let here : (holder_at p a).address ≡ a = ap (λ (s : Subscriber). s.address) (holder-found i e) ∙ found-address p a i e in
      let not-zero : not (eqb a 0) ≡ true = and_right (legal a) (not (eqb a 0)) (found-given p a i e) in
      rw here (not-true (eqb a 0) not-zero)

  pub nobody-address-shown : lookup p a ≡ None → eqb (holder_at p a).address 0 ≡ true
  nobody-address-shown e = ap (λ (s : Subscriber). eqb s.address 0) (holder-nobody e)

-- the parts of what is shown
module _ (p : Plan) (first second : ℕ) {v : Seen} (e : seen p first second ≡ v) where
  pub seen-types : p.types ≡ v.types
  unfolding seen
  seen-types = ap (λ (w : Seen). w.types) e

  pub seen-source : p.source_order ≡ v.source_order
  unfolding seen
  seen-source = ap (λ (w : Seen). w.source_order) e

  pub seen-target : p.target_order ≡ v.target_order
  unfolding seen
  seen-target = ap (λ (w : Seen). w.target_order) e

  pub seen_first : holder_at p first ≡ v.first
  unfolding seen
  seen_first = ap (λ (w : Seen). w.first) e

  pub seen-second : holder_at p second ≡ v.second
  unfolding seen
  seen-second = ap (λ (w : Seen). w.second) e

-- ---- one more subscriber: q is p with s after the others
module _ (p q : Plan) (s : Subscriber) (t : Types) (few : p.count < 256) (more : q.count ≡ p.count + 1)
    (alike : (j : ℕ) → j < p.count → at p.subscribers j ≡ at q.subscribers j) (there : at q.subscribers p.count ≡ s)
    (kept : every (p.count + 1) (subscriber_sound t q.subscribers) ≡ true) (a : ℕ) where
  in_use : used p ≡ p.count
  unfolding used
  in_use = omega arith

  in-use-more : used q ≡ p.count + 1
  unfolding used
  in-use-more = omega (arith, more)

  same-there : (k : ℕ) → k < p.count → has_address p a k ≡ has_address q a k
  same-there k h = ap (λ (z : Subscriber). eqb z.address a) (alike k h)

  -- whose address it is: nobody before has it
  pub holder-new : s.address ≡ a → holder_at q a ≡ s
  unfolding address_given
  holder-new e =
      let last : p.count < p.count + 1 = omega arith in
      let own : own_sound t (at q.subscribers p.count) ≡ true = own_at t q.subscribers (p.count + 1) kept p.count last in
      let here : (at q.subscribers p.count).address ≡ a = ap (λ (z : Subscriber). z.address) there ∙ e in
      let g : given a ≡ true = ap given (sym here) ∙ own-address t (at q.subscribers p.count) own in
      let found : lookup q a ≡ Some p.count =
      lookup-at q a g p.count (rw in-use-more last)
      (λ k l. ne_eqb (at q.subscribers k).address a (λ (x : (at q.subscribers k).address ≡ a). omega (arith, ascending t q.subscribers (p.count + 1) kept k p.count l last)))
      (eq-eqb (at q.subscribers p.count).address a here) in
      holder-found q a p.count found ∙ there

  -- any other address: as before
  other-has : ¬ (s.address ≡ a) → has_address q a p.count ≡ false
  other-has n = ne_eqb (at q.subscribers p.count).address a (λ x. n (ap (λ (z : Subscriber). z.address) (sym there) ∙ x))

  found-again : ¬ (s.address ≡ a) → given a ≡ true → (f : (Option ℕ)) → lookup p a ≡ f → lookup q a ≡ f
  found-again n g (Some i) e =
      let below : i < p.count = rw in_use at (found-used p a i e) in
      lookup-at q a g i (omega (arith, in-use-more))
      (λ k l. let m : k < p.count = omega arith in sym (same-there k m) ∙ found_first p a i e k l)
      (sym (same-there i below) ∙ eq-eqb (at p.subscribers i).address a (found-address p a i e))
  found-again n g None e =
      lookup-nothing q a
      (λ k h. ⊎_elim
      (λ (l : k < p.count). sym (same-there k l) ∙ nothing-has p a g e k (rw in_use l))
      (λ (l : p.count ≤ k). let m : k ≡ p.count = omega (arith, in-use-more) in rw m (other-has n))
      (split k p.count))

  pub holder-kept : ¬ (s.address ≡ a) → holder_at q a ≡ holder_at p a
  holder-kept n =
      ⊎_elim
      (λ g. by-look g (lookup p a) refl)
      (λ g. holder-nobody q a (lookup-not-given q a g) ∙ sym (holder-nobody p a (lookup-not-given p a g)))
      (yes_or_no (given a))
    where
      by-look : given a ≡ true → (f : (Option ℕ)) → lookup p a ≡ f → holder_at q a ≡ holder_at p a
      by-look g (Some i) e =
          holder-found q a i (found-again n g (Some i) e) ∙ sym (alike i (rw in_use at (found-used p a i e))) ∙ sym (holder-found p a i e)
      by-look g None e = holder-nobody q a (found-again n g None e) ∙ sym (holder-nobody p a e)

-- nobody has an address in a plan without subscribers
pub holder-none : (p : Plan) (a : ℕ) → p.count ≡ 0 → holder_at p a ≡ no_subscriber
unfolding used
holder-none p a e = holder-nobody p a (lookup-nothing p a (λ k h. absurd (not-suc-le-zero (rw e at h))))
