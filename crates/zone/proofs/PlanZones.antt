-- The zones of a sound plan (manual 3.4 and 3.5): what an address has in a region, each once, in an order that the precedence allows. Assumes nothing.
use Rattle.std.specs.Prelude.{Option, Some, None, Ok, Err}
use mathlib.Core.Path.{◌≡◌, refl, sym, ap, ap₂, ◌∙◌}
use mathlib.Core.Bool.{true, false, false≢true}
use lib.Dec.{lit≤}
use mathlib.Core.List.{List, []}
use Prim.Native.Nat.{ℕ, ◌≤◌, ◌<◌}
use lib.ListN.{length}
use Rattle.typeset.specs.Sets.{has, digit, size}
use Rattle.plan.specs.declared.Region.{Region}
use Rattle.plan.specs.declared.Region.TheVariants.{Source, Target}
use Rattle.plan.specs.declared.Plan.{Plan}
use Rattle.plan.specs.Parts.{of_region, choice, order, subscribed, legal, at}
use Rattle.order.specs.Rules.{precedes}
use Rattle.plan.specs.Sound.{sound, verdict}
use Rattle.refusal.specs.declared.Refusal.TheVariants.{RuleBroken}
use Rattle.plan.specs.Find.{lookup, holder_of, holder_at, seen}
use Rattle.plan.specs.declared.Seen.{Seen}
use Rattle.plan.specs.declared.Subscriber.{Subscriber}
use Rattle.plan.proofs.Lookup.{found-used, lookup-not-given, zero-not-given, illegal-not-given}
use Rattle.plan.proofs.Laws.{used_all, subscribed-chosen, reversible-twice}
use Rattle.zone.specs.Order.{zone_list, held}
use Rattle.zone.specs.Answer.{zone_for, zone_at, answer}
use Rattle.zone.proofs.Precedence.{strict-order}
use Rattle.zone.proofs.Members.{times, elem, ahead, zone-length, InOrder}
use Rattle.zone.proofs.Held.{zone-fits}
use Rattle.zone.proofs.Zones.{zone-empty}
use Rattle.zone.proofs.AnySet.{low, any-once, any-members, any_below, any-sorted, any-in-order, any-one}

-- ---- any plan

short-of : (p : Plan) (r : Region) (f : Option ℕ) → length (zone_for p r f) ≤ 32
unfolding zone_for
short-of p r (Some i) = zone-fits (order r p) (subscribed r (at p.subscribers i))
short-of p r None = lit≤ tt

-- at most 32 types
pub zone-short : (p : Plan) (r : Region) (a : ℕ) → length (zone_at p r a) ≤ 32
unfolding zone_at
zone-short p r a = short-of p r (lookup p a)

below_of : (p : Plan) (r : Region) (f : Option ℕ) (t : ℕ) → elem t (zone_for p r f) ≡ true → t < 32
unfolding zone_for elem
below_of p r (Some i) t e = any_below (order r p) (subscribed r (at p.subscribers i)) t e
below_of p r None t e = absurd (false≢true e)

pub zone-types : (p : Plan) (r : Region) (a t : ℕ) → elem t (zone_at p r a) ≡ true → t < 32
unfolding zone_at
zone-types p r a t e = below_of p r (lookup p a) t e

-- an address that is not in the plan has empty zones
pub zone-nobody : (p : Plan) (r : Region) (a : ℕ) → lookup p a ≡ None → zone_at p r a ≡ []
unfolding zone_at zone_for
zone-nobody p r a e = rw e

-- that of one who is found
pub zone-found : (p : Plan) (r : Region) (a i : ℕ) → lookup p a ≡ Some i
    → zone_at p r a ≡ zone_list (order r p) (subscribed r (at p.subscribers i))
unfolding zone_at zone_for
zone-found p r a i e = rw e

shown_of : (p : Plan) (r : Region) (f : Option ℕ) → zone_for p r f ≡ zone_list (order r p) (subscribed r (holder_of p f))
unfolding zone_for
shown_of p r (Some i) = refl
shown_of p Source None = sym (zone-empty p.source_order)
shown_of p Target None = sym (zone-empty p.target_order)

-- that of the subscriber whom the plan shows for the address, found or not: nobody subscribes to anything
pub zone-shown : (p : Plan) (r : Region) (a : ℕ) → zone_at p r a ≡ zone_list (order r p) (subscribed r (holder_at p a))
unfolding zone_at holder_at
zone-shown p r a = shown_of p r (lookup p a)

-- by what a plan shows: its orders, and the subscriber of the address
pub zone-seen : (p : Plan) (r : Region) (first second a : ℕ) (v : Seen) (s : Subscriber) → seen p first second ≡ v → holder_at p a ≡ s
    → zone_at p r a ≡ zone_list (of_region r v.source_order v.target_order) (subscribed r s)
unfolding seen
zone-seen p Source first second a v s e h = zone-shown p Source a ∙ ap₂ zone_list (ap (λ (x : Seen). x.source_order) e) (ap (λ (x : Subscriber). x.source) h)
zone-seen p Target first second a v s e h = zone-shown p Target a ∙ ap₂ zone_list (ap (λ (x : Seen). x.target_order) e) (ap (λ (x : Subscriber). x.target) h)

-- 0 has empty zones, and so has a number that is no address
pub zone-zero : (p : Plan) (r : Region) → zone_at p r 0 ≡ []
zone-zero p r = zone-nobody p r 0 (lookup-not-given p 0 zero-not-given)

pub zone-illegal : (p : Plan) (r : Region) (a : ℕ) → legal a ≡ false → zone_at p r a ≡ []
zone-illegal p r a e = zone-nobody p r a (lookup-not-given p a (illegal-not-given a e))

-- ---- what is answered: the zone of a sound plan, and 23 at place 0 for any other

pub answer-sound : (p : Plan) (r : Region) (a : ℕ) → sound p ≡ true → answer p r a ≡ Ok (held (zone_at p r a))
unfolding answer verdict
answer-sound p r a e = rw e

pub answer-refused : (p : Plan) (r : Region) (a : ℕ) → sound p ≡ false → answer p r a ≡ Err (RuleBroken 0)
unfolding answer verdict
answer-refused p r a e = rw e

-- ---- a sound plan
module _ (p : Plan) (𝓢 : sound p ≡ true) where
  module _ (a i : ℕ) (found : lookup p a ≡ Some i) where
    count-above : i < p.count
    count-above = rw (← used_all p 𝓢) (found-used p a i found)

    module _ (r : Region) where
      -- the types subscribed to, each once and no other (manual 3.5)
      pub each-once : (t : ℕ) → t < 32 → times t (zone_at p r a) ≡ digit (has t (subscribed r (at p.subscribers i)))
      each-once t h = ap (times t) (zone-found p r a i found) ∙ any-once (order r p) (subscribed r (at p.subscribers i)) t h

      pub members : (t : ℕ) → t < 32 → elem t (zone_at p r a) ≡ has t (subscribed r (at p.subscribers i))
      members t h = ap (elem t) (zone-found p r a i found) ∙ any-members (order r p) (subscribed r (at p.subscribers i)) t h

      -- as many as the set has ones
      pub as_many : length (zone_at p r a) ≡ size (subscribed r (at p.subscribers i))
      as_many = ap length (zone-found p r a i found) ∙ zone-length (order r p) (subscribed r (at p.subscribers i))

      -- types of the region's choice alone
      pub chosen : (t : ℕ) → elem t (zone_at p r a) ≡ true → has t (choice r p.types) ≡ true
      chosen t e =
          let h : t < 32 = zone-types p r a t e in
          subscribed-chosen p 𝓢 i count-above r t h (sym (members t h) ∙ e)

      -- where one type precedes another and both are there it stands before it (manual 3.4)
      pub in-precedence : (t u : ℕ) → elem t (zone_at p r a) ≡ true → elem u (zone_at p r a) ≡ true → precedes (order r p) t u ≡ true
          → ahead t u (zone_at p r a) ≡ true
      in-precedence t u e f q =
          let ht : t < 32 = zone-types p r a t e in
          let hu : u < 32 = zone-types p r a u f in
          ap (ahead t u) (zone-found p r a i found)
          ∙ any-sorted (order r p) (subscribed r (at p.subscribers i)) (strict-order p 𝓢 r) t u ht hu (sym (members t ht) ∙ e) (sym (members u hu) ∙ f) q

      -- the list that takes the lowest unpreceded remaining type each time, and no other list does
      pub in-turn : InOrder (order r p) (low (subscribed r (at p.subscribers i))) (zone_at p r a)
      in-turn = rw (zone-found p r a i found) (any-in-order (order r p) (subscribed r (at p.subscribers i)) (strict-order p 𝓢 r))

      pub only_one : (l : List ℕ) → InOrder (order r p) (low (subscribed r (at p.subscribers i))) l → l ≡ zone_at p r a
      only_one l o =
          any-one (order r p) (subscribed r (at p.subscribers i)) (strict-order p 𝓢 r) l o ∙ sym (zone-found p r a i found)

    -- a reversible type is in both zones or in neither (manual 3.5)
    pub in-both-zones : (t : ℕ) → t < 32 → has t p.types.reversible ≡ true → elem t (zone_at p Source a) ≡ elem t (zone_at p Target a)
    in-both-zones t h e = members Source t h ∙ reversible-twice p 𝓢 i count-above t h e ∙ sym (members Target t h)
