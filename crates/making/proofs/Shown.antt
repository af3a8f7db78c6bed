-- What a plan shows of the box's address and of a stored setup's routing address is all that making a setup asks of it. Of any plan. Assumes nothing.
use Rattle.std.specs.Prelude.{Option, Some, None}
use mathlib.Core.Path.{◌≡◌, refl, ap}
use mathlib.Core.Bool.{Bool, true, not}
use Prim.Native.Nat.{ℕ}
use lib.Dec.{eqb}
use Rattle.plan.specs.declared.Subscriber.{Subscriber}
use Rattle.plan.specs.declared.Types.{Types}
use Rattle.plan.specs.declared.Plan.{Plan}
use Rattle.plan.specs.declared.Seen.{Seen}
use Rattle.plan.specs.Find.{lookup, holder_of, holder_at, seen}
use Rattle.plan.proofs.Sight.{found-address-shown, nobody-address-shown, seen-types}
use Rattle.zone.specs.declared.Zone.{Zone}
use Rattle.zone.specs.Order.{held, list_of}
use Rattle.zone.specs.Answer.{zone_at}
use Rattle.zone.proofs.Held.{held-list}
use Rattle.setup.specs.declared.Setup.{Setup}
use Rattle.setup.specs.Setups.{routing_address, fault_in, fault, faultless, well_formed}
use Rattle.making.specs.declared.Maker.{Maker}
use Rattle.making.specs.declared.Maker.TheVariants.{Feature, Line, Trunk, Resource, Error}
use Rattle.making.specs.Making.{box_address, kind_of, somebody, address_held}

-- ---- the subscriber of an address

module _ (p : Plan) (a : ℕ) where
  -- whether there is one
  pub somebody-shown : somebody (lookup p a) ≡ not (eqb (holder_at p a).address 0)
  somebody-shown = go (lookup p a) refl where
    go : (f : Option ℕ) → lookup p a ≡ f → somebody f ≡ not (eqb (holder_at p a).address 0)
    go (Some i) e = rw (found-address-shown p a i e)
    go None e = rw (nobody-address-shown p a e)

  -- and of which kind
  pub kind-shown : kind_of p (lookup p a) ≡ (holder_at p a).kind
  unfolding holder_at
  kind-shown = go (lookup p a) where
    go : (f : Option ℕ) → kind_of p f ≡ (holder_of p f).kind
    go (Some i) = refl
    go None = refl

-- 3, by the subscriber of the box's address
abbrev pub held_by : Subscriber → Maker → Bool
held_by s (Feature t a) = not (eqb s.address 0)
held_by s (Line a) = eqb s.kind 1
held_by s (Trunk a) = eqb s.kind 2
held_by s Resource = true
held_by s Error = true

pub held-shown : (p : Plan) (m : Maker) {s : Subscriber} → holder_at p (box_address m) ≡ s → held_by s m ≡ address_held p m
held-shown p (Feature t a) e = rw (← e, somebody-shown p a)
held-shown p (Line a) e = rw (← e, kind-shown p a)
held-shown p (Trunk a) e = rw (← e, kind-shown p a)
held-shown p Resource e = refl
held-shown p Error e = refl

module _ (p : Plan) (first second : ℕ) {v : Seen} (e : seen p first second ≡ v) where
  -- the types
  pub existing-seen : p.types.existing ≡ v.types.existing
  existing-seen = ap (λ (t : Types). t.existing) (seen-types p first second e)

  pub reversible-seen : p.types.reversible ≡ v.types.reversible
  reversible-seen = ap (λ (t : Types). t.reversible) (seen-types p first second e)

-- ---- whether a stored setup is well formed: by the zone of its routing address

pub well-formed-by : (p : Plan) (s : Setup) {zone : Zone} {reversible : ℕ} → zone ≡ held (zone_at p s.region (routing_address s)) → p.types.reversible ≡ reversible
    → faultless (fault_in (list_of zone) reversible s) ≡ well_formed p s
unfolding well_formed fault list_of
well-formed-by p s here types = rw (here, ← types, held-list (zone_at p s.region (routing_address s)))
