-- What a plan shows of a setup's source, and of its target after step 1, is all that routing asks of it. Assumes nothing.
use Rattle.std.specs.Prelude.{Result, ⊤}
use mathlib.Core.Path.{◌≡◌, sym, ap, ap₂, ◌∙◌}
use mathlib.Core.Bool.{Bool}
use mathlib.Core.List.{List}
use Prim.Native.Nat.{ℕ, ◌≤◌}
use lib.ListN.{length}
use Rattle.plan.specs.declared.Region.TheVariants.{Source, Target}
use Rattle.plan.specs.declared.Types.{Types}
use Rattle.plan.specs.declared.Subscriber.{Subscriber}
use Rattle.plan.specs.declared.Plan.{Plan}
use Rattle.plan.specs.declared.Seen.{Seen}
use Rattle.plan.specs.Find.{seen}
use Rattle.plan.proofs.Sight.{seen-types, seen-source, seen-target, seen_first, seen-second}
use Rattle.zone.specs.declared.Zone.{Zone}
use Rattle.zone.specs.Order.{zone_list, held, list_of}
use Rattle.zone.specs.Answer.{zone_at}
use Rattle.zone.proofs.Held.{zone-fits}
use Rattle.zone.proofs.PlanZones.{zone-shown}
use Rattle.setup.specs.declared.Setup.{Setup}
use Rattle.routing.specs.Steps.{target1}
use Rattle.routing.specs.Routing.{settled_by}
use Rattle.routing.specs.Places.{settled_in}
use Rattle.plan.specs.Parts.{of_region}
use Rattle.routing.proofs.Zoned.{held-is, settled-zones}
use Rattle.refusal.specs.declared.Refusal.{Refusal}

-- a zone of any rows and any set has at most 32 types, whoever shows them
pub zone-held-short : (rows : List ℕ) (s : ℕ) (z : Zone) → z ≡ held (zone_list rows s) → length (list_of z) ≤ 32
zone-held-short rows s z e = rw (e, held-is) (zone-fits rows s)

module _ (p : Plan) (out : Setup) {v : Seen} (shows : seen p out.source (target1 out) ≡ v) where
  -- the zones of the two subscribers that are shown are those of the two addresses
  pub source-shown : (z : Zone) → z ≡ held (zone_list v.source_order v.first.source) → list_of z ≡ zone_at p Source out.source
  source-shown z e =
      ap list_of e ∙ held-is _
      ∙ sym (zone-shown p Source out.source ∙ ap₂ (λ (rows : List ℕ) (s : Subscriber). zone_list rows s.source) (seen-source p out.source (target1 out) shows) (seen_first p out.source (target1 out) shows))

  pub target-shown : (z : Zone) → z ≡ held (zone_list v.target_order v.second.target) → list_of z ≡ zone_at p Target (target1 out)
  target-shown z e =
      ap list_of e ∙ held-is _
      ∙ sym (zone-shown p Target (target1 out) ∙ ap₂ (λ (rows : List ℕ) (s : Subscriber). zone_list rows s.target) (seen-target p out.source (target1 out) shows) (seen-second p out.source (target1 out) shows))

  -- what is settled by them is what is settled by the plan
  pub settled-shown : (kept : Bool) (later : (Result ⊤ Refusal)) (n m : ℕ) (zs zt : Zone) → list_of zs ≡ zone_at p Source out.source → list_of zt ≡ zone_at p Target (target1 out)
      → settled_in kept (list_of (of_region out.region zs zt)) v.types.reversible out later n m ≡ settled_by kept p out later n m
  settled-shown kept later n m zs zt s t =
      ap (λ (types : Types). settled_in kept (list_of (of_region out.region zs zt)) types.reversible out later n m) (sym (seen-types p out.source (target1 out) shows))
      ∙ settled-zones kept p out later n m zs zt s t
