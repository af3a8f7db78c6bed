-- `routing::route_seen` meets its contract. What the parts ask is shown with no plan at hand; what is promised is shown for any plan that shows `v`. Assumes nothing.
use Rattle.std.specs.Prelude.{Ok, Err}
use Rattle.std.proofs.Common.{rules}
use mathlib.Core.Path.{◌≡◌, refl, sym, ap, ◌∙◌}
use Prim.Native.Nat.{◌≤◌}
use Rattle.typeset.proofs.Bools.{clash}
use native.Mathlib.Omega.{arith}
use lib.ListN.{length}
use Rattle.plan.specs.Find.{holder_at}
use Rattle.plan.proofs.Sight.{seen-second}
use Rattle.zone.specs.Order.{list_of}
use Rattle.routing.specs.Steps.{target1}
use Rattle.routing.specs.Routing.{settled_by}
use Rattle.plan.specs.Parts.{of_region}
use Rattle.routing.proofs.Parts.{stored-held}
use Rattle.routing.proofs.Zoned.{settled-room, room-source, room-target, handed-over, source-refused, target-refused, answer-refused, source-routed, target-routed}
use Rattle.routing.proofs.Shown.{zone-held-short, source-shown, target-shown, settled-shown}
use Rattle.routing.proofs.route_seen.Goals as goal

pub put-requires : goal.put-requires
put-requires c =
    let a = c.args in
    let zs = c.zone_of-source_zone.result in
    let zt = c.zone_of-target_zone.result in
    let n = length a.source_list.now in
    let m = length a.target_list.now in
    let room = settled-room a.kept (list_of (of_region a.out.region zs zt)) a.v.types.reversible a.out a.later n m (sym c.settled.ensures ∙ c.in_ok-settled.was) in
    room-source n m room

pub put-requires-2 : goal.put-requires-2
put-requires-2 c =
    let a = c.args in
    let zs = c.zone_of-source_zone.result in
    let zt = c.zone_of-target_zone.result in
    let n = length a.source_list.now in
    let m = length a.target_list.now in
    let room = settled-room a.kept (list_of (of_region a.out.region zs zt)) a.v.types.reversible a.out a.later n m (sym c.settled.ensures ∙ c.in_ok-settled.was) in
    room-target n m room

pub hand_over-requires : goal.hand_over-requires
hand_over-requires c =
    let a = c.args in
    let zs = c.zone_of-source_zone.result in
    let zt = c.zone_of-target_zone.result in
    let n = length a.source_list.now in
    let m = length a.target_list.now in
    let room = settled-room a.kept (list_of (of_region a.out.region zs zt)) a.v.types.reversible a.out a.later n m (sym c.settled.ensures ∙ c.in_ok-settled.was) in
    let source-low : length (list_of zs) ≤ 32 = zone-held-short a.v.source_order a.v.first.source zs c.zone_of-source_zone.ensures in
    let target-low : length (list_of zt) ≤ 32 = zone-held-short a.v.target_order a.v.second.target zt c.zone_of-target_zone.ensures in
    let source_fits : length (list_of zs) ≤ n = omega (arith, room-source n m room) in
    let target_fits : length (list_of zt) ≤ m = omega (arith, room-target n m room) in (
      rw c.put.ensures (stored-held (list_of zs) a.source_list.now source_fits),
      rw c.put-2.ensures (stored-held (list_of zt) a.target_list.now target_fits),
      source-low,
      target-low,
    )

pub returns-in_err-settled : goal.returns-in_err-settled
returns-in_err-settled c = record {
  value = λ p shows.
      let a = c.args in
      let zs = c.zone_of-source_zone.result in
      let zt = c.zone_of-target_zone.result in
      let n = length a.source_list.now in
      let m = length a.target_list.now in
      let source = source-shown p a.out shows zs c.zone_of-source_zone.ensures in
      let target = target-shown p a.out shows zt c.zone_of-target_zone.ensures in
      let same = settled-shown p a.out shows a.kept a.later n m zs zt source target in
      let refuse : settled_by a.kept p a.out a.later n m ≡ Err c.in_err-settled.field-0.0 = sym same ∙ sym c.settled.ensures ∙ c.in_err-settled.was in (
        rw (answer-refused a.kept p a.out a.later n m _ refuse) (search rules),
        sym (source-refused a.kept p a.out a.later n m _ a.source_list.now refuse),
        sym (target-refused a.kept p a.out a.later n m _ a.target_list.now refuse),
      );
  unchanged = (λ refused. refl, λ refused. refl);
}

pub returns : goal.returns
returns c = record {
  value = λ p shows.
      let a = c.args in
      let zs = c.zone_of-source_zone.result in
      let zt = c.zone_of-target_zone.result in
      let n = length a.source_list.now in
      let m = length a.target_list.now in
      let room = settled-room a.kept (list_of (of_region a.out.region zs zt)) a.v.types.reversible a.out a.later n m (sym c.settled.ensures ∙ c.in_ok-settled.was) in
      let source-low : length (list_of zs) ≤ 32 = zone-held-short a.v.source_order a.v.first.source zs c.zone_of-source_zone.ensures in
      let target-low : length (list_of zt) ≤ 32 = zone-held-short a.v.target_order a.v.second.target zt c.zone_of-target_zone.ensures in
      let source_fits : length (list_of zs) ≤ n = omega (arith, room-source n m room) in
      let target_fits : length (list_of zt) ≤ m = omega (arith, room-target n m room) in
      let source = source-shown p a.out shows zs c.zone_of-source_zone.ensures in
      let target = target-shown p a.out shows zt c.zone_of-target_zone.ensures in
      let same = settled-shown p a.out shows a.kept a.later n m zs zt source target in
      let nothing : settled_by a.kept p a.out a.later n m ≡ (Ok tt) = sym same ∙ sym c.settled.ensures ∙ c.in_ok-settled.was in
      let extracted = c.extracted-target.ensures in
      let holder = ap (holder_at p) extracted ∙ seen-second p a.out.source (target1 a.out) shows in
      let over = rw extracted at (c.hand_over.ensures p holder) in (
        ap Ok over ∙ handed-over a.kept p a.out a.later n m zs zt source target nothing,
        c.put.ensures ∙ source-routed a.kept p a.out a.later n m zs a.source_list.now nothing source source_fits,
        c.put-2.ensures ∙ target-routed a.kept p a.out a.later n m zt a.target_list.now nothing target target_fits,
      );
  unchanged = (λ refused. absurd (clash refl refused), λ refused. absurd (clash refl refused));
}
