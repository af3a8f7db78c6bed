-- `routing::hand_over` meets its contract. Assumes nothing.
use mathlib.Core.Path.{◌≡◌, sym, ◌∙◌}
use mathlib.Core.Bool.{true, false}
use native.Mathlib.Omega.{arith}
use lib.ListN.{length, take, drop, length-drop}
use Rattle.zone.specs.Order.{list_of}
use Rattle.routing.specs.Steps.{exhausted}
use Rattle.routing.specs.Places.{begins}
use Rattle.plan.specs.Parts.{of_region}
use Rattle.routing.proofs.Zoned.{of-now, advanced-on, advanced-not, zone-low, list-begins}
use Rattle.routing.proofs.hand_over.Goals as goal

pub deliver-requires : goal.deliver-requires
deliver-requires c =
    let a = c.args in
    let zone = of_region a.out.region a.source_zone a.target_zone in
    let rest : c.end_part-rest.result.now ≡ list_of a.target_zone = rw (c.as_slice.ensures, c.requires.1) at c.end_part-rest.ensures in
    rw rest c.requires.3

pub deliver-requires-else-exhausted : goal.deliver-requires-else-exhausted
deliver-requires-else-exhausted c =
    let a = c.args in
    let zone = of_region a.out.region a.source_zone a.target_zone in
    let whole : take (length (list_of zone)) (of_region a.out.region a.source_list.now a.target_list.now) ≡ list_of zone = list-begins a.out.region a.source_zone a.target_zone a.source_list.now a.target_list.now c.requires.0 c.requires.1 in
    let rest : c.end_part-rest-else-exhausted.result.now ≡ drop (begins a.out.route a.out.placing (list_of a.out.list) (list_of zone)) (list_of zone) =
    rw (c.as_slice-else-exhausted.ensures, c.begins-from.ensures, c.of-zone.ensures, c.of-list.ensures, of-now, whole) at c.end_part-rest-else-exhausted.ensures in
    let low = zone-low a.out.region a.source_zone a.target_zone c.requires.2 c.requires.3 in
    rw (rest, length-drop _ (list_of zone)) (omega (arith, low))

pub returns-then-exhausted : goal.returns-then-exhausted
returns-then-exhausted c p shown =
    let a = c.args in
    let zone = of_region a.out.region a.source_zone a.target_zone in
    let rest : c.end_part-rest.result.now ≡ list_of a.target_zone = rw (c.as_slice.ensures, c.requires.1) at c.end_part-rest.ensures in
    let gone : exhausted a.out.region (drop (begins a.out.route a.out.placing (list_of a.out.list) (list_of zone)) (list_of zone)) ≡ true =
    rw (c.begins-from.ensures, c.of-zone.ensures) at (sym c.exhausted.ensures ∙ c.if-exhausted.true) in
    rw (advanced-on p a.out a.target _ (list_of a.target_zone) gone, ← rest) (c.deliver.ensures p shown)

pub returns-else-exhausted : goal.returns-else-exhausted
returns-else-exhausted c p shown =
    let a = c.args in
    let zone = of_region a.out.region a.source_zone a.target_zone in
    let whole : take (length (list_of zone)) (of_region a.out.region a.source_list.now a.target_list.now) ≡ list_of zone = list-begins a.out.region a.source_zone a.target_zone a.source_list.now a.target_list.now c.requires.0 c.requires.1 in
    let rest : c.end_part-rest-else-exhausted.result.now ≡ drop (begins a.out.route a.out.placing (list_of a.out.list) (list_of zone)) (list_of zone) =
    rw (c.as_slice-else-exhausted.ensures, c.begins-from.ensures, c.of-zone.ensures, c.of-list.ensures, of-now, whole) at c.end_part-rest-else-exhausted.ensures in
    let gone : exhausted a.out.region (drop (begins a.out.route a.out.placing (list_of a.out.list) (list_of zone)) (list_of zone)) ≡ false =
    rw (c.begins-from.ensures, c.of-zone.ensures) at (sym c.exhausted.ensures ∙ c.if-exhausted.false) in
    rw (advanced-not p a.out a.target _ (list_of a.target_zone) gone, ← rest) (c.deliver-else-exhausted.ensures p shown)
