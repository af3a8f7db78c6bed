-- The table of thirteen, computed. Assumes nothing.
use mathlib.Core.Path.{◌≡◌, refl}
use mathlib.Core.List.{[], ◌∷◌}
use Rattle.typeset.specs.Sets.{has, every, some, least, count, set_of, without, lowest, size, minus}
use Rattle.plan.specs.declared.Region.TheVariants.{Source, Target}
use Rattle.plan.specs.Parts.{legal, given}
use Rattle.plan.specs.Find.{used, first_with, lookup}
use Rattle.order.specs.Rules.{precedes}
use Rattle.zone.specs.Order.{held, preceded, unpreceded, next, zone_from, zone_list, list_of}
use Rattle.zone.specs.Answer.{zone_for, zone_at}
use Rattle.teaching.specs.Teaching.{subscriber, unused, types, source_rows, target_rows, subscribers, teaching}
use Rattle.teaching.proofs.Changes.{teaching-sound}
use Rattle.teaching.proofs.Zones.{p1, p2}
use Rattle.setup.specs.declared.Route.TheVariants.{Suffix}
use Rattle.std.specs.Prelude.{Some, None}
use Rattle.setup.specs.Dialling.{symbol, legal_string, padded, dialled, string_of, legal_dialled}
use Rattle.setup.specs.Setups.{routing_address, end_part, in_range, list_fits, fault_in, fault, well_formed}
use Rattle.embedded.specs.Embedded.{digit, all_digits, number_from, coded, skipped, after_code, writes_address, embedded}
use Rattle.making.specs.declared.Maker.TheVariants.{Trunk as TrunkBox, Feature as FeatureBox}
use Rattle.making.specs.Making.{new_setup, new_outcome_by, further, continued_setup, new_answer, reversed_answer}
use Rattle.making_examples.specs.Setups.{dialled300, setup_of, p5_sent, p6_received, p6_sent, p7_received, p7_sent, p7_received_at700, p7_sent_again, p8_stored, p8_sent}
use Rattle.making_examples.proofs.Made.{p5-made, p6-made, p7-made, p7-made-again, p8-made}
use Rattle.routing.specs.declared.Callee.TheVariants.{Feature, Trunk, Resource, Error}
use Rattle.routing.specs.Interface.{box_of, first_box, found_box, interface_at}
use Rattle.routing.specs.Steps.{target1, place_of, stands, before, suffix_after, zone2, route2, region3, route3, outer3, callee4, received4, region_of, route_of, callee_of, received_of, left_of}
use Rattle.routing.specs.Routing.{roomy, settled_by, outcome_by, answer_by}
use Rattle.journey.specs.Hops.{passed_on}
use Rattle.thirteen.specs.Table.{made, Routes, received, received_no_string, Thirteen}

p5-routes : Routes p5_sent (Feature 1 200) (received Source 200 300 (2 ∷ 4 ∷ []) (Some 200)) 2
unfolding has every some least count set_of without lowest size minus legal given used first_with lookup precedes held preceded unpreceded next zone_from zone_list zone_for zone_at subscriber unused types source_rows target_rows subscribers teaching symbol legal_string padded dialled string_of legal_dialled routing_address list_of end_part in_range list_fits fault_in fault well_formed digit all_digits number_from coded skipped after_code writes_address embedded dialled300 setup_of p5_sent box_of first_box found_box interface_at target1 place_of stands before suffix_after zone2 route2 region3 route3 outer3 callee4 received4 region_of route_of callee_of received_of left_of roomy settled_by outcome_by answer_by
p5-routes = rw teaching-sound

p5-to-2-routes : Routes (passed_on 200 (received Source 200 300 (2 ∷ 4 ∷ []) (Some 200))) (Feature 2 200) (received Source 200 300 (4 ∷ []) None) 1
unfolding has every some least count set_of without lowest size minus legal given used first_with lookup precedes held preceded unpreceded next zone_from zone_list zone_for zone_at subscriber unused types source_rows target_rows subscribers teaching symbol legal_string padded dialled string_of legal_dialled routing_address list_of end_part in_range list_fits fault_in fault well_formed digit all_digits number_from coded skipped after_code writes_address embedded dialled300 setup_of passed_on continued_setup further box_of first_box found_box interface_at target1 place_of stands before suffix_after zone2 route2 region3 route3 outer3 callee4 received4 region_of route_of callee_of received_of left_of roomy settled_by outcome_by answer_by
p5-to-2-routes = rw teaching-sound

p5-to-4-routes : Routes (passed_on 200 (received Source 200 300 (4 ∷ []) None)) (Feature 4 200) p6_received 0
unfolding has every some least count set_of without lowest size minus legal given used first_with lookup precedes held preceded unpreceded next zone_from zone_list zone_for zone_at subscriber unused types source_rows target_rows subscribers teaching symbol legal_string padded dialled string_of legal_dialled routing_address list_of end_part in_range list_fits fault_in fault well_formed digit all_digits number_from coded skipped after_code writes_address embedded dialled300 setup_of passed_on continued_setup further p6_received box_of first_box found_box interface_at target1 place_of stands before suffix_after zone2 route2 region3 route3 outer3 callee4 received4 region_of route_of callee_of received_of left_of roomy settled_by outcome_by answer_by
p5-to-4-routes = rw teaching-sound

p6-routes : Routes p6_sent (Feature 3 300) (received Target 200 300 (5 ∷ 4 ∷ 2 ∷ []) None) 3
unfolding has every some least count set_of without lowest size minus legal given used first_with lookup precedes held preceded unpreceded next zone_from zone_list zone_for zone_at subscriber unused types source_rows target_rows subscribers teaching symbol legal_string padded dialled string_of legal_dialled routing_address list_of end_part in_range list_fits fault_in fault well_formed digit all_digits number_from coded skipped after_code writes_address embedded dialled300 setup_of p6_sent box_of first_box found_box interface_at target1 place_of stands before suffix_after zone2 route2 region3 route3 outer3 callee4 received4 region_of route_of callee_of received_of left_of roomy settled_by outcome_by answer_by
p6-routes = rw teaching-sound

p6-to-5-routes : Routes (passed_on 300 (received Target 200 300 (5 ∷ 4 ∷ 2 ∷ []) None)) (Feature 5 300) p7_received 2
unfolding has every some least count set_of without lowest size minus legal given used first_with lookup precedes held preceded unpreceded next zone_from zone_list zone_for zone_at subscriber unused types source_rows target_rows subscribers teaching symbol legal_string padded dialled string_of legal_dialled routing_address list_of end_part in_range list_fits fault_in fault well_formed digit all_digits number_from coded skipped after_code writes_address embedded dialled300 setup_of passed_on continued_setup further p7_received box_of first_box found_box interface_at target1 place_of stands before suffix_after zone2 route2 region3 route3 outer3 callee4 received4 region_of route_of callee_of received_of left_of roomy settled_by outcome_by answer_by
p6-to-5-routes = rw teaching-sound

p7-routes : Routes p7_sent (Feature 3 700) p7_received_at700 0
unfolding has every some least count set_of without lowest size minus legal given used first_with lookup precedes held preceded unpreceded next zone_from zone_list zone_for zone_at subscriber unused types source_rows target_rows subscribers teaching symbol legal_string padded dialled string_of legal_dialled routing_address list_of end_part in_range list_fits fault_in fault well_formed digit all_digits number_from coded skipped after_code writes_address embedded dialled300 setup_of p7_sent p7_received_at700 box_of first_box found_box interface_at target1 place_of stands before suffix_after zone2 route2 region3 route3 outer3 callee4 received4 region_of route_of callee_of received_of left_of roomy settled_by outcome_by answer_by
p7-routes = rw teaching-sound

p7-error-routes : Routes p7_sent_again (Error 700) (received Target 200 700 [] None) 0
unfolding has every some least count set_of without lowest size minus legal given used first_with lookup precedes held preceded unpreceded next zone_from zone_list zone_for zone_at subscriber unused types source_rows target_rows subscribers teaching symbol legal_string padded dialled string_of legal_dialled routing_address list_of end_part in_range list_fits fault_in fault well_formed digit all_digits number_from coded skipped after_code writes_address embedded dialled300 setup_of p7_sent_again box_of first_box found_box interface_at target1 place_of stands before suffix_after zone2 route2 region3 route3 outer3 callee4 received4 region_of route_of callee_of received_of left_of roomy settled_by outcome_by answer_by
p7-error-routes = rw teaching-sound

p8-routes : Routes (setup_of Target 300 200 Suffix [] (Some 4) None) (Feature 2 200) (received Target 300 200 [] None) 0
unfolding has every some least count set_of without lowest size minus legal given used first_with lookup precedes held preceded unpreceded next zone_from zone_list zone_for zone_at subscriber unused types source_rows target_rows subscribers teaching symbol legal_string padded dialled string_of legal_dialled routing_address list_of end_part in_range list_fits fault_in fault well_formed digit all_digits number_from coded skipped after_code writes_address embedded dialled300 setup_of box_of first_box found_box interface_at target1 place_of stands before suffix_after zone2 route2 region3 route3 outer3 callee4 received4 region_of route_of callee_of received_of left_of roomy settled_by outcome_by answer_by
p8-routes = rw teaching-sound

p9-routes : Routes (setup_of Target 200 700 Suffix [] (Some 2) None) (Feature 3 700) (received Target 200 700 [] None) 0
unfolding has every some least count set_of without lowest size minus legal given used first_with lookup precedes held preceded unpreceded next zone_from zone_list zone_for zone_at subscriber unused types source_rows target_rows subscribers teaching symbol legal_string padded dialled string_of legal_dialled routing_address list_of end_part in_range list_fits fault_in fault well_formed digit all_digits number_from coded skipped after_code writes_address embedded dialled300 setup_of box_of first_box found_box interface_at target1 place_of stands before suffix_after zone2 route2 region3 route3 outer3 callee4 received4 region_of route_of callee_of received_of left_of roomy settled_by outcome_by answer_by
p9-routes = rw teaching-sound

p10-900-routes : Routes (new_setup 555 [] 900) (Resource 60 900) (received_no_string 555 900) 0
unfolding has every some least count set_of without lowest size minus legal given used first_with lookup precedes held preceded unpreceded next zone_from zone_list zone_for zone_at subscriber unused types source_rows target_rows subscribers teaching symbol legal_string padded dialled string_of legal_dialled routing_address list_of end_part in_range list_fits fault_in fault well_formed digit all_digits number_from coded skipped after_code writes_address embedded dialled300 setup_of new_setup box_of first_box found_box interface_at target1 place_of stands before suffix_after zone2 route2 region3 route3 outer3 callee4 received4 region_of route_of callee_of received_of left_of roomy settled_by outcome_by answer_by
p10-900-routes = rw teaching-sound

p10-556-routes : Routes (new_setup 555 [] 556) (Error 556) (received_no_string 555 556) 0
unfolding has every some least count set_of without lowest size minus legal given used first_with lookup precedes held preceded unpreceded next zone_from zone_list zone_for zone_at subscriber unused types source_rows target_rows subscribers teaching symbol legal_string padded dialled string_of legal_dialled routing_address list_of end_part in_range list_fits fault_in fault well_formed digit all_digits number_from coded skipped after_code writes_address embedded dialled300 setup_of new_setup box_of first_box found_box interface_at target1 place_of stands before suffix_after zone2 route2 region3 route3 outer3 callee4 received4 region_of route_of callee_of received_of left_of roomy settled_by outcome_by answer_by
p10-556-routes = rw teaching-sound

p10-555-routes : Routes (new_setup 555 [] 555) (Trunk 40 555) (received_no_string 555 555) 0
unfolding has every some least count set_of without lowest size minus legal given used first_with lookup precedes held preceded unpreceded next zone_from zone_list zone_for zone_at subscriber unused types source_rows target_rows subscribers teaching symbol legal_string padded dialled string_of legal_dialled routing_address list_of end_part in_range list_fits fault_in fault well_formed digit all_digits number_from coded skipped after_code writes_address embedded dialled300 setup_of new_setup box_of first_box found_box interface_at target1 place_of stands before suffix_after zone2 route2 region3 route3 outer3 callee4 received4 region_of route_of callee_of received_of left_of roomy settled_by outcome_by answer_by
p10-555-routes = rw teaching-sound

p8-makes : reversed_answer teaching (FeatureBox 4 200) p8_stored 0 [] 0 ≡ made (setup_of Target 300 200 Suffix [] (Some 4) None)
unfolding p8_sent
p8-makes = p8-made

p10-makes-900 : new_answer teaching (TrunkBox 555) [] 900 ≡ made (new_setup 555 [] 900)
unfolding has every legal given least used first_with lookup held subscriber unused types subscribers teaching symbol legal_string new_outcome_by
p10-makes-900 = rw teaching-sound

p10-makes-556 : new_answer teaching (TrunkBox 555) [] 556 ≡ made (new_setup 555 [] 556)
unfolding has every legal given least used first_with lookup held subscriber unused types subscribers teaching symbol legal_string new_outcome_by
p10-makes-556 = rw teaching-sound

p10-makes-555 : new_answer teaching (TrunkBox 555) [] 555 ≡ made (new_setup 555 [] 555)
unfolding has every legal given least used first_with lookup held subscriber unused types subscribers teaching symbol legal_string new_outcome_by
p10-makes-555 = rw teaching-sound

pub thirteen : Thirteen
unfolding every digit all_digits number_from coded skipped after_code writes_address embedded
thirteen = record {
  p1 = p1;
  p2 = p2;
  p3 = refl;
  p4_zeros = refl;
  p4_code = refl;
  p4_hash = refl;
  p5_new = p5-made;
  p5 = p5-routes;
  p5_to_2 = p5-to-2-routes;
  p5_to_4 = p5-to-4-routes;
  p6_continued = p6-made;
  p6 = p6-routes;
  p6_to_5 = p6-to-5-routes;
  p7_continued = p7-made;
  p7 = p7-routes;
  p7_again = p7-made-again;
  p7_error = p7-error-routes;
  p8_reversed = p8-makes;
  p8 = p8-routes;
  p9 = p9-routes;
  p10_new_900 = p10-makes-900;
  p10_900 = p10-900-routes;
  p10_new_556 = p10-makes-556;
  p10_556 = p10-556-routes;
  p10_new_555 = p10-makes-555;
  p10_555 = p10-555-routes;
  p11_two = refl;
  p12_six = refl;
  p13_four = refl;
}
