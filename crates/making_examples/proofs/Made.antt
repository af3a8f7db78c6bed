-- P5 to P8 of document 01 as far as they make setups: what each box is answered, computed from the definitions on the teaching plan. Assumes nothing.
use Rattle.std.specs.Prelude.{None, Ok}
use mathlib.Core.Path.{◌≡◌}
use mathlib.Core.List.{[]}
use Rattle.typeset.specs.Sets.{has, every, some, least, count, set_of, without, lowest, size, minus}
use Rattle.plan.specs.declared.Region.TheVariants.{Source}
use Rattle.plan.specs.Parts.{legal, given}
use Rattle.plan.specs.Find.{used, first_with, lookup}
use Rattle.order.specs.Rules.{precedes}
use Rattle.zone.specs.Order.{held, preceded, unpreceded, next, zone_from, zone_list, list_of}
use Rattle.zone.specs.Answer.{zone_for, zone_at}
use Rattle.teaching.specs.Teaching.{subscriber, unused, types, source_rows, target_rows, subscribers, teaching}
use Rattle.teaching.proofs.Changes.{teaching-sound}
use Rattle.setup.specs.declared.Route.TheVariants.{Listed}
use Rattle.setup.specs.Dialling.{symbol, legal_string, padded, dialled, string_of, legal_dialled}
use Rattle.setup.specs.Setups.{routing_address, end_part, in_range, list_fits, fault_in, fault, well_formed}
use Rattle.making.specs.declared.Maker.TheVariants.{Feature, Line}
use Rattle.making.specs.Making.{new_setup, further, continued_setup, reversed_setup, not_own, new_outcome_by, continued_outcome_by, reversed_outcome_by, new_answer, continued_answer, reversed_answer}
use Rattle.making_examples.specs.Setups.{dialled300, setup_of, p5_sent, p6_received, p6_sent, p7_received, p7_sent, p7_received_at700, p7_sent_again, p8_stored, p8_sent}

-- P5: the line box of 200 makes a new setup, string "300"
pub p5-made : new_answer teaching (Line 200) dialled300 0 ≡ Ok p5_sent
unfolding has every legal given least used first_with lookup held subscriber unused types subscribers teaching symbol legal_string padded dialled new_setup new_outcome_by dialled300 setup_of p5_sent
p5-made = rw teaching-sound

-- P6: type 4 at 200 continues with an empty list to 300. The target is the stored one; or it is given, and none was stored
pub p6-made : continued_answer teaching (Feature 4 200) p6_received 0 [] 0 ≡ Ok p6_sent
unfolding has every legal given least used first_with lookup held subscriber unused types subscribers teaching symbol legal_string padded dialled some count set_of without lowest size minus precedes preceded unpreceded next zone_from zone_list zone_for zone_at source_rows target_rows string_of legal_dialled routing_address list_of end_part in_range list_fits fault_in fault well_formed not_own further dialled300 setup_of continued_setup continued_outcome_by p6_received p6_sent
p6-made = rw teaching-sound

pub p6-made-given : continued_answer teaching (Feature 4 200) (setup_of Source 200 0 Listed [] None None) 0 [] 300 ≡ Ok p6_sent
unfolding has every legal given least used first_with lookup held subscriber unused types subscribers teaching symbol legal_string padded dialled some count set_of without lowest size minus precedes preceded unpreceded next zone_from zone_list zone_for zone_at source_rows target_rows string_of legal_dialled routing_address list_of end_part in_range list_fits fault_in fault well_formed not_own further dialled300 setup_of continued_setup continued_outcome_by p6_sent
p6-made-given = rw teaching-sound

-- P7: type 5 at 300 continues to 700; and the continuation of what type 3 at 700 receives
pub p7-made : continued_answer teaching (Feature 5 300) p7_received 0 [] 700 ≡ Ok p7_sent
unfolding has every legal given least used first_with lookup held subscriber unused types subscribers teaching symbol legal_string padded dialled some count set_of without lowest size minus precedes preceded unpreceded next zone_from zone_list zone_for zone_at source_rows target_rows string_of legal_dialled routing_address list_of end_part in_range list_fits fault_in fault well_formed not_own further dialled300 setup_of continued_setup continued_outcome_by p7_received p7_sent
p7-made = rw teaching-sound

pub p7-made-again : continued_answer teaching (Feature 3 700) p7_received_at700 0 [] 0 ≡ Ok p7_sent_again
unfolding has every legal given least used first_with lookup held subscriber unused types subscribers teaching symbol legal_string padded dialled some count set_of without lowest size minus precedes preceded unpreceded next zone_from zone_list zone_for zone_at source_rows target_rows string_of legal_dialled routing_address list_of end_part in_range list_fits fault_in fault well_formed not_own further dialled300 setup_of continued_setup continued_outcome_by p7_received_at700 p7_sent_again
p7-made-again = rw teaching-sound

-- P8: type 4 at 200 reverses a source setup to 300: source 300, target 200, suffix
pub p8-made : reversed_answer teaching (Feature 4 200) p8_stored 0 [] 0 ≡ Ok p8_sent
unfolding has every legal given least used first_with lookup held subscriber unused types subscribers teaching symbol legal_string padded dialled some count set_of without lowest size minus precedes preceded unpreceded next zone_from zone_list zone_for zone_at source_rows target_rows string_of legal_dialled routing_address list_of end_part in_range list_fits fault_in fault well_formed not_own further dialled300 setup_of reversed_setup reversed_outcome_by p6_sent p8_stored p8_sent
p8-made = rw teaching-sound
