-- Document 01's listing, computed. Assumes nothing.
use mathlib.Core.Path.{◌≡◌, refl}
use Rattle.typeset.specs.Sets.{has, every, some, least, count, set_of, without, lowest, size, minus}
use Rattle.plan.specs.Parts.{legal, given}
use Rattle.plan.specs.Find.{used, first_with, lookup}
use Rattle.order.specs.Rules.{precedes}
use Rattle.zone.specs.Order.{preceded, unpreceded, next, zone_from, zone_list}
use Rattle.zone.specs.Answer.{zone_for, zone_at}
use Rattle.teaching.specs.Teaching.{subscriber, unused, types, source_rows, target_rows, subscribers, teaching}
use Rattle.setup.specs.Dialling.{padded, dialled, string_of}
use Rattle.embedded.specs.Embedded.{digit, all_digits, number_from, coded, skipped, after_code, writes_address, embedded}
use Rattle.making_examples.specs.Setups.{dialled300, setup_of, p5_sent}
use Rattle.making_examples.proofs.Made.{p5-made}
use Rattle.routing.specs.Interface.{box_of, first_box, found_box, interface_at}
use Rattle.routing.specs.Steps.{target1}
use Rattle.text.specs.Decimal.{tens, size as digitCount, last_digits, decimal}
use Rattle.journey.specs.Hops.{visits, both_zones, journey}
use Rattle.journey.specs.Listing.{head_line, line, lines, listing}
use Rattle.journey.specs.Desk.{space_in, address_text, string_text, readable, desk_text}
use Rattle.journey.proofs.Walks.{visits-both}
use Rattle.thirteen.specs.Example.{input, shown, Example}

-- the journey of P5's setup: the source zone of 200, the target zone of 300, the line box
visited : journey teaching p5_sent ≡ both_zones teaching 200 300
unfolding p5_sent setup_of dialled300 padded dialled string_of target1 every digit all_digits number_from coded skipped after_code writes_address embedded
visited = visits-both teaching p5_sent refl refl

listed : listing (both_zones teaching 200 300) ≡ shown
unfolding has every some least count set_of without lowest size minus legal given used first_with lookup precedes preceded unpreceded next zone_from zone_list zone_for zone_at subscriber unused types source_rows target_rows subscribers teaching box_of first_box found_box interface_at visits both_zones tens digitCount last_digits decimal head_line line lines listing shown
listed = refl

pub example : Example
unfolding input space_in least address_text string_text readable desk_text every digit all_digits number_from coded skipped after_code writes_address dialled300
example = rw (p5-made, visited) listed
