-- P1 and P2: zones of the teaching plan, computed from the definitions. Assumes nothing.
use mathlib.Core.Path.{◌≡◌, refl}
use mathlib.Core.List.{[], ◌∷◌}
use Rattle.typeset.specs.Sets.{has, some, least, count, set_of, without, lowest, size, minus}
use Rattle.plan.specs.declared.Region.TheVariants.{Source, Target}
use Rattle.order.specs.Rules.{precedes}
use Rattle.plan.specs.Parts.{legal, given}
use Rattle.plan.specs.Find.{used, first_with, lookup}
use Rattle.zone.specs.Order.{preceded, unpreceded, next, zone_from, zone_list}
use Rattle.zone.specs.Answer.{zone_for, zone_at}
use Rattle.teaching.specs.Teaching.{subscriber, unused, types, source_rows, target_rows, subscribers, teaching}

-- P1: the target zone of 300 is 3, 5, 4, 2
pub p1 : zone_at teaching Target 300 ≡ 3 ∷ 5 ∷ 4 ∷ 2 ∷ []
unfolding has some least count set_of without lowest size minus precedes used first_with given legal lookup preceded unpreceded next zone_from zone_list zone_for zone_at subscriber unused types source_rows target_rows subscribers teaching
p1 = refl

-- P2: the target zone of 200 is 4, 2
pub p2 : zone_at teaching Target 200 ≡ 4 ∷ 2 ∷ []
unfolding has some least count set_of without lowest size minus precedes used first_with given legal lookup preceded unpreceded next zone_from zone_list zone_for zone_at subscriber unused types source_rows target_rows subscribers teaching
p2 = refl

-- the source zone of 200 is 1, 2, 4, and nobody has the address 201
pub source-of-200 : (zone_at teaching Source 200 ≡ 1 ∷ 2 ∷ 4 ∷ []) × (zone_at teaching Source 201 ≡ [])
unfolding has some least count set_of without lowest size minus precedes used first_with given legal lookup preceded unpreceded next zone_from zone_list zone_for zone_at subscriber unused types source_rows target_rows subscribers teaching
source-of-200 = (refl, refl)
