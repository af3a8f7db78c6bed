-- P8 of document 01 as an instance: type 4 at 200 reverses a source setup; type 2 at 200 is what is left, and was what came before. Computed from the definitions, and
-- once more as the theorem has it. Assumes nothing.
use mathlib.Core.Path.{◌≡◌, refl}
use mathlib.Core.Logic.{inl}
use mathlib.Core.List.{[], ◌∷◌}
use lib.Dec.{lit<}
use Rattle.typeset.specs.Sets.{has, every, some, least, count, set_of, without, lowest, size, minus}
use Rattle.plan.specs.declared.Region.TheVariants.{Source, Target}
use Rattle.plan.specs.Parts.{legal, given}
use Rattle.plan.specs.Find.{used, first_with, lookup}
use Rattle.order.specs.Rules.{precedes}
use Rattle.zone.specs.Order.{preceded, unpreceded, next, zone_from, zone_list}
use Rattle.zone.specs.Answer.{zone_for, zone_at}
use Rattle.teaching.specs.Teaching.{subscriber, unused, types, source_rows, target_rows, subscribers, teaching}
use Rattle.teaching.proofs.Changes.{teaching-sound}
use Rattle.reversal.specs.Reversal.{types_before, types_after, those, reversible_before, reversible_after, Mirrored}
use Rattle.reversal.proofs.Theorem.{reversal}

-- left after type 4 in the target zone of 200, and before it in the source zone: type 2, and not type 1, which is not reversible
pub p8-left : reversible_after teaching Target 200 4 ≡ 2 ∷ []
unfolding has every some least count set_of without lowest size minus legal given used first_with lookup precedes preceded unpreceded next zone_from zone_list zone_for zone_at subscriber unused types source_rows target_rows subscribers teaching types_before types_after those reversible_before reversible_after
p8-left = refl

pub p8-before : reversible_before teaching Source 200 4 ≡ 2 ∷ []
unfolding has every some least count set_of without lowest size minus legal given used first_with lookup precedes preceded unpreceded next zone_from zone_list zone_for zone_at subscriber unused types source_rows target_rows subscribers teaching types_before types_after those reversible_before reversible_after
p8-before = refl

-- the theorem's instance: the subscriber at place 0, which is 200
pub p8-mirrored : Mirrored teaching 200 4
unfolding has types subscriber unused subscribers teaching
p8-mirrored = reversal teaching teaching-sound 0 (lit< tt) 4 (lit< tt) refl (inl refl)
