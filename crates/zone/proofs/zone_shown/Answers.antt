-- `zone::zone_shown` meets its contract. Assumes nothing.
use Rattle.std.proofs.Common.{sym, ap, ◌∙◌}
use Rattle.plan.specs.declared.Region.TheVariants.{Source, Target}
use Rattle.zone.specs.Order.{held}
use Rattle.zone.proofs.PlanZones.{zone-seen}
use Rattle.zone.proofs.zone_shown.Goals as goal

pub returns-in-Source : goal.returns-in-Source
returns-in-Source c = record {
  value = rw c.in-Source.is c.zone_of.ensures;
  shown = λ p first second a shown here. rw c.in-Source.is (c.zone_of.ensures ∙ sym (ap held (zone-seen p Source first second a _ _ shown here)));
}

pub returns-in-Target : goal.returns-in-Target
returns-in-Target c = record {
  value = rw c.in-Target.is c.zone_of-in-Target.ensures;
  shown = λ p first second a shown here. rw c.in-Target.is (c.zone_of-in-Target.ensures ∙ sym (ap held (zone-seen p Target first second a _ _ shown here)));
}
