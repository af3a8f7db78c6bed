-- `making::continued_outcome` meets its contract. Assumes nothing.
use Rattle.plan.proofs.Sight.{seen_first, seen-second}
use Rattle.making.specs.Making.{continued_outcome_by}
use Rattle.making.proofs.Shown.{existing-seen, reversible-seen}
use Rattle.making.proofs.continued_outcome.Goals as goal

pub returns : goal.returns
unfolding continued_outcome_by
returns c p e =
    rw (
      c.first_unmet.ensures,
      c.type_exists.ensures p (existing-seen p _ _ e),
      c.makes_more.ensures,
      c.address_held.ensures p (seen_first p _ _ e),
      c.continuable.ensures p (c.zone_shown-zone.ensures.shown p _ _ _ e (seen-second p _ _ e)) (reversible-seen p _ _ e),
      c.routing_address.ensures,
      c.legal_string.ensures,
      c.not_own.ensures,
      c.both_legal.ensures,
      c.box_address-at.ensures,
    )
