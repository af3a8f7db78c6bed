-- `making::reversed_outcome` meets its contract. Assumes nothing.
use Rattle.std.proofs.Common.{◌∙◌}
use Rattle.plan.proofs.Sight.{seen_first, seen-second}
use Rattle.making.specs.Making.{reversed_outcome_by}
use Rattle.making.proofs.Shown.{existing-seen, reversible-seen, well-formed-by}
use Rattle.making.proofs.reversed_outcome.Goals as goal

pub returns : goal.returns
unfolding reversed_outcome_by
returns c p e =
    rw (
      c.first_unmet.ensures,
      c.type_exists.ensures p (existing-seen p _ _ e),
      c.makes_more.ensures,
      c.address_held.ensures p (seen_first p _ _ e),
      c.reversible_type.ensures,
      ← reversible-seen p _ _ e,
      c.well_formed_in.ensures ∙ well-formed-by p _ (c.zone_shown-zone.ensures.shown p _ _ _ e (seen-second p _ _ e)) (reversible-seen p _ _ e),
      c.legal_string.ensures,
      c.not_own.ensures,
      c.both_legal.ensures,
      c.turned-back.ensures,
      c.box_address-at.ensures,
    )
