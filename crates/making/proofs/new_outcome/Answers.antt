-- `making::new_outcome` meets its contract. Assumes nothing.
use Rattle.making.specs.Making.{new_outcome_by}
use Rattle.making.proofs.new_outcome.Goals as goal

pub returns : goal.returns
unfolding new_outcome_by
returns c p e h =
    rw (
      c.first_unmet.ensures,
      c.type_exists.ensures p e,
      c.makes_new.ensures,
      c.address_held.ensures p h,
      c.legal_string.ensures,
      c.legal.ensures,
    )
