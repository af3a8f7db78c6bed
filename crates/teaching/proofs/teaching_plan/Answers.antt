-- `teaching::teaching_plan` meets its contract. Assumes nothing.
use Rattle.teaching.specs.Teaching.{teaching}
use Rattle.teaching.proofs.teaching_plan.Goals as goal

pub returns : goal.returns
unfolding teaching
returns c =
    λ i. record {
      types = c.types.ensures i;
      source_order = c.source_rows.ensures i;
      target_order = c.target_rows.ensures i;
      subscribers = c.subscribers.ensures i;
      count = 6;
    }
