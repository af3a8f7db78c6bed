-- `faults::well_formed` meets its contract. Assumes nothing.
use Rattle.std.proofs.Common.{ap, ◌∙◌}
use Rattle.setup.specs.Setups.{faultless, well_formed}
use Rattle.setup.proofs.Faults.{none-said}
use Rattle.faults.proofs.well_formed.Goals as goal

pub returns : goal.returns
unfolding well_formed
returns c = none-said _ _ c.is_none.ensures ∙ ap faultless c.fault_of.ensures
