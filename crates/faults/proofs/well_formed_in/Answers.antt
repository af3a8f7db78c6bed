-- `faults::well_formed_in` meets its contract. Assumes nothing.
use Rattle.std.proofs.Common.{ap, ◌∙◌}
use Rattle.setup.specs.Setups.{faultless}
use Rattle.setup.proofs.Faults.{none-said}
use Rattle.faults.proofs.well_formed_in.Goals as goal

pub returns : goal.returns
returns c = none-said _ _ c.is_none.ensures ∙ ap faultless c.fault_in.ensures
