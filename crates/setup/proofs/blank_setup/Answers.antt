-- `setup::blank_setup` meets its contract. Assumes nothing.
use Rattle.setup.specs.Setups.{blank}
use Rattle.setup.proofs.blank_setup.Goals as goal

pub returns : goal.returns
unfolding blank
returns c = rw (c.dial-nothing.ensures, c.empty-nowhere.ensures)
