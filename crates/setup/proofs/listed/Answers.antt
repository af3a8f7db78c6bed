-- `setup::listed` meets its contract. Assumes nothing.
use Rattle.std.proofs.Common.{sym, ◌∙◌}
use Rattle.zone.specs.Order.{held}
use Rattle.setup.specs.Dialling.{padded}
use Rattle.setup.proofs.Stored.{first-32}
use Rattle.setup.proofs.listed.Goals as goal

pub returns : goal.returns
unfolding held padded
returns c = λ i. record { types = c.filled-types.ensures i; len = (c.min.ensures ∙ sym (first-32 c.args.s.now)) i }
