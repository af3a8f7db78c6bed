-- `setup::dial` meets its contract. Assumes nothing.
use Rattle.std.proofs.Common.{sym, ◌∙◌}
use Rattle.setup.specs.Dialling.{dialled}
use Rattle.setup.proofs.Stored.{first-32}
use Rattle.setup.proofs.dial.Goals as goal

pub returns : goal.returns
unfolding dialled
returns c = λ i. record { symbols = c.filled-symbols.ensures i; len = (c.min.ensures ∙ sym (first-32 c.args.s.now)) i }
