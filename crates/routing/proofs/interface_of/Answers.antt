-- `routing::interface_of` meets its contract. Assumes nothing.
use Rattle.std.proofs.Common.{sym, ◌∙◌}
use Rattle.routing.proofs.Boxes.{none-listed, one-listed}
use Rattle.routing.proofs.interface_of.Goals as goal

pub returns-in_default : goal.returns-in_default
returns-in_default c = sym (none-listed c.args.holder c.args.address (sym c.look_up.ensures ∙ c.in_default.is))

pub returns : goal.returns
returns c = c.box_of.ensures ∙ sym (one-listed c.args.holder c.args.address _ _ (sym c.look_up.ensures ∙ c.in-Some.is))
