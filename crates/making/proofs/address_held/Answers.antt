-- `making::address_held` meets its contract. Assumes nothing.
use Rattle.std.proofs.Common.{sym, ap, ◌∙◌}
use Rattle.making.proofs.Shown.{held_by, held-shown}
use Rattle.making.proofs.address_held.Goals as goal

pub returns-in-Feature : goal.returns-in-Feature
returns-in-Feature c p e = sym (ap (held_by c.args.holder) c.in-Feature.is) ∙ held-shown p c.args.maker e

pub returns-in-Line : goal.returns-in-Line
returns-in-Line c p e = sym (ap (held_by c.args.holder) c.in-Line.is) ∙ held-shown p c.args.maker e

pub returns-in-Trunk : goal.returns-in-Trunk
returns-in-Trunk c p e = sym (ap (held_by c.args.holder) c.in-Trunk.is) ∙ held-shown p c.args.maker e
