-- `owners::who` meets its contract. Assumes nothing.
use mathlib.Core.Path.{◌∙◌}
use Rattle.owners.proofs.Owners.{by-shown}
use Rattle.owners.proofs.who.Goals as goal

pub returns : goal.returns
returns c = c.who_by.ensures ∙ by-shown _ _ _ _ _ _ c.look-shown.ensures
