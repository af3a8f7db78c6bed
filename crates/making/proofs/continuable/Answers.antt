-- `making::continuable` meets its contract. Assumes nothing.
use Rattle.std.proofs.Common.{rules, tests, sym, ◌∙◌}
use Rattle.making.proofs.Shown.{well-formed-by}
use Rattle.making.proofs.continuable.Goals as goal

pub returns-then-well_formed_in : goal.returns-then-well_formed_in
returns-then-well_formed_in c p here types = rw (sym (c.well_formed_in.ensures ∙ well-formed-by p _ here types) ∙ c.if-well_formed_in.true) (search (rules, tests))

pub returns-else-well_formed_in : goal.returns-else-well_formed_in
returns-else-well_formed_in c p here types = rw (sym (c.well_formed_in.ensures ∙ well-formed-by p _ here types) ∙ c.if-well_formed_in.false) c.if-well_formed_in.false
