-- `routing::box_chosen` meets its contract. Assumes nothing.
use Rattle.std.proofs.Common.{rules, tests, sym, ◌∙◌}
use Rattle.setup.specs.Setups.{routing}
use Rattle.routing.specs.Interface.{interface_at}
use Rattle.routing.specs.Steps.{callee4}
use Rattle.routing.proofs.Boxes.{interface-shown}
use Rattle.routing.proofs.Chosen.{chosen_none, chosen-some}
use Rattle.routing.proofs.box_chosen.Goals as goal

pub returns-then-is_empty : goal.returns-then-is_empty
unfolding callee4
returns-then-is_empty c p shown =
    let a = c.args in
    c.interface_of.ensures ∙ sym (interface-shown p a.target shown) ∙ sym (chosen_none a.rest.now _ _ (search (rules, tests)))

pub returns : goal.returns
unfolding callee4
returns c p shown =
    let a = c.args in
    rw c.routing.ensures (sym (chosen-some a.rest.now (routing a.region a.source a.target) (interface_at p a.target) (search (rules, tests))))
