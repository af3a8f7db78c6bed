-- `routing::exhausted` meets its contract. Assumes nothing.
use Rattle.std.proofs.Common.{sym, ap, ◌∙◌}
use Rattle.std.specs.Prelude.{drop}
use Rattle.plan.specs.declared.Region.{Region}
use Rattle.zone.specs.Order.{list_of}
use Rattle.routing.specs.Steps.{exhausted}
use Rattle.routing.proofs.Parts.{empty-drop}
use Rattle.routing.proofs.exhausted.Goals as goal

pub returns-in-Source : goal.returns-in-Source
returns-in-Source c =
    let a = c.args in
    rw c.as_slice.ensures (sym (empty-drop a.from (list_of a.zone)))
    ∙ sym (ap (λ (q : Region). exhausted q (drop a.from (list_of a.zone))) c.in-Source.is)
