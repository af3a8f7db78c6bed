-- `routing::begins` meets its contract. Assumes nothing.
use Rattle.std.proofs.Common.{sym, ap, ◌∙◌}
use Rattle.setup.specs.declared.Route.{Route}
use Rattle.zone.specs.Order.{list_of}
use Rattle.routing.specs.Places.{begins}
use Rattle.routing.proofs.begins.Goals as goal

pub returns-in-Suffix : goal.returns-in-Suffix
returns-in-Suffix c =
    let a = c.args in
    c.suffix_begins.ensures ∙ sym (ap (λ (q : Route). begins q a.placing (list_of a.list) (list_of a.zone)) c.in-Suffix.is)
