-- `routing::settled` meets its contract. Assumes nothing.
use Rattle.std.proofs.Common.{rules, sym, ◌∙◌}
use Rattle.routing.specs.Places.{settled_in}
use Rattle.routing.proofs.Zoned.{then-later}
use Rattle.routing.proofs.settled.Goals as goal

pub returns-in_err-first_unmet : goal.returns-in_err-first_unmet
unfolding settled_in
returns-in_err-first_unmet c =
    rw (← c.of-zone.ensures, ← c.well_formed_in.ensures, ← c.roomy.ensures, then-later, sym c.first_unmet.ensures ∙ c.in_err-first_unmet.was) (search rules)

pub returns : goal.returns
unfolding settled_in
returns c = rw (← c.of-zone.ensures, ← c.well_formed_in.ensures, ← c.roomy.ensures, then-later, sym c.first_unmet.ensures ∙ c.in_ok-first_unmet.was)
