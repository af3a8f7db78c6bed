-- `journey::one_hop` meets its contract. Assumes nothing.
use Rattle.std.proofs.Common.{rules, tests, sym, ◌∙◌}
use Rattle.journey.specs.Trips.{hop_text, hopped}
use Rattle.journey.proofs.one_hop.Goals as goal

pub returns-in_default : goal.returns-in_default
unfolding hopped hop_text
returns-in_default c = rw (c.in_default.is) (search (rules, tests))

pub returns-in-Ok : goal.returns-in-Ok
unfolding hopped hop_text
returns-in-Ok c = rw (c.in-Some.is, sym c.routed.ensures ∙ c.in-Ok.is) (search (rules, tests))

pub returns-in-Err : goal.returns-in-Err
unfolding hopped hop_text
returns-in-Err c = rw (c.in-Some.is, sym c.routed.ensures ∙ c.in-Err.is) (search (rules, tests))
