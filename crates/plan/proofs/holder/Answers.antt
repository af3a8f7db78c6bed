-- `plan::holder` meets its contract. Assumes nothing.
use Rattle.std.proofs.Common.{sym, ◌∙◌, arith}
use Rattle.plan.proofs.Lookup.{found_below}
use Rattle.plan.specs.Find.{holder_at}
use Rattle.plan.proofs.holder.Goals as goal

pub offset_bounds-plan-i : goal.offset_bounds-plan-i
offset_bounds-plan-i c = omega (arith, found_below _ _ _ (sym c.find.ensures ∙ c.in-Some.is))

pub bounds-plan-i : goal.bounds-plan-i
bounds-plan-i c = found_below _ _ _ (sym c.find.ensures ∙ c.in-Some.is)

pub returns-in_default : goal.returns-in_default
unfolding holder_at
returns-in_default c = rw (sym c.find.ensures ∙ c.in_default.is) c.no_subscriber.ensures

pub returns : goal.returns
unfolding holder_at
returns c = rw (sym c.find.ensures ∙ c.in-Some.is)
