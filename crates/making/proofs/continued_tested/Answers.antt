-- `making::continued_tested` meets its contract: it looks at the plan, and hands on what it has seen. Assumes nothing.
use mathlib.Core.Path.{sym, ap₂, ◌∙◌}
use Rattle.plan.specs.Find.{seen}
use Rattle.making.proofs.continued_tested.Goals as goal

pub returns : goal.returns
returns c =
    let p = c.args.plan in
    c.continued_seen.ensures p (sym (c.look-v.ensures ∙ ap₂ (seen p) c.box_address.ensures c.routing_address.ensures))
