-- `routing::route_tested` meets its contract: the plan shows what it hands on. Assumes nothing.
use mathlib.Core.Path.{sym}
use Rattle.routing.proofs.route_tested.Goals as goal

pub returns : goal.returns
returns c =
    let shown = rw c.extracted.ensures at c.look-v.ensures in
    c.route_seen.ensures.value c.args.plan (sym shown)
