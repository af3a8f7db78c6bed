-- `zone::zone_at` meets its contract. Assumes nothing.
use Rattle.std.proofs.Common.{sym, ap}
use Rattle.plan.specs.declared.Seen.{Seen}
use Rattle.plan.specs.Find.{seen}
use Rattle.zone.proofs.zone_at.Goals as goal

pub returns : goal.returns
unfolding seen
returns c = c.zone_shown.ensures.shown c.args.plan c.args.address 0 c.args.address (sym c.look-v.ensures) (ap (λ (v : Seen). v.first) (sym c.look-v.ensures))
