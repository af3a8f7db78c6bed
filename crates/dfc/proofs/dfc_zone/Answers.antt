-- `dfc::dfc_zone` meets its contract. Assumes nothing.
use Rattle.std.proofs.Common.{refl, ap, ◌∙◌}
use Rattle.plan.proofs.Sight.{seen_first}
use Rattle.zone.specs.declared.Zone.{Zone}
use Rattle.zone.specs.Order.{held}
use Rattle.answers.specs.Said.{accepted}
use Rattle.dfc.specs.Files.{zoned, types_zoned}
use Rattle.dfc.proofs.Sights.{shown, not_shown}
use Rattle.dfc.proofs.dfc_zone.Goals as goal

pub returns-in-Ok : goal.returns-in-Ok
unfolding zoned types_zoned held
returns-in-Ok c =
    let s = shown _ c.scan.ensures.0 c.scan.ensures.1 c.in-Ok.is in
    let zone = c.zone_shown-zone.ensures.shown s.plan c.args.address 0 c.args.address s.shows (seen_first s.plan c.args.address 0 s.shows) in (
      rw (s.is, ← c.region_of.ensures) (c.accepted.ensures ∙ ap accepted (c.into.ensures ∙ ap (λ (z : Zone). z.len) zone)),
      rw (s.is, ← c.region_of.ensures) (ap (λ (z : Zone). z.types) zone),
    )

pub returns-in-Err : goal.returns-in-Err
unfolding zoned types_zoned
returns-in-Err c = let e = not_shown _ _ _ _ c.scan.ensures.0 c.in-Err.is in (rw e c.refused.ensures, rw e refl)
