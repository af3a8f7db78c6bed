-- `dfc::port_place_over` meets its contract. Assumes nothing.
use Rattle.std.proofs.Common.{rules, tests}
use Rattle.dfc.specs.Calls.{place_over, port_placed, source_placed, target_placed}
use Rattle.dfc.proofs.Sights.{shown, not_shown}
use Rattle.dfc.proofs.port_place_over.Goals as goal

pub returns-in_err-v : goal.returns-in_err-v
unfolding place_over port_placed source_placed target_placed
returns-in_err-v c = let e = not_shown _ _ _ _ c.scan.ensures.0 c.in_err-v.was in (rw e (search (rules, tests)), rw e (search (rules, tests)), rw e (search (rules, tests)), rw e (search (rules, tests)))

pub returns : goal.returns
unfolding place_over port_placed source_placed target_placed
returns c =
    let s = shown _ c.scan.ensures.0 c.scan.ensures.1 c.in_ok-v.was in
    let on = c.port_place.ensures.value s.plan (rw (← c.extracted.ensures) s.shows) in
    (rw (s.is, s.kept) on.0, rw (s.is, s.kept) on.1, rw (s.is, s.kept) on.3, rw (s.is, s.kept) on.4)
