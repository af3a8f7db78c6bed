-- `dfc::new_over` meets its contract. Assumes nothing.
use Rattle.std.proofs.Common.{rules, tests}
use Rattle.dfc.specs.Files.{new_over}
use Rattle.dfc.proofs.Sights.{shown, not_shown}
use Rattle.dfc.proofs.new_over.Goals as goal

pub returns-in_err-v : goal.returns-in_err-v
unfolding new_over
returns-in_err-v c = rw (not_shown _ _ _ _ c.scan.ensures.0 c.in_err-v.was) (search (rules, tests))

pub returns : goal.returns
unfolding new_over
returns c =
    let s = shown _ c.scan.ensures.0 c.scan.ensures.1 c.in_ok-v.was in
    rw (s.is, s.kept) (c.new_seen.ensures s.plan 0 (rw (← c.box_address.ensures) s.shows))
