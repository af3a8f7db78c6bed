-- `dfc::continued_over` meets its contract. Assumes nothing.
use Rattle.std.proofs.Common.{rules, tests}
use Rattle.dfc.specs.Files.{continued_over}
use Rattle.dfc.proofs.Sights.{shown, not_shown}
use Rattle.dfc.proofs.continued_over.Goals as goal

pub returns-in_err-v : goal.returns-in_err-v
unfolding continued_over
returns-in_err-v c = rw (not_shown _ _ _ _ c.scan.ensures.0 c.in_err-v.was) (search (rules, tests))

pub returns : goal.returns
unfolding continued_over
returns c =
    let s = shown _ c.scan.ensures.0 c.scan.ensures.1 c.in_ok-v.was in
    rw (s.is, s.kept) (c.continued_seen.ensures s.plan (rw (← c.box_address.ensures, ← c.routing_address.ensures) s.shows))
