-- `planread::scan` meets its contract. Assumes nothing.
use Rattle.std.proofs.Common.{rules}
use Rattle.planread.proofs.Passing.{scanned-refused}
use Rattle.planread.proofs.Onward.{on-refused}
use Rattle.planread.proofs.scan.Goals as goal

pub returns-in_err-head : goal.returns-in_err-head
returns-in_err-head c = rw (scanned-refused c.args.first c.args.second (on-refused c.args.bytes.now c.fixed.ensures.0 c.in_err-head.was)) (search rules)
