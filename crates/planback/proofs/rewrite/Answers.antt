-- `planback::rewrite` meets its contract. Assumes nothing.
use Rattle.std.proofs.Common.{rules, ◌≤◌, length, arith, sym}
use Rattle.planback.proofs.Ranges.{below-each}
use Rattle.planback.proofs.Again.{again-refused, again-short, again-fits}
use Rattle.planback.proofs.rewrite.Goals as goal

pub returns-in_err-verdict : goal.returns-in_err-verdict
returns-in_err-verdict c =
    let is = again-refused c.args.file.now c.args.room.now c.verdict.ensures.value c.in_err-verdict.was in
    (rw is.0 (search rules), sym is.1)

pub returns-then-room-n : goal.returns-then-room-n
returns-then-room-n c =
    let is = again-short c.args.file.now c.args.room.now c.verdict.ensures.value (below-each 256 c.args.file.now (λ i. (c.type_inv.file i).fits)) c.in_ok-verdict.was c.if-room-n.true in
    (sym is.0, sym is.1)

pub returns : goal.returns
returns c =
    let fits : length c.args.file.now ≤ length c.args.room.now = omega (arith, c.if-room-n.false) in
    let is = again-fits c.args.file.now c.args.room.now c.verdict.ensures.value (below-each 256 c.args.file.now (λ i. (c.type_inv.file i).fits)) c.in_ok-verdict.was fits in
    (sym is.0, rw c.copy_from_slice.ensures.after (sym is.1))
