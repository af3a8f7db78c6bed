-- `planback::subscribers` meets its contract. Assumes nothing.
use Rattle.std.proofs.Common.{rules, arith, ◌≡◌, length}
use Rattle.planback.proofs.Ranges.{typed-none, typed-more, typed-all}
use Rattle.planback.proofs.subscribers.Goals as goal

pub loop-s-init : goal.loop-s-init
loop-s-init c = typed-none c.args.all.now

pub loop-s-preserved : goal.loop-s-preserved
loop-s-preserved c = typed-more c.args.all.now c.loop-s.s-index c.loop-s-test.true c.loop-s.invariant c.subscriber.ensures

pub returns : goal.returns
returns c =
    let end : c.loop-s.s-index ≡ length c.args.all.now = search rules in
    typed-all c.args.all.now c.loop-s.s-index (omega (arith, end)) c.loop-s.invariant
