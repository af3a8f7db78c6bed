-- `links::put_in` meets its contract. Assumes nothing.
use Rattle.std.proofs.Common.{◌<◌, ◌≤◌, length, arith}
use Rattle.links.proofs.Loops.{push-on, push-last, push-end}
use Rattle.links.proofs.put_in.Goals as goal

pub returns-then-l-eq0 : goal.returns-then-l-eq0
returns-then-l-eq0 c =
    let below : c.loop-i.i < length c.args.set.now = omega (arith, c.told-set) in
    push-last _ _ _ _ _ c.loop-i.invariant.0 below c.loop-i.invariant.1 c.if-l-eq0.true

pub loop-i-preserved : goal.loop-i-preserved
loop-i-preserved c =
    let below : c.loop-i.i < length c.args.set.now = omega (arith, c.told-set) in
    push-on _ _ _ _ _ c.loop-i.invariant.0 below c.loop-i.invariant.1 c.if-l-eq0.false

pub returns : goal.returns
returns c =
    let past : length c.args.set.now ≤ c.loop-i.i = omega (arith, c.told-set) in
    push-end _ _ _ _ _ c.loop-i.invariant.0 past
