-- `links::close_up` meets its contract. Assumes nothing.
use Rattle.std.proofs.Common.{◌≡◌, ◌+◌, ◌<◌, ◌≤◌, length, arith}
use Rattle.links.proofs.Loops.{pull-on, pull-last, pull-end}
use Rattle.links.proofs.close_up.Goals as goal

pub returns-then-l-eq0 : goal.returns-then-l-eq0
returns-then-l-eq0 c =
    let below : c.loop-i.i + 1 < length c.args.set.now = omega (arith, c.told-set) in
    pull-last _ _ _ _ c.loop-i.invariant.1 below c.loop-i.invariant.2 c.if-l-eq0.true

pub loop-i-preserved : goal.loop-i-preserved
loop-i-preserved c =
    let below : c.loop-i.i + 1 < length c.args.set.now = omega (arith, c.told-set) in
    let on = pull-on c.loop-i.set c.args.set.now c.loop-i.i _ c.loop-i.invariant.1 below c.loop-i.invariant.2 c.if-l-eq0.false in
    (omega arith, on.0, on.1)

pub returns : goal.returns
returns c =
    let past : length c.args.set.now ≤ c.loop-i.i + 1 = omega (arith, c.told-set) in
    let last : c.loop-i.i ≡ 63 = omega (arith, c.loop-i.invariant.0) in
    pull-end _ _ _ _ c.loop-i.invariant.1 past 63 last
