-- `recordbytes::three_sent` meets its contract. Assumes nothing.
use native.Mathlib.Omega.{arith}
use Prim.Native.Nat.{◌+◌}
use lib.ListN.{length-set}
use mathlib.Core.Path.{refl}
use Rattle.ends.specs.declared.Side.TheVariants.{Caller, Callee}
use Rattle.recordbytes.proofs.Numbers.{state-no-count, put_count}
use Rattle.recordbytes.proofs.Acts.{three-put}
use Rattle.recordbytes.proofs.three_sent.Goals as goal

pub push-requires-2 : goal.push-requires-2
push-requires-2 c =
    let a = c.args in
    let kept = state-no-count a.row.now a.at Callee Caller 4 refl refl in
    let one = put_count _ (a.at + 4) 2 0 0 (simp length-set (omega (arith, c.requires.0))) c.push.ensures in
    omega (arith, c.requires.0, kept, one, c.push.auto.row, length-set a.row.now (a.at + 1) 4)

pub push-requires-3 : goal.push-requires-3
push-requires-3 c =
    let a = c.args in
    let kept = state-no-count a.row.now a.at Callee Caller 4 refl refl in
    let one = put_count _ (a.at + 4) 2 0 0 (simp length-set (omega (arith, c.requires.0))) c.push.ensures in
    let two = put_count _ (a.at + 4) a.status 0 0 (omega (arith, c.requires.0, c.push.auto.row, length-set a.row.now (a.at + 1) 4)) c.push-2.ensures in
    omega (arith, c.requires.0, kept, one, two, c.push.auto.row, c.push-2.auto.row, length-set a.row.now (a.at + 1) 4)

pub returns : goal.returns
returns c =
    let a = c.args in
    three-put a.row.now a.at a.status c.requires.1 c.requires.2 c.if-row-at-ne2.false (omega arith) c.push.ensures c.push-2.ensures c.push-3.ensures
