-- `dfc_index::sets_at` meets its contract. Assumes nothing.
use Rattle.std.proofs.Common.{◌≡◌, ◌<◌, length, length-take, sym, arith}
use Rattle.std.proofs.lemmas.List.{get_or-take}
use Rattle.plan.specs.Parts.{nobody}
use Rattle.dfc_index.proofs.Bytes.{sets_first, sets-next}
use Rattle.dfc_index.proofs.sets_at.Goals as goal

pub loop-s-init : goal.loop-s-init
loop-s-init c = (sets_first c.args.subscribers.now, omega arith)

pub overflow_add-at : goal.overflow_add-at
overflow_add-at c = omega (arith, length-take c.args.i c.args.subscribers.now)

pub loop-s-preserved : goal.loop-s-preserved
loop-s-preserved c =
    let subs = c.args.subscribers.now in
    let below : c.loop-s.s-index < c.args.i = omega (arith, length-take c.args.i subs, c.loop-s-test.true) in
    let low : c.loop-s.s-index < length subs = omega (arith, c.told-subscribers) in
    let one = sets-next subs c.loop-s.s-index low in
    let item = get_or-take c.args.i subs c.loop-s.s-index nobody below in
    let here = rw item at c.field_size-at.ensures.0 in
    (rw (c.loop-s.invariant.0, here) (sym one), omega (arith, c.field_size-at.ensures.1, c.loop-s.invariant.1))

pub returns : goal.returns
returns c =
    let subs = c.args.subscribers.now in
    let end : c.loop-s.s-index ≡ c.args.i = omega (arith, length-take c.args.i subs, c.told-subscribers) in
    (rw end at c.loop-s.invariant.0, omega arith)
