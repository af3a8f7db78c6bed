-- `planread::read_subscribers` meets its contract. Assumes nothing.
use Prim.Native.Nat.{◌-◌, ◌+◌, ◌/◌}
use lib.ListN.{length, drop}
use Rattle.plan.specs.declared.Subscriber.{Subscriber}
use Rattle.planread.proofs.Places.{keeps-is}
use Rattle.planread.proofs.Steps.{boxes-length}
use mathlib.Core.Path.{◌≡◌, refl, sym, ap, ◌∙◌}
use native.Mathlib.Omega.{arith}
use Rattle.typeset.proofs.Bools.{passed, failed}
use Prim.Native.Nat.{◌-◌}
use Rattle.planread.proofs.Going.{going-none, going_on}
use Rattle.planread.proofs.Turns.{turn-refused, turn_inside, turn_end, turn-count, turn_low, turn-high, turn-room, turn-blank, turn-broken, turn_on}
use Rattle.std.proofs.Common.{rules}
use Rattle.planread.proofs.read_subscribers.Goals as goal

pub loop-subscribers-init : goal.loop-subscribers-init
loop-subscribers-init c = rw c.no_subscriber-empty.ensures (going-none c.args.bytes.now c.args.head.types c.args.head.source c.args.head.target c.requires refl)

pub header-requires : goal.header-requires
header-requires c = (omega arith, c.loop-subscribers.invariant.inside)

pub returns-in_err-header : goal.returns-in_err-header
returns-in_err-header c = rw (← c.loop-subscribers.invariant.result, turn-refused c.args.head.types c.args.head.source c.args.head.target c.loop-subscribers.subscribers c.loop-subscribers.count c.loop-subscribers.at c.args.bytes.now c.loop-subscribers.invariant.few (sym c.header.ensures ∙ c.in_err-header.was)) (search rules)

pub bounds-bytes-at : goal.bounds-bytes-at
bounds-bytes-at c = omega (arith, turn_inside c.args.head.types c.args.head.source c.args.head.target c.loop-subscribers.subscribers c.loop-subscribers.count c.loop-subscribers.at c.args.bytes.now c.loop-subscribers.invariant.few (sym c.header.ensures ∙ c.in_ok-header.was))

pub overflow_add-at : goal.overflow_add-at
overflow_add-at c = omega (arith, turn_inside c.args.head.types c.args.head.source c.args.head.target c.loop-subscribers.subscribers c.loop-subscribers.count c.loop-subscribers.at c.args.bytes.now c.loop-subscribers.invariant.few (sym c.header.ensures ∙ c.in_ok-header.was))

pub returns-then-bytes-at-eq127 : goal.returns-then-bytes-at-eq127
returns-then-bytes-at-eq127 c = c.finish.ensures ∙ sym (turn_end c.args.head.types c.args.head.source c.args.head.target c.loop-subscribers.subscribers c.loop-subscribers.count c.loop-subscribers.at c.args.bytes.now c.loop-subscribers.invariant.few (sym c.header.ensures ∙ c.in_ok-header.was) c.if-bytes-at-eq127.true) ∙ c.loop-subscribers.invariant.result

pub overflow_add-at-in-loop-subscribers : goal.overflow_add-at-in-loop-subscribers
overflow_add-at-in-loop-subscribers c = omega (arith, turn_inside c.args.head.types c.args.head.source c.args.head.target c.loop-subscribers.subscribers c.loop-subscribers.count c.loop-subscribers.at c.args.bytes.now c.loop-subscribers.invariant.few (sym c.header.ensures ∙ c.in_ok-header.was))

pub two-n-requires : goal.two-n-requires
two-n-requires c = omega (arith, turn_inside c.args.head.types c.args.head.source c.args.head.target c.loop-subscribers.subscribers c.loop-subscribers.count c.loop-subscribers.at c.args.bytes.now c.loop-subscribers.invariant.few (sym c.header.ensures ∙ c.in_ok-header.was))

pub overflow_add-at-in-loop-subscribers-2 : goal.overflow_add-at-in-loop-subscribers-2
overflow_add-at-in-loop-subscribers-2 c = omega (arith, turn_inside c.args.head.types c.args.head.source c.args.head.target c.loop-subscribers.subscribers c.loop-subscribers.count c.loop-subscribers.at c.args.bytes.now c.loop-subscribers.invariant.few (sym c.header.ensures ∙ c.in_ok-header.was))

pub overflow_sub-n : goal.overflow_sub-n
overflow_sub-n c = turn_low c.args.head.types c.args.head.source c.args.head.target c.loop-subscribers.subscribers c.loop-subscribers.count c.loop-subscribers.at c.args.bytes.now c.loop-subscribers.invariant.few (sym c.header.ensures ∙ c.in_ok-header.was) c.if-bytes-at-eq127.false c.two-n.ensures

pub subscriber_at-s-requires : goal.subscriber_at-s-requires
subscriber_at-s-requires c =
    let low = turn_low c.args.head.types c.args.head.source c.args.head.target c.loop-subscribers.subscribers c.loop-subscribers.count c.loop-subscribers.at c.args.bytes.now c.loop-subscribers.invariant.few (sym c.header.ensures ∙ c.in_ok-header.was) c.if-bytes-at-eq127.false c.two-n.ensures in
    let high = turn-high c.args.head.types c.args.head.source c.args.head.target c.loop-subscribers.subscribers c.loop-subscribers.count c.loop-subscribers.at c.args.bytes.now c.loop-subscribers.invariant.few (sym c.header.ensures ∙ c.in_ok-header.was) c.if-bytes-at-eq127.false c.two-n.ensures in
    let room = turn-room c.args.head.types c.args.head.source c.args.head.target c.loop-subscribers.subscribers c.loop-subscribers.count c.loop-subscribers.at c.args.bytes.now c.loop-subscribers.invariant.few (sym c.header.ensures ∙ c.in_ok-header.was) c.if-bytes-at-eq127.false c.two-n.ensures in
    (omega arith, omega arith)

pub keeps-requires : goal.keeps-requires
keeps-requires c =
    let a = c.args in
    let l = c.loop-subscribers in
    turn-blank a.head.types a.head.source a.head.target l.subscribers l.count l.at a.bytes.now l.invariant.few (sym c.header.ensures ∙ c.in_ok-header.was) c.if-bytes-at-eq127.false c.two-n.ensures c.subscriber_at-s.ensures

pub returns-then-not-keeps : goal.returns-then-not-keeps
returns-then-not-keeps c = sym (turn-broken c.args.head.types c.args.head.source c.args.head.target c.loop-subscribers.subscribers c.loop-subscribers.count c.loop-subscribers.at c.args.bytes.now c.loop-subscribers.invariant.few (sym c.header.ensures ∙ c.in_ok-header.was) c.if-bytes-at-eq127.false c.two-n.ensures c.subscriber_at-s.ensures (failed (keeps-is c.args.head.types c.loop-subscribers.subscribers c.loop-subscribers.count c.subscriber_at-s.result c.loop-subscribers.taken (rw c.loop-subscribers.invariant.places (turn-count c.args.head.types c.args.head.source c.args.head.target c.loop-subscribers.subscribers c.loop-subscribers.count c.loop-subscribers.at c.args.bytes.now c.loop-subscribers.invariant.few (sym c.header.ensures ∙ c.in_ok-header.was) c.if-bytes-at-eq127.false c.two-n.ensures)) c.loop-subscribers.invariant.kept c.loop-subscribers.invariant.table c.loop-subscribers.invariant.last-is c.keeps.ensures) c.if-not-keeps.true-raw)) ∙ c.loop-subscribers.invariant.result

pub offset_bounds-subscribers-count : goal.offset_bounds-subscribers-count
offset_bounds-subscribers-count c = omega (arith, turn-count c.args.head.types c.args.head.source c.args.head.target c.loop-subscribers.subscribers c.loop-subscribers.count c.loop-subscribers.at c.args.bytes.now c.loop-subscribers.invariant.few (sym c.header.ensures ∙ c.in_ok-header.was) c.if-bytes-at-eq127.false c.two-n.ensures)

pub bounds-subscribers-count : goal.bounds-subscribers-count
bounds-subscribers-count c = turn-count c.args.head.types c.args.head.source c.args.head.target c.loop-subscribers.subscribers c.loop-subscribers.count c.loop-subscribers.at c.args.bytes.now c.loop-subscribers.invariant.few (sym c.header.ensures ∙ c.in_ok-header.was) c.if-bytes-at-eq127.false c.two-n.ensures

pub overflow_add-count : goal.overflow_add-count
overflow_add-count c = omega (arith, turn-count c.args.head.types c.args.head.source c.args.head.target c.loop-subscribers.subscribers c.loop-subscribers.count c.loop-subscribers.at c.args.bytes.now c.loop-subscribers.invariant.few (sym c.header.ensures ∙ c.in_ok-header.was) c.if-bytes-at-eq127.false c.two-n.ensures)

pub overflow_add-at-in-loop-subscribers-3 : goal.overflow_add-at-in-loop-subscribers-3
overflow_add-at-in-loop-subscribers-3 c = omega (arith, turn-high c.args.head.types c.args.head.source c.args.head.target c.loop-subscribers.subscribers c.loop-subscribers.count c.loop-subscribers.at c.args.bytes.now c.loop-subscribers.invariant.few (sym c.header.ensures ∙ c.in_ok-header.was) c.if-bytes-at-eq127.false c.two-n.ensures)

pub overflow_add-at-in-loop-subscribers-4 : goal.overflow_add-at-in-loop-subscribers-4
overflow_add-at-in-loop-subscribers-4 c = omega (arith, turn-room c.args.head.types c.args.head.source c.args.head.target c.loop-subscribers.subscribers c.loop-subscribers.count c.loop-subscribers.at c.args.bytes.now c.loop-subscribers.invariant.few (sym c.header.ensures ∙ c.in_ok-header.was) c.if-bytes-at-eq127.false c.two-n.ensures)

pub loop-subscribers-smaller : goal.loop-subscribers-smaller
loop-subscribers-smaller c = omega (arith, turn-count c.args.head.types c.args.head.source c.args.head.target c.loop-subscribers.subscribers c.loop-subscribers.count c.loop-subscribers.at c.args.bytes.now c.loop-subscribers.invariant.few (sym c.header.ensures ∙ c.in_ok-header.was) c.if-bytes-at-eq127.false c.two-n.ensures)

pub loop-subscribers-preserved : goal.loop-subscribers-preserved
loop-subscribers-preserved c =
    let low = turn_low c.args.head.types c.args.head.source c.args.head.target c.loop-subscribers.subscribers c.loop-subscribers.count c.loop-subscribers.at c.args.bytes.now c.loop-subscribers.invariant.few (sym c.header.ensures ∙ c.in_ok-header.was) c.if-bytes-at-eq127.false c.two-n.ensures in
    let high = turn-high c.args.head.types c.args.head.source c.args.head.target c.loop-subscribers.subscribers c.loop-subscribers.count c.loop-subscribers.at c.args.bytes.now c.loop-subscribers.invariant.few (sym c.header.ensures ∙ c.in_ok-header.was) c.if-bytes-at-eq127.false c.two-n.ensures in
    let boxes : length c.subscriber_at-s.result.boxes ≡ 4 = ap (λ (s : Subscriber). length s.boxes) c.subscriber_at-s.ensures ∙ boxes-length ((c.two-n.result - 13) / 2) (drop (c.loop-subscribers.at + 3) c.args.bytes.now) (omega arith) in
    let own = passed (keeps-is c.args.head.types c.loop-subscribers.subscribers c.loop-subscribers.count c.subscriber_at-s.result c.loop-subscribers.taken (rw c.loop-subscribers.invariant.places (turn-count c.args.head.types c.args.head.source c.args.head.target c.loop-subscribers.subscribers c.loop-subscribers.count c.loop-subscribers.at c.args.bytes.now c.loop-subscribers.invariant.few (sym c.header.ensures ∙ c.in_ok-header.was) c.if-bytes-at-eq127.false c.two-n.ensures)) c.loop-subscribers.invariant.kept c.loop-subscribers.invariant.table c.loop-subscribers.invariant.last-is c.keeps.ensures) c.if-not-keeps.false-raw in
    going_on c.args.bytes.now c.args.head.types c.args.head.source c.args.head.target c.loop-subscribers.taken c.loop-subscribers.subscribers c.loop-subscribers.count c.loop-subscribers.last c.loop-subscribers.at _ c.subscriber_at-s.result c.loop-subscribers.invariant
    (turn-count c.args.head.types c.args.head.source c.args.head.target c.loop-subscribers.subscribers c.loop-subscribers.count c.loop-subscribers.at c.args.bytes.now c.loop-subscribers.invariant.few (sym c.header.ensures ∙ c.in_ok-header.was) c.if-bytes-at-eq127.false c.two-n.ensures) (turn-room c.args.head.types c.args.head.source c.args.head.target c.loop-subscribers.subscribers c.loop-subscribers.count c.loop-subscribers.at c.args.bytes.now c.loop-subscribers.invariant.few (sym c.header.ensures ∙ c.in_ok-header.was) c.if-bytes-at-eq127.false c.two-n.ensures) boxes own (turn_on c.args.head.types c.args.head.source c.args.head.target c.loop-subscribers.subscribers c.loop-subscribers.count c.loop-subscribers.at c.args.bytes.now c.loop-subscribers.invariant.few (sym c.header.ensures ∙ c.in_ok-header.was) c.if-bytes-at-eq127.false c.two-n.ensures c.subscriber_at-s.ensures own) c.claim.ensures
