-- `planread::pass_subscribers` meets its contract. Assumes nothing.
use Rattle.std.specs.Prelude.{Result}
use Prim.Native.Nat.{◌-◌, ◌+◌, ◌/◌}
use mathlib.Core.List.{[]}
use lib.ListN.{length, drop}
use Rattle.plan.specs.declared.Subscriber.{Subscriber}
use Rattle.planread.proofs.Places.{keeps-is}
use Rattle.planread.proofs.Steps.{boxes-length}
use mathlib.Core.Path.{◌≡◌, refl, sym, ap, ◌∙◌}
use native.Mathlib.Omega.{arith}
use Rattle.typeset.proofs.Bools.{passed, failed}
use Prim.Native.Nat.{◌-◌}
use Rattle.planread.proofs.Going.{going_on}
use Rattle.planread.proofs.Passing.{sighted-end, passing-none, shown-new, shown-kept, scanned-refused, scanned-end, sighted-refused}
use Rattle.planread.specs.Scanning.{scanned, sighted}
use Rattle.planread.proofs.Turns.{turn-refused, turn_inside, turn_end, turn-count, turn_low, turn-high, turn-room, turn-blank, turn-broken, turn_on}
use Rattle.std.proofs.Common.{rules}
use Rattle.planread.proofs.pass_subscribers.Goals as goal
use Rattle.planread.proofs.pass_subscribers.Goals.{else-s-first, else-s-second, then-s-first, then-s-second}
use Rattle.refusal.specs.declared.Refusal.{Refusal}

pub loop-n-init : goal.loop-n-init
loop-n-init c = λ source target. passing-none c.args.bytes.now c.args.types source target c.args.first c.args.second c.requires refl c.no_subscriber-one.ensures c.no_subscriber-other.ensures

pub header-requires : goal.header-requires
header-requires c = (omega arith, (c.loop-n.invariant [] []).going.inside)

pub returns-in_err-header : goal.returns-in_err-header
returns-in_err-header c = λ source target. sighted-refused _ _ _ (search rules) ∙ sym (scanned-refused c.args.first c.args.second (sym (c.loop-n.invariant source target).going.result ∙ turn-refused c.args.types source target (c.loop-n.invariant source target).subs c.loop-n.count c.loop-n.at c.args.bytes.now (c.loop-n.invariant source target).going.few (sym c.header.ensures ∙ c.in_err-header.was)))

pub bounds-bytes-at : goal.bounds-bytes-at
bounds-bytes-at c = omega (arith, turn_inside c.args.types [] [] (c.loop-n.invariant [] []).subs c.loop-n.count c.loop-n.at c.args.bytes.now (c.loop-n.invariant [] []).going.few (sym c.header.ensures ∙ c.in_ok-header.was))

pub overflow_add-at : goal.overflow_add-at
overflow_add-at c = omega (arith, turn_inside c.args.types [] [] (c.loop-n.invariant [] []).subs c.loop-n.count c.loop-n.at c.args.bytes.now (c.loop-n.invariant [] []).going.few (sym c.header.ensures ∙ c.in_ok-header.was))

pub returns-then-bytes-at-eq127 : goal.returns-then-bytes-at-eq127
returns-then-bytes-at-eq127 c = λ source target. ap (λ (v : Result (Subscriber × Subscriber) Refusal). sighted v c.args.types source target) c.finish.ensures ∙ sighted-end c.args.types source target _ _ _ _ ∙ rw ((c.loop-n.invariant source target).one-is, (c.loop-n.invariant source target).other-is) (sym (scanned-end c.args.types source target (c.loop-n.invariant source target).subs c.loop-n.count c.args.first c.args.second _ _)) ∙ ap (scanned c.args.first c.args.second) (sym (turn_end c.args.types source target (c.loop-n.invariant source target).subs c.loop-n.count c.loop-n.at c.args.bytes.now (c.loop-n.invariant source target).going.few (sym c.header.ensures ∙ c.in_ok-header.was) c.if-bytes-at-eq127.true) ∙ (c.loop-n.invariant source target).going.result)

pub overflow_add-at-in-loop-n : goal.overflow_add-at-in-loop-n
overflow_add-at-in-loop-n c = omega (arith, turn_inside c.args.types [] [] (c.loop-n.invariant [] []).subs c.loop-n.count c.loop-n.at c.args.bytes.now (c.loop-n.invariant [] []).going.few (sym c.header.ensures ∙ c.in_ok-header.was))

pub two-n-requires : goal.two-n-requires
two-n-requires c = omega (arith, turn_inside c.args.types [] [] (c.loop-n.invariant [] []).subs c.loop-n.count c.loop-n.at c.args.bytes.now (c.loop-n.invariant [] []).going.few (sym c.header.ensures ∙ c.in_ok-header.was))

pub overflow_add-at-in-loop-n-2 : goal.overflow_add-at-in-loop-n-2
overflow_add-at-in-loop-n-2 c = omega (arith, turn_inside c.args.types [] [] (c.loop-n.invariant [] []).subs c.loop-n.count c.loop-n.at c.args.bytes.now (c.loop-n.invariant [] []).going.few (sym c.header.ensures ∙ c.in_ok-header.was))

pub overflow_sub-n : goal.overflow_sub-n
overflow_sub-n c = turn_low c.args.types [] [] (c.loop-n.invariant [] []).subs c.loop-n.count c.loop-n.at c.args.bytes.now (c.loop-n.invariant [] []).going.few (sym c.header.ensures ∙ c.in_ok-header.was) c.if-bytes-at-eq127.false c.two-n.ensures

pub subscriber_at-s-requires : goal.subscriber_at-s-requires
subscriber_at-s-requires c = let low = turn_low c.args.types [] [] (c.loop-n.invariant [] []).subs c.loop-n.count c.loop-n.at c.args.bytes.now (c.loop-n.invariant [] []).going.few (sym c.header.ensures ∙ c.in_ok-header.was) c.if-bytes-at-eq127.false c.two-n.ensures in
    let high = turn-high c.args.types [] [] (c.loop-n.invariant [] []).subs c.loop-n.count c.loop-n.at c.args.bytes.now (c.loop-n.invariant [] []).going.few (sym c.header.ensures ∙ c.in_ok-header.was) c.if-bytes-at-eq127.false c.two-n.ensures in
    let room = turn-room c.args.types [] [] (c.loop-n.invariant [] []).subs c.loop-n.count c.loop-n.at c.args.bytes.now (c.loop-n.invariant [] []).going.few (sym c.header.ensures ∙ c.in_ok-header.was) c.if-bytes-at-eq127.false c.two-n.ensures in
    (omega arith, omega arith)

pub keeps-requires : goal.keeps-requires
keeps-requires c =
    let a = c.args in
    let l = c.loop-n in
    turn-blank a.types [] [] (l.invariant [] []).subs l.count l.at a.bytes.now (l.invariant [] []).going.few (sym c.header.ensures ∙ c.in_ok-header.was) c.if-bytes-at-eq127.false c.two-n.ensures c.subscriber_at-s.ensures

pub returns-then-not-keeps : goal.returns-then-not-keeps
returns-then-not-keeps c = λ source target. sym (scanned-refused c.args.first c.args.second (sym (c.loop-n.invariant source target).going.result ∙ turn-broken c.args.types source target (c.loop-n.invariant source target).subs c.loop-n.count c.loop-n.at c.args.bytes.now (c.loop-n.invariant source target).going.few (sym c.header.ensures ∙ c.in_ok-header.was) c.if-bytes-at-eq127.false c.two-n.ensures c.subscriber_at-s.ensures (failed (keeps-is c.args.types (c.loop-n.invariant source target).subs c.loop-n.count c.subscriber_at-s.result c.loop-n.taken (rw (c.loop-n.invariant source target).going.places (turn-count c.args.types source target (c.loop-n.invariant source target).subs c.loop-n.count c.loop-n.at c.args.bytes.now (c.loop-n.invariant source target).going.few (sym c.header.ensures ∙ c.in_ok-header.was) c.if-bytes-at-eq127.false c.two-n.ensures)) (c.loop-n.invariant source target).going.kept (c.loop-n.invariant source target).going.table (c.loop-n.invariant source target).going.last-is c.keeps.ensures) c.if-not-keeps.true-raw)))

pub overflow_add-count : goal.overflow_add-count
overflow_add-count c = omega (arith, turn-count c.args.types [] [] (c.loop-n.invariant [] []).subs c.loop-n.count c.loop-n.at c.args.bytes.now (c.loop-n.invariant [] []).going.few (sym c.header.ensures ∙ c.in_ok-header.was) c.if-bytes-at-eq127.false c.two-n.ensures)

pub overflow_add-at-in-loop-n-3 : goal.overflow_add-at-in-loop-n-3
overflow_add-at-in-loop-n-3 c = omega (arith, turn-high c.args.types [] [] (c.loop-n.invariant [] []).subs c.loop-n.count c.loop-n.at c.args.bytes.now (c.loop-n.invariant [] []).going.few (sym c.header.ensures ∙ c.in_ok-header.was) c.if-bytes-at-eq127.false c.two-n.ensures)

pub overflow_add-at-in-loop-n-4 : goal.overflow_add-at-in-loop-n-4
overflow_add-at-in-loop-n-4 c = omega (arith, c.well_formed, turn-room c.args.types [] [] (c.loop-n.invariant [] []).subs c.loop-n.count c.loop-n.at c.args.bytes.now (c.loop-n.invariant [] []).going.few (sym c.header.ensures ∙ c.in_ok-header.was) c.if-bytes-at-eq127.false c.two-n.ensures)

pub loop-n-smaller : goal.loop-n-smaller
loop-n-smaller c = omega (arith, turn-count c.args.types [] [] (c.loop-n.invariant [] []).subs c.loop-n.count c.loop-n.at c.args.bytes.now (c.loop-n.invariant [] []).going.few (sym c.header.ensures ∙ c.in_ok-header.was) c.if-bytes-at-eq127.false c.two-n.ensures)

pub loop-n-preserved : goal.loop-n-preserved
loop-n-preserved c = λ source target. let low = turn_low c.args.types source target (c.loop-n.invariant source target).subs c.loop-n.count c.loop-n.at c.args.bytes.now (c.loop-n.invariant source target).going.few (sym c.header.ensures ∙ c.in_ok-header.was) c.if-bytes-at-eq127.false c.two-n.ensures in
    let high = turn-high c.args.types source target (c.loop-n.invariant source target).subs c.loop-n.count c.loop-n.at c.args.bytes.now (c.loop-n.invariant source target).going.few (sym c.header.ensures ∙ c.in_ok-header.was) c.if-bytes-at-eq127.false c.two-n.ensures in
    let boxes : length c.subscriber_at-s.result.boxes ≡ 4 = ap (λ (s : Subscriber). length s.boxes) c.subscriber_at-s.ensures ∙ boxes-length ((c.two-n.result - 13) / 2) (drop (c.loop-n.at + 3) c.args.bytes.now) (omega arith) in
    let own = passed (keeps-is c.args.types (c.loop-n.invariant source target).subs c.loop-n.count c.subscriber_at-s.result c.loop-n.taken (rw (c.loop-n.invariant source target).going.places (turn-count c.args.types source target (c.loop-n.invariant source target).subs c.loop-n.count c.loop-n.at c.args.bytes.now (c.loop-n.invariant source target).going.few (sym c.header.ensures ∙ c.in_ok-header.was) c.if-bytes-at-eq127.false c.two-n.ensures)) (c.loop-n.invariant source target).going.kept (c.loop-n.invariant source target).going.table (c.loop-n.invariant source target).going.last-is c.keeps.ensures) c.if-not-keeps.false-raw in
    let room = (turn-count c.args.types source target (c.loop-n.invariant source target).subs c.loop-n.count c.loop-n.at c.args.bytes.now (c.loop-n.invariant source target).going.few (sym c.header.ensures ∙ c.in_ok-header.was) c.if-bytes-at-eq127.false c.two-n.ensures) in
    let going = going_on c.args.bytes.now c.args.types source target c.loop-n.taken (c.loop-n.invariant source target).subs c.loop-n.count c.loop-n.before c.loop-n.at _ c.subscriber_at-s.result (c.loop-n.invariant source target).going
    (turn-count c.args.types source target (c.loop-n.invariant source target).subs c.loop-n.count c.loop-n.at c.args.bytes.now (c.loop-n.invariant source target).going.few (sym c.header.ensures ∙ c.in_ok-header.was) c.if-bytes-at-eq127.false c.two-n.ensures) (turn-room c.args.types source target (c.loop-n.invariant source target).subs c.loop-n.count c.loop-n.at c.args.bytes.now (c.loop-n.invariant source target).going.few (sym c.header.ensures ∙ c.in_ok-header.was) c.if-bytes-at-eq127.false c.two-n.ensures) boxes own (turn_on c.args.types source target (c.loop-n.invariant source target).subs c.loop-n.count c.loop-n.at c.args.bytes.now (c.loop-n.invariant source target).going.few (sym c.header.ensures ∙ c.in_ok-header.was) c.if-bytes-at-eq127.false c.two-n.ensures c.subscriber_at-s.ensures own) c.claim.ensures in
    record {
      subs = _;
      going = going;
      one-is = elim c.if-s-first.branch [ then-s-first w ↦ w.one-is ∙ shown-new c.args.bytes.now c.args.types source target c.args.first c.args.second (c.loop-n.invariant source target).subs c.loop-n.count _ _ c.subscriber_at-s.result room (c.loop-n.invariant source target).going.places going c.args.first w.if-s-first.true | else-s-first w ↦ w.one-is ∙ (c.loop-n.invariant source target).one-is ∙ shown-kept c.args.bytes.now c.args.types source target c.args.first c.args.second (c.loop-n.invariant source target).subs c.loop-n.count _ _ c.subscriber_at-s.result room (c.loop-n.invariant source target).going.places going c.args.first w.if-s-first.false ];
      other-is = elim c.if-s-second.branch [ then-s-second w ↦ w.other-is ∙ shown-new c.args.bytes.now c.args.types source target c.args.first c.args.second (c.loop-n.invariant source target).subs c.loop-n.count _ _ c.subscriber_at-s.result room (c.loop-n.invariant source target).going.places going c.args.second w.if-s-second.true | else-s-second w ↦ w.other-is ∙ (c.loop-n.invariant source target).other-is ∙ shown-kept c.args.bytes.now c.args.types source target c.args.first c.args.second (c.loop-n.invariant source target).subs c.loop-n.count _ _ c.subscriber_at-s.result room (c.loop-n.invariant source target).going.places going c.args.second w.if-s-second.false ];
    }
