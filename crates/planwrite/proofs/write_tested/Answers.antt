-- `planwrite::write_tested` meets its contract. Assumes nothing.
use mathlib.Core.Path.{◌≡◌, refl, ap}
use mathlib.Core.Bool.{true, false}
use native.Mathlib.Omega.{arith}
use Rattle.typeset.proofs.Bools.{passed, failed}
use lib.ListN.{length, take}
use Rattle.planwrite.proofs.Files.{no_more, write-broken, write-short, write_done}
use borrow.Author.Rules.{rules}
use Rattle.planwrite.proofs.write_tested.Goals as goal

pub returns-then-not-kept : goal.returns-then-not-kept
returns-then-not-kept c =
    let a = c.args in
    let rows : length a.plan.source_order ≡ 32 = search rules in
    let columns : length a.plan.target_order ≡ 32 = search rules in
    let kept : a.kept ≡ false = failed refl c.if-not-kept.true-raw in
    write-broken a.plan rows columns a.kept a.room.now kept

pub returns-then-room-size : goal.returns-then-room-size
returns-then-room-size c =
    let a = c.args in
    let rows : length a.plan.source_order ≡ 32 = search rules in
    let columns : length a.plan.target_order ≡ 32 = search rules in
    let places = c.put_subscribers-end.ensures.3 in
    let kept : a.kept ≡ true = passed refl c.if-not-kept.false-raw in
    let all : take c.places-count.result a.plan.subscribers ≡ take a.plan.count a.plan.subscribers = rw c.places-count.ensures.0 (no_more a.plan.count a.plan.subscribers places) in
    let same = c.put_subscribers-end.ensures.0 in
    let end = rw all at c.put_subscribers-end.ensures.1 in
    write-short a.plan rows columns a.kept a.room.now same kept (omega (arith, end, ap length same))

pub returns : goal.returns
returns c =
    let a = c.args in
    let places = c.put_subscribers-end.ensures.3 in
    let kept : a.kept ≡ true = passed refl c.if-not-kept.false-raw in
    let all : take c.places-count.result a.plan.subscribers ≡ take a.plan.count a.plan.subscribers = rw c.places-count.ensures.0 (no_more a.plan.count a.plan.subscribers places) in
    let head = c.put_head.ensures in
    let end = rw all at c.put_subscribers-end.ensures.1 in
    let fields = rw all at c.put_subscribers.ensures.0 in
    write_done a.plan head.1 head.2 a.kept a.room.now c.put_subscribers-end.ensures.0 kept (omega (arith, end)) c.if-room-size.false head.0 fields (rw end at c.put_header.ensures)
