-- `planwrite::put_subscriber` meets its contract. Assumes nothing.
use native.Mathlib.Omega.{arith}
use Rattle.planbytes.specs.Format.{field, subscriber_body}
use Rattle.planbytes.proofs.Lengths.{subscriber-size}
use Rattle.planwrite.proofs.Puts.{subscriber-put, put-room, put_is, put-not}
use borrow.Author.Rules.{rules}
use Rattle.planwrite.proofs.put_subscriber.Goals as goal

pub overflow_add-end : goal.overflow_add-end
overflow_add-end c = omega arith

pub returns-then-not-put : goal.returns-then-not-put
returns-then-not-put c = (put-not c.args.put c.args.room.now (field 5 (subscriber_body c.args.s)) c.args.at c.if-not-put.true-raw, omega arith, omega arith)

pub put_header-requires : goal.put_header-requires
put_header-requires c = omega (arith, subscriber-size c.args.s, put-room c.args.put c.if-not-put.false-raw c.requires.1)

pub overflow_add-at : goal.overflow_add-at
overflow_add-at c = omega arith

pub put_fixed-requires : goal.put_fixed-requires
put_fixed-requires c = omega (arith, subscriber-size c.args.s, put-room c.args.put c.if-not-put.false-raw c.requires.1)

pub overflow_add-at-2 : goal.overflow_add-at-2
overflow_add-at-2 c = omega arith

pub put_boxes-requires : goal.put_boxes-requires
put_boxes-requires c = (search rules, omega (arith, subscriber-size c.args.s, put-room c.args.put c.if-not-put.false-raw c.requires.1))

pub returns : goal.returns
returns c = (
  put_is c.args.put c.args.room.now (field 5 (subscriber_body c.args.s)) c.args.at c.if-not-put.false-raw
      (subscriber-put c.args.room.now c.args.at c.used-count.result c.args.s c.used-count.ensures.0 c.put_header.ensures c.put_fixed.ensures c.put_boxes.ensures),
  omega arith,
  omega arith,
)
