-- `planread::header` meets its contract. Assumes nothing.
use mathlib.Core.Path.{sym, ◌∙◌}
use Rattle.typeset.proofs.Bools.{passed, failed}
use Rattle.planread.proofs.Fields.{header-cut, header-tag, header-many, header-long, header-body, header-whole}
use Rattle.planread.proofs.header.Goals as goal

pub returns-then-left-lt3 : goal.returns-then-left-lt3
returns-then-left-lt3 c = sym (header-cut c.args.stage c.args.count c.args.at c.args.bytes.now c.if-left-lt3.true)

pub returns-then-not-allowed : goal.returns-then-not-allowed
returns-then-not-allowed c = sym (header-tag c.args.stage c.args.count c.args.at c.args.bytes.now c.if-left-lt3.false (failed c.allowed.ensures c.if-not-allowed.true-raw))

pub returns-then-too_many : goal.returns-then-too_many
returns-then-too_many c = sym (header-many c.args.stage c.args.count c.args.at c.args.bytes.now c.if-left-lt3.false (passed c.allowed.ensures c.if-not-allowed.false-raw) (sym c.too_many.ensures ∙ c.if-too_many.true))

pub returns-then-not-ever_long : goal.returns-then-not-ever_long
returns-then-not-ever_long c = sym (header-long c.args.stage c.args.count c.args.at c.args.bytes.now c.if-left-lt3.false (passed c.allowed.ensures c.if-not-allowed.false-raw) (sym c.too_many.ensures ∙ c.if-too_many.false) c.two-n.ensures (failed c.ever_long.ensures c.if-not-ever_long.true-raw))

pub returns-then-left-from : goal.returns-then-left-from
returns-then-left-from c = sym (header-body c.args.stage c.args.count c.args.at c.args.bytes.now c.if-left-lt3.false (passed c.allowed.ensures c.if-not-allowed.false-raw) (sym c.too_many.ensures ∙ c.if-too_many.false) c.two-n.ensures (passed c.ever_long.ensures c.if-not-ever_long.false-raw) (rw c.from.ensures at c.if-left-from.true))

pub returns : goal.returns
returns c = sym (header-whole c.args.stage c.args.count c.args.at c.args.bytes.now c.if-left-lt3.false (passed c.allowed.ensures c.if-not-allowed.false-raw) (sym c.too_many.ensures ∙ c.if-too_many.false) c.two-n.ensures (passed c.ever_long.ensures c.if-not-ever_long.false-raw) (rw c.from.ensures at c.if-left-from.false))
