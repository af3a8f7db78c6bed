-- `rowbytes::lowest_free` meets its contract. Assumes nothing.
use Rattle.std.proofs.Common.{◌≡◌, sym, ◌∙◌, rules, arith}
use Rattle.rowbytes.specs.Rows.{records_in}
use Rattle.rowbytes.proofs.Rows.{free-start, free-found, free-next, free-end}
use Rattle.rowbytes.proofs.lowest_free.Goals as goal

pub loop-i-init : goal.loop-i-init
loop-i-init c = free-start c.args.row.now

pub returns-then-free_in : goal.returns-then-free_in
returns-then-free_in c = sym (free-found c.args.row.now c.loop-i.i (search rules) (sym c.free_in.ensures ∙ c.if-free_in.true)) ∙ c.loop-i.invariant

pub loop-i-preserved : goal.loop-i-preserved
loop-i-preserved c = sym (free-next c.args.row.now c.loop-i.i (search rules) (sym c.free_in.ensures ∙ c.if-free_in.false)) ∙ c.loop-i.invariant

pub returns : goal.returns
returns c =
    let n = records_in c.args.row.now in
    let e : n ≡ c.loop-i.i = omega arith in
    e ∙ sym (free-end c.args.row.now c.loop-i.i (search rules)) ∙ c.loop-i.invariant
