-- `refusal::first_unmet` meets its contract. Assumes nothing.
use Rattle.std.proofs.Common.{rules, ◌≡◌, length, refl, ◌∙◌}
use Rattle.refusal.proofs.Table.{unmet-here, unmet-past, unmet-done}
use Rattle.refusal.proofs.first_unmet.Goals as goal

pub loop-row-init : goal.loop-row-init
loop-row-init c = refl

pub returns-then-not-row : goal.returns-then-not-row
returns-then-not-row c = unmet-here _ _ _ c.loop-row-test.true c.if-not-row.true ∙ c.loop-row.invariant

pub loop-row-preserved : goal.loop-row-preserved
loop-row-preserved c = unmet-past _ _ _ c.loop-row-test.true c.if-not-row.false ∙ c.loop-row.invariant

pub returns : goal.returns
returns c =
    let end : c.loop-row.row-index ≡ length c.args.rows.now = search rules in
    unmet-done c.args.rows.now ∙ rw end at c.loop-row.invariant
