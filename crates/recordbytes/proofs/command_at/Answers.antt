-- `recordbytes::command_at` meets its contract. Assumes nothing.
use native.Mathlib.Omega.{arith}
use mathlib.Core.Path.{sym}
use Rattle.recordbytes.specs.Numbers.{command_of}
use Rattle.recordbytes.proofs.Steps.{not_there, there}
use Rattle.recordbytes.proofs.Acts.{answered, answered-no}
use Rattle.recordbytes.proofs.command_at.Goals as goal

pub returns-then-row-at : goal.returns-then-row-at
returns-then-row-at c =
    let a = c.args in
    answered-no a.row.now a.at (sym (not_there a.row.now a.at (command_of a.kind a.side a.signal a.tunnel a.code) (omega (arith, c.if-row-at.true))))

pub returns-then-row-at-lt614 : goal.returns-then-row-at-lt614
returns-then-row-at-lt614 c =
    let a = c.args in
    answered-no a.row.now a.at (sym (not_there a.row.now a.at (command_of a.kind a.side a.signal a.tunnel a.code) (omega (arith, c.if-row-at.false, c.if-row-at-lt614.true))))

pub returns : goal.returns
returns c =
    let a = c.args in
    answered _ (sym (there a.row.now a.at (command_of a.kind a.side a.signal a.tunnel a.code) (omega (arith, c.if-row-at.false, c.if-row-at-lt614.false)))) c.step_in.ensures
