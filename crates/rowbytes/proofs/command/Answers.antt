-- `rowbytes::command` meets its contract. Assumes nothing.
use Rattle.std.proofs.Common.{refl, ap, ◌∙◌}
use Rattle.recordbytes.specs.Numbers.{command_of, reply_said}
use Rattle.rowbytes.specs.Rows.{row_in}
use Rattle.rowbytes.proofs.Turns.{turns_as}
use Rattle.rowbytes.proofs.command.Goals as goal

pub returns : goal.returns
returns c =
    let a = c.args in
    let turns = turns_as a.row.now a.r a.use_number (command_of a.kind a.side a.signal a.tunnel a.code) refl refl in
    (c.answer_in.ensures ∙ c.command_for-word.ensures.0 ∙ ap reply_said turns.0, c.command_for-word.ensures.1 ∙ turns.1, ap row_in c.command_for-word.ensures.1 ∙ turns.2)
