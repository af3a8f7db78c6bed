-- `rowbytes::port_command` meets its contract. Assumes nothing.
use Rattle.std.proofs.Common.{ℕ, List, refl, ap, ◌∙◌, rules}
use Rattle.recordbytes.specs.Records.{call_at}
use Rattle.recordbytes.specs.Numbers.{command_of, commanded_said}
use Rattle.rowbytes.proofs.Turns.{port-stepped}
use Rattle.rowbytes.proofs.port_command.Goals as goal

pub returns : goal.returns
returns c =
    let a = c.args in
    let stepped = port-stepped a.port.now (command_of a.kind a.side a.signal a.tunnel a.code) (search rules) refl refl in
    (c.answer_in.ensures ∙ c.command_for-word.ensures.0 ∙ ap commanded_said stepped.0, c.command_for-word.ensures.1 ∙ stepped.1, ap (λ (z : List ℕ). call_at z 0) c.command_for-word.ensures.1 ∙ stepped.2)
