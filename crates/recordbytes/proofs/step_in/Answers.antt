-- `recordbytes::step_in` meets its contract. Assumes nothing.
use mathlib.Core.Path.{refl}
use Rattle.refusal.specs.declared.Refusal.TheVariants.{BrokenRecord}
use Rattle.ends.specs.declared.Side.TheVariants.{Caller, Callee}
use Rattle.call.specs.Protocol.{other}
use Rattle.call.proofs.Steps.{few}
use Rattle.recordbytes.specs.Records.{call_at}
use Rattle.recordbytes.specs.Numbers.{side_of, command_of}
use Rattle.recordbytes.proofs.Steps.{count-from, step-over-caller, step-over-callee, step-acted}
use Rattle.recordbytes.proofs.Acts.{said-as, refused-by}
use Rattle.recordbytes.proofs.step_in.Goals as goal

pub returns-then-row-at-gt16 : goal.returns-then-row-at-gt16
returns-then-row-at-gt16 c =
    let a = c.args in
    refused-by a.row.now a.at BrokenRecord 17 refl (step-over-caller a.row.now a.at (command_of a.kind a.side a.signal a.tunnel a.code) (rw (count-from Caller a.row.now a.at) at c.if-row-at-gt16.true))

pub returns-then-row-at-gt16-2 : goal.returns-then-row-at-gt16-2
returns-then-row-at-gt16-2 c =
    let a = c.args in
    refused-by a.row.now a.at BrokenRecord 17 refl (step-over-callee a.row.now a.at (command_of a.kind a.side a.signal a.tunnel a.code) (rw (count-from Caller a.row.now a.at) at c.if-row-at-gt16.false) (rw (count-from Callee a.row.now a.at) at c.if-row-at-gt16-2.true))

pub act-requires : goal.act-requires
act-requires c =
    let a = c.args in
    (c.requires, few (call_at a.row.now a.at) (other (side_of a.side)) (rw (count-from Caller a.row.now a.at) at c.if-row-at-gt16.false) (rw (count-from Callee a.row.now a.at) at c.if-row-at-gt16-2.false))

pub returns : goal.returns
returns c =
    let a = c.args in
    said-as _ (step-acted a.row.now a.at (command_of a.kind a.side a.signal a.tunnel a.code) (rw (count-from Caller a.row.now a.at) at c.if-row-at-gt16.false) (rw (count-from Callee a.row.now a.at) at c.if-row-at-gt16-2.false)) c.act.ensures
