-- `recordbytes::act` meets its contract. Assumes nothing.
use mathlib.Core.Path.{ap, ◌∙◌}
use Rattle.recordbytes.specs.Parts.{acted_at}
use Rattle.recordbytes.proofs.Acts.{said-as, is-command, busy-by, unobtainable-by}
use Rattle.recordbytes.proofs.act.Goals as goal

pub returns-in-1 : goal.returns-in-1
returns-in-1 c =
    let a = c.args in
    said-as _ (ap (acted_at a.row.now a.at) (is-command a.side a.signal a.tunnel a.code c.in-1.is) ∙ busy-by a.row.now a.at) c.three_sent.ensures

pub returns-in-2 : goal.returns-in-2
returns-in-2 c =
    let a = c.args in
    said-as _ (ap (acted_at a.row.now a.at) (is-command a.side a.signal a.tunnel a.code c.in-2.is) ∙ unobtainable-by a.row.now a.at) c.three_sent-in-2.ensures
