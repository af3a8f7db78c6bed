-- `dfc::dfc_check` meets its contract. Assumes nothing.
use Rattle.std.proofs.Common.{sym, ◌∙◌}
use Rattle.planread.specs.Reading.{read_of}
use Rattle.answers.specs.Said.{accepted}
use Rattle.dfc.specs.Files.{checked}
use Rattle.dfc.proofs.Sights.{judged-told}
use Rattle.dfc.proofs.dfc_check.Goals as goal

pub returns-in-Ok : goal.returns-in-Ok
unfolding checked
returns-in-Ok c = rw (← judged-told (read_of c.args.file.now) (accepted 0), sym c.verdict.ensures.value ∙ c.in-Ok.is) c.accepted.ensures

pub returns-in-Err : goal.returns-in-Err
unfolding checked
returns-in-Err c = rw (← judged-told (read_of c.args.file.now) (accepted 0), sym c.verdict.ensures.value ∙ c.in-Err.is) c.refused.ensures
