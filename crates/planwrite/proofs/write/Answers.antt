-- `planwrite::write` meets its contract: it hands on the verdict that it has found. Assumes nothing.
use Rattle.planwrite.proofs.Files.{said}
use Rattle.planwrite.proofs.write.Goals as goal

pub returns : goal.returns
returns c =
    let a = c.args in
    let kept = c.sound-kept.ensures in
    let tested = c.write_tested.ensures in
    let t = said a.plan a.room.now (rw kept at tested.0, rw kept at tested.1) in
    record { value = t.0; numbered = t.1 }
