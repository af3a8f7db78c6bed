-- `planread::boxes_at` meets its contract. Assumes nothing.
use Rattle.planread.proofs.Fields.{boxes-are}
use Rattle.planread.proofs.boxes_at.Goals as goal

pub returns : goal.returns
returns c =
    let a = c.args in
    boxes-are a.bytes.now a.at a.count c.requires.0 c.box_at-first.ensures c.box_at-second.ensures c.box_at-third.ensures c.box_at-fourth.ensures
