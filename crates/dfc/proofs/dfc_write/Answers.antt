-- `dfc::dfc_write` meets its contract. Assumes nothing.
use Rattle.std.proofs.Common.{ap, ◌∙◌}
use Rattle.planread.specs.Reading.{read_of}
use Rattle.planback.specs.Back.{rewrites}
use Rattle.dfc.specs.Files.{written_said, rewritten, room_rewritten}
use Rattle.dfc.proofs.Sights.{room-over}
use Rattle.dfc.proofs.dfc_write.Goals as goal

pub returns : goal.returns
unfolding rewritten room_rewritten rewrites
returns c = (c.written_said.ensures ∙ ap written_said c.rewrite.ensures.0, c.rewrite.ensures.1 ∙ room-over (read_of c.args.file.now) c.args.room.now)
