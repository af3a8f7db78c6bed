-- `planwrite::put_two` meets its contract. Assumes nothing.
use Rattle.std.proofs.Common.{ap, refl, ◌∙◌}
use Rattle.std.proofs.lemmas.List.Edits.{sets}
use Rattle.std.specs.Int.{to_be_bytes}
use mir.Syntax.{w16}
use Rattle.planbytes.proofs.Numbers.{be-two}
use Rattle.planwrite.proofs.Puts.{part-stored}
use Rattle.planwrite.proofs.put_two.Goals as goal

pub returns : goal.returns
returns c =
    rw (c.copy_from_slice.ensures.after, c.to_be_bytes.ensures)
    (part-stored c.args.room.now (to_be_bytes w16 c.args.n) c.args.at 2 c.requires refl ∙ ap (sets c.args.room.now c.args.at) (be-two c.args.n))
