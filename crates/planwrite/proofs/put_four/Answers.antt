-- `planwrite::put_four` meets its contract. Assumes nothing.
use Rattle.std.proofs.Common.{ap, refl, ◌∙◌}
use Rattle.std.proofs.lemmas.List.Edits.{sets}
use Rattle.std.specs.Int.{to_be_bytes}
use mir.Syntax.{w32}
use Rattle.planbytes.proofs.Numbers.{be-four}
use Rattle.planwrite.proofs.Puts.{part-stored}
use Rattle.planwrite.proofs.put_four.Goals as goal

pub returns : goal.returns
returns c =
    rw (c.copy_from_slice.ensures.after, c.to_be_bytes.ensures)
    (part-stored c.args.room.now (to_be_bytes w32 c.args.n) c.args.at 4 c.requires refl ∙ ap (sets c.args.room.now c.args.at) (be-four c.args.n))
