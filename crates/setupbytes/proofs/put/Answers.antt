-- `setupbytes::put` meets its contract. Assumes nothing.
use Rattle.std.proofs.Common.{◌≡◌, ◌+◌, ◌≤◌, length, arith, refl, rules}
use Rattle.planwrite.proofs.Puts.{part-stored}
use Rattle.setupbytes.proofs.put.Goals as goal

pub returns : goal.returns
returns c =
    let long : length c.args.room.now ≡ 110 = search rules in
    let fits : c.args.at + length c.args.part.now ≤ length c.args.room.now = omega (arith, long, c.requires) in
    rw c.copy_from_slice.ensures.after (part-stored c.args.room.now c.args.part.now c.args.at _ fits refl)
