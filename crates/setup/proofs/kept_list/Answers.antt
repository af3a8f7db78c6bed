-- `setup::kept_list` meets its contract. Assumes nothing.
use Rattle.std.proofs.Common.{rules, ◌≡◌, length, ap, ◌∙◌}
use Rattle.zone.specs.Order.{held, list_of}
use Rattle.setup.proofs.Stored.{cut-again}
use Rattle.setup.proofs.kept_list.Goals as goal

pub returns : goal.returns
unfolding list_of
returns c =
    let z = c.args.z in
    let long : length z.types ≡ 32 = search rules in
    c.listed.ensures ∙ ap held (rw c.as_slice.ensures (cut-again z.len z.types long))
