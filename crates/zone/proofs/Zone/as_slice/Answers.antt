-- `zone::Zone::as_slice` meets its contract. Assumes nothing.
use Rattle.std.proofs.Common.{rules, ◌≡◌, length}
use Rattle.zone.specs.Order.{list_of}
use Rattle.zone.proofs.Held.{cut}
use Rattle.zone.proofs.Zone.as_slice.Goals as goal

pub returns : goal.returns
unfolding list_of
returns c =
    let z = c.args.self.now in
    let long : length z.types ≡ 32 = search rules in
    rw (c.min.ensures, c.from.ensures) (cut z.len z.types long)
