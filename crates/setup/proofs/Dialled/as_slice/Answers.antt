-- `setup::Dialled::as_slice` meets its contract. Assumes nothing.
use Rattle.std.proofs.Common.{rules, ◌≡◌, length}
use Rattle.setup.specs.Dialling.{string_of}
use Rattle.zone.proofs.Held.{cut}
use Rattle.setup.proofs.Dialled.as_slice.Goals as goal

pub returns : goal.returns
unfolding string_of
returns c =
    let d = c.args.self.now in
    let long : length d.symbols ≡ 32 = search rules in
    rw (c.min.ensures, c.from.ensures) (cut d.len d.symbols long)
