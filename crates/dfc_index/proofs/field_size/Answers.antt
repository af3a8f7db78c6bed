-- `dfc_index::field_size` meets its contract. Assumes nothing.
use Rattle.std.proofs.Common.{◌≡◌, length, length-take, rules, arith}
use Prim.Native.Nat.{min}
use Rattle.planbytes.proofs.Lengths.{subscriber-size}
use Rattle.dfc_index.proofs.field_size.Goals as goal

pub returns : goal.returns
returns c =
    let s = c.args.s in
    let long : length s.boxes ≡ 4 = search rules in
    let least : c.min.result ≡ min c.from.result 4 = search rules in
    let size = subscriber-size s in
    let boxes = length-take s.count s.boxes in
    (omega (arith, c.from.ensures), omega arith)
