-- `journey::put_number` meets its contract. Assumes nothing.
use Rattle.std.proofs.Common.{◌≤◌, length, arith}
use Rattle.text.specs.Decimal.{decimal}
use Rattle.text.proofs.Tens.{digits_cut, decimal-some}
use Rattle.journey.proofs.put_number.Goals as goal

pub put_bytes-requires : goal.put_bytes-requires
put_bytes-requires c =
    let short : length (decimal c.args.n) ≤ 100 = omega (arith, (decimal-some c.args.n).1) in
    (rw (c.as_slice.ensures, c.decimal.ensures, digits_cut c.args.n) short, c.requires)

pub returns : goal.returns
returns c = rw (c.as_slice.ensures, c.decimal.ensures, digits_cut c.args.n) at c.put_bytes.ensures
