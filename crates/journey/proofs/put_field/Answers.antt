-- `journey::put_field` meets its contract. Assumes nothing.
use native.Mathlib.Omega.{arith}
use mathlib.Core.List.{[], ◌∷◌}
use Rattle.text.specs.Decimal.{decimal}
use Rattle.text.proofs.Tens.{decimal-some}
use Rattle.journey.proofs.Texts.{and_then}
use Rattle.journey.proofs.put_field.Goals as goal

pub put_bytes-requires : goal.put_bytes-requires
put_bytes-requires c =
    (omega arith, omega (arith, c.put_number-next.ensures.0, (decimal-some c.args.n).1, c.requires))

pub returns : goal.returns
returns c =
    and_then c.args.room.now c.args.at (decimal c.args.n) c.put_number-next.result c.put_number-next.new.room (32 ∷ []) c.put_bytes.result c.put_bytes.new.room c.put_number-next.ensures c.put_bytes.ensures
