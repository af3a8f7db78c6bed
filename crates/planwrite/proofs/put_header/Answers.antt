-- `planwrite::put_header` meets its contract. Assumes nothing.
use mathlib.Core.Path.{refl}
use Prim.Native.Nat.{◌+◌}
use Rattle.planbytes.specs.Numbers.{high}
use Rattle.planwrite.proofs.Puts.{puts_then}
use Rattle.planbytes.proofs.Lengths.{high-length}
use Rattle.planwrite.proofs.put_header.Goals as goal

pub returns : goal.returns
returns c = puts_then c.args.room.now (high 1 c.args.tag) (high 2 c.args.n) c.args.at 1 (c.args.at + 1) c.put_one.ensures c.put_two.ensures (high-length 1 _) refl
