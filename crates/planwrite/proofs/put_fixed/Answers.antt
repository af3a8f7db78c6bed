-- `planwrite::put_fixed` meets its contract. Assumes nothing.
use mathlib.Core.Path.{refl}
use mathlib.Core.List.{◌++◌}
use Prim.Native.Nat.{◌+◌}
use Rattle.planbytes.specs.Numbers.{high, row}
use Rattle.planwrite.proofs.Puts.{puts_then}
use Rattle.planwrite.proofs.put_fixed.Goals as goal

pub returns : goal.returns
unfolding high row
returns c = puts_then c.args.room.now (((high 1 c.args.s.kind) ++ (high 4 c.args.s.address)) ++ (high 4 c.args.s.source)) (high 4 c.args.s.target) c.args.at 9 (c.args.at + 9) (puts_then c.args.room.now ((high 1 c.args.s.kind) ++ (high 4 c.args.s.address)) (high 4 c.args.s.source) c.args.at 5 (c.args.at + 5) (puts_then c.args.room.now (high 1 c.args.s.kind) (high 4 c.args.s.address) c.args.at 1 (c.args.at + 1) c.put_one.ensures c.put_four.ensures refl refl) c.put_four-2.ensures refl refl) c.put_four-3.ensures refl refl
