-- `planwrite::put_sets` meets its contract. Assumes nothing.
use mathlib.Core.Path.{refl}
use mathlib.Core.List.{◌++◌}
use Prim.Native.Nat.{◌+◌}
use Rattle.planbytes.specs.Numbers.{high, row}
use Rattle.planbytes.specs.Format.{types_body}
use Rattle.planwrite.proofs.Puts.{puts_then}
use Rattle.planwrite.proofs.put_sets.Goals as goal

pub returns : goal.returns
unfolding high row types_body
returns c = puts_then c.args.room.now (high 4 c.args.t.existing ++ high 4 c.args.t.bound ++ high 4 c.args.t.reversible ++ high 4 c.args.t.source_choice) (high 4 c.args.t.target_choice) c.args.at 16 (c.args.at + 16) (puts_then c.args.room.now (high 4 c.args.t.existing ++ high 4 c.args.t.bound ++ high 4 c.args.t.reversible) (high 4 c.args.t.source_choice) c.args.at 12 (c.args.at + 12) (puts_then c.args.room.now (high 4 c.args.t.existing ++ high 4 c.args.t.bound) (high 4 c.args.t.reversible) c.args.at 8 (c.args.at + 8) (puts_then c.args.room.now (high 4 c.args.t.existing) (high 4 c.args.t.bound) c.args.at 4 (c.args.at + 4) c.put_four.ensures c.put_four-2.ensures refl refl) c.put_four-3.ensures refl refl) c.put_four-4.ensures refl refl) c.put_four-5.ensures refl refl
