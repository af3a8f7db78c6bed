-- `planwrite::put_types` meets its contract. Assumes nothing.
use mathlib.Core.Path.{refl}
use mathlib.Core.List.{◌++◌}
use Rattle.planbytes.specs.Numbers.{high, row}
use Rattle.planbytes.specs.Format.{field, types_body}
use Rattle.planwrite.proofs.Puts.{puts_then}
use Rattle.planwrite.proofs.put_types.Goals as goal

pub returns : goal.returns
unfolding high row field types_body
returns c = puts_then c.args.room.now (high 1 2 ++ high 2 20) (types_body c.args.t) 4 3 7 c.put_header.ensures c.put_sets.ensures refl refl
