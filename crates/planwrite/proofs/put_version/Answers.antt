-- `planwrite::put_version` meets its contract. Assumes nothing.
use mathlib.Core.Path.{refl}
use mathlib.Core.List.{◌++◌}
use Rattle.planbytes.specs.Numbers.{high}
use Rattle.planbytes.specs.Format.{field, version_body}
use Rattle.planwrite.proofs.Puts.{puts_then}
use Rattle.planwrite.proofs.put_version.Goals as goal

pub returns : goal.returns
unfolding high field version_body
returns c = puts_then c.args.room.now (high 1 1 ++ high 2 1) (high 1 1) 0 3 3 c.put_header.ensures c.put_one.ensures refl refl
