-- `planwrite::field_size` meets its contract. Assumes nothing.
use native.Mathlib.Omega.{arith}
use Rattle.planbytes.proofs.Lengths.{subscriber-size}
use borrow.Author.Rules.{rules}
use Rattle.planwrite.proofs.field_size.Goals as goal

pub returns : goal.returns
returns c = let size = subscriber-size c.args.s in (omega arith, search rules)
