-- `planread::two` meets its contract. Assumes nothing.
use native.Mathlib.Omega.{arith}
use Rattle.planbytes.proofs.Numbers.{two_at}
use borrow.Author.Rules.{rules}
use Rattle.planread.proofs.two.Goals as goal

pub returns : goal.returns
returns c = omega (arith, two_at c.args.bytes.now c.args.at (search rules))
