-- `setupbytes::four` meets its contract. Assumes nothing.
use Rattle.std.proofs.Common.{arith, rules}
use Rattle.planbytes.proofs.Numbers.{four-at}
use Rattle.setupbytes.proofs.four.Goals as goal

pub returns : goal.returns
returns c = omega (arith, four-at c.args.bytes.now c.args.at (search rules))
