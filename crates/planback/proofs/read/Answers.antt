-- `planback::read` meets its contract. Assumes nothing.
use Rattle.planback.proofs.Ranges.{below-each}
use Rattle.planback.proofs.Again.{accepted-sound}
use Rattle.planback.proofs.read.Goals as goal

pub returns : goal.returns
returns c = (c.read.ensures.value, accepted-sound c.args.file.now (below-each 256 c.args.file.now (λ i. (c.type_inv.file i).fits)) c.read.result c.read.ensures.value)
