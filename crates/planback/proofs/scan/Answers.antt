-- `planback::scan` meets its contract. Assumes nothing.
use Rattle.std.proofs.Common.{refl}
use Rattle.planback.proofs.Ranges.{below-each}
use Rattle.planback.proofs.Again.{accepted-sound}
use Rattle.planback.proofs.scan.Goals as goal

pub returns : goal.returns
returns c = (c.scan.ensures, accepted-sound c.args.file.now (below-each 256 c.args.file.now (λ i. (c.type_inv.file i).fits)) _ refl)
