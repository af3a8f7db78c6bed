-- `planback::boxes` meets its contract. Assumes nothing.
use Rattle.planback.proofs.Ranges.{below-each}
use Rattle.planback.proofs.boxes.Goals as goal

pub returns : goal.returns
returns c = below-each _ _ (λ i. (c.type_inv.numbers i).fits)
