-- `teaching::subscriber` meets its contract. Assumes nothing.
use mathlib.Core.Path.{refl}
use Rattle.teaching.specs.Teaching.{subscriber}
use Rattle.teaching.proofs.subscriber.Goals as goal

pub returns : goal.returns
unfolding subscriber
returns c = refl
