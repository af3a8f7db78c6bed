-- `teaching::subscribers` meets its contract. Assumes nothing.
use mathlib.Core.List.{◌∷◌}
use lib.ListN.{replicate}
use Rattle.teaching.specs.Teaching.{subscriber, unused, subscribers}
use Rattle.teaching.proofs.subscribers.Goals as goal

pub returns : goal.returns
unfolding subscribers unused subscriber
returns c =
    λ i.
    (c.subscriber.ensures i)
    ∷ (c.subscriber-2.ensures i)
    ∷ (c.subscriber-3.ensures i)
    ∷ (c.subscriber-4.ensures i)
    ∷ (c.subscriber-5.ensures i)
    ∷ (c.subscriber-6.ensures i)
    ∷ replicate 250 (c.no_subscriber-nobody.ensures i)
