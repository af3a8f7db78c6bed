-- What the loops of `journey::put_hops` keep. Assumes nothing.
use Rattle.journey.proofs.Trips.{Way}
use Rattle.journey.proofs.put_hops.Given as goal

abbrev pub invariant-loop-hop : goal.invariant-loop-hop
invariant-loop-hop l = Way l.plan l.at l.fn.first l.initial.room l.room l.trip l.hop
