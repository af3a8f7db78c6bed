-- `zone::zone_of` meets its contract. The loop's invariant looks forward: the zone of what is left, stored from place n on, gives the whole result. Assumes nothing.
use Rattle.std.proofs.Common.{◌≡◌, ◌+◌, ◌^◌, ◌<◌}
use lib.ListN.{replicate}
use lib.Seq.{sets}
use Rattle.typeset.specs.Sets.{size}
use Rattle.zone.specs.Order.{zone_list}
use Rattle.zone.proofs.zone_of.Given as goal

abbrev pub invariant-loop-n : goal.invariant-loop-n
invariant-loop-n l =
    (l.left < 2 ^ 32) × (l.n + size l.left ≡ size l.set)
    × (sets l.types l.n (zone_list l.rows l.left) ≡ sets (replicate 32 0) 0 (zone_list l.rows l.set))
