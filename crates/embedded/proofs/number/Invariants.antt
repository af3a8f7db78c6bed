-- `embedded::number` meets its contract. Assumes nothing.
use Rattle.std.proofs.Common.{◌≡◌, ◌<◌}
use lib.ListN.{drop}
use Rattle.embedded.specs.Embedded.{number_from}
use Rattle.embedded.proofs.Digits.{ten}
use Rattle.embedded.proofs.number.Given as goal

-- The invariant looks forward: the number of what is left, after what was read, is the whole number.
abbrev pub invariant-loop-c : goal.invariant-loop-c
invariant-loop-c l = (l.n < ten l.c-index) × (number_from l.n (drop l.c-index l.s) ≡ number_from 0 l.s)
