-- `links::blank` meets its contract. The loop's invariant: what is passed and what is left are 0 where all is. Assumes nothing.
use Rattle.std.proofs.Common.{◌≡◌, eqb, drop}
use mathlib.Core.Bool.{◌&&◌}
use Rattle.links.specs.Sets.{blank}
use Rattle.links.proofs.blank.Given as goal

abbrev pub invariant-loop-l : goal.invariant-loop-l
invariant-loop-l l = (eqb l.rest 0 && blank (drop l.l-index l.places)) ≡ blank l.places
