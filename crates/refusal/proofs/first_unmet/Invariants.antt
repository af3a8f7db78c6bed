-- `refusal::first_unmet` meets its contract. The invariant looks forward: what is left of the table answers for all of it. Assumes nothing.
use Rattle.std.proofs.Common.{◌≡◌}
use Rattle.std.specs.Prelude.{drop}
use Rattle.refusal.specs.Numbers.{first_unmet}
use Rattle.refusal.proofs.first_unmet.Given as goal

abbrev pub invariant-loop-row : goal.invariant-loop-row
invariant-loop-row l = first_unmet (drop l.row-index l.rows) ≡ first_unmet l.rows
