-- What the loop of `dfc_index::sets_at` keeps. Assumes nothing.
use Rattle.std.proofs.Common.{◌≡◌, ◌+◌, ◌*◌, ◌≤◌}
use Rattle.dfc_index.specs.Steps.{sets_at}
use Rattle.dfc_index.proofs.sets_at.Given as goal

abbrev pub invariant-loop-s : goal.invariant-loop-s
invariant-loop-s l = (l.at ≡ sets_at l.subscribers l.s-index) × (l.at ≤ 297 + 24 * l.s-index)
