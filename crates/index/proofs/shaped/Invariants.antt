-- `index::shaped` meets its contract. The loop's invariant: each row passed has its places. Assumes nothing.
use Rattle.std.proofs.Common.{◌≡◌, ℕ, ◌<◌, [], length, get_or}
use Rattle.index.proofs.shaped.Given as goal

abbrev pub invariant-loop-row : goal.invariant-loop-row
invariant-loop-row l = (j : ℕ) → j < l.row-index → length (get_or l.rows j []) ≡ 257
