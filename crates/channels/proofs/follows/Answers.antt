-- `channels::follows` meets its contract. Assumes nothing.
use Rattle.std.proofs.Common.{◌≡◌, ℕ, ◌+◌, ◌/◌, ◌%◌, ◌<◌, Bool, slice_index_or, arith}
use Rattle.channels.specs.Channels.{follows}
use Rattle.channels.specs.Layout.{table, part, column}
use Rattle.channels.proofs.Table.{in_table, no_step}
use Rattle.channels.proofs.follows.Goals as goal
use Rattle.channels.proofs.follows.Goals.{else-state-lt9-via-then-state-lt9+else-kind-lt7, else-state-lt9-via-else-state-lt9}

in-its-line : (o b : Bool) (s k : ℕ) {p d : ℕ} → p ≡ part o b + s → d ≡ column k → s < 9 → k < 7 → slice_index_or table p 0 / d % 16 ≡ follows o b s k
in-its-line o b s k e f h g = rw (e, f) (in_table o b s k h g)

pub returns-then-kind-lt7 : goal.returns-then-kind-lt7
unfolding table
returns-then-kind-lt7 c =
    in-its-line _ _ _ _ (rw c.part.ensures.0 at c.from.ensures) c.column.ensures.0 (omega arith) (omega arith)

pub returns-else-state-lt9 : goal.returns-else-state-lt9
returns-else-state-lt9 c =
    no_step _ _ _ _ (λ h g. elim c.else-state-lt9.branch [
      | else-state-lt9-via-then-state-lt9+else-kind-lt7 w ↦ omega arith
      | else-state-lt9-via-else-state-lt9 w ↦ omega arith
    ])
