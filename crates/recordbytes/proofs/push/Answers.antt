-- `recordbytes::push` meets its contract. Assumes nothing.
use mathlib.Core.Path.{ap}
use mathlib.Core.List.{List}
use Prim.Native.Nat.{ℕ, ◌+◌, ◌*◌}
use lib.ListN.{get_or, set}
use Rattle.recordbytes.proofs.Places.{put_three}
use Rattle.recordbytes.specs.Parts.{put_at}
use Rattle.recordbytes.proofs.push.Goals as goal

pub returns : goal.returns
unfolding put_at
returns c =
    let a = c.args in
    let n = get_or a.row.now a.q 0 in
    rw c.from.ensures (ap (λ (z : List ℕ). set z a.q (n + 1)) (put_three a.row.now (a.q + 1 + 3 * n) _ _ _))
