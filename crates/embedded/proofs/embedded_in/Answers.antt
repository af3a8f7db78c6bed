-- `embedded::embedded_in` meets its contract. Assumes nothing.
use mathlib.Core.List.{List}
use Prim.Native.Nat.{ℕ}
use mathlib.Core.Path.{ap, ◌∙◌}
use Prim.Native.Nat.{◌≤◌}
use lib.ListN.{length}
use native.Mathlib.Omega.{arith}
use Rattle.embedded.specs.Embedded.{number_from, after_code, writes_address, dialled, embedded}
use Rattle.embedded.proofs.Digits.{code_inside, part-from}
use Rattle.embedded.proofs.embedded_in.Goals as goal

pub slice_bounds-written-count : goal.slice_bounds-written-count
slice_bounds-written-count c = rw c.skipped.ensures (code_inside c.args.s.now)

pub slice_bounds-written-start : goal.slice_bounds-written-start
slice_bounds-written-start c =
    let inside : c.skipped.result ≤ length c.args.s.now = rw c.skipped.ensures (code_inside c.args.s.now) in
    omega arith

pub returns : goal.returns
unfolding embedded after_code
returns c =
    rw (← c.skipped.ensures)
    (c.written.ensures ∙ ap (λ (l : List ℕ). dialled (writes_address l) (number_from 0 l)) (part-from c.skipped.result c.args.s.now))
