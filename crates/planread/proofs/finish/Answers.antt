-- `planread::finish` meets its contract. Assumes nothing.
use mathlib.Core.Path.{◌≡◌}
use native.Mathlib.Omega.{arith}
use lib.ListN.{length, drop, length-drop}
use lib.Dec.{eqb}
use mathlib.Core.Bool.{true, false}
use borrow.Author.Tests.{eq-eqb, ne_eqb}
use Rattle.planread.specs.Reading.{ended}
use Rattle.planread.proofs.finish.Goals as goal

pub returns-then-at-bytes : goal.returns-then-at-bytes
unfolding ended
returns-then-at-bytes g c =
    let left : eqb (length (drop c.args.at c.args.bytes.now)) 0 ≡ false = ne_eqb (length (drop c.args.at c.args.bytes.now)) 0 (λ z. let e = rw (length-drop c.args.at c.args.bytes.now) at z in omega arith) in
    rw left

pub returns : goal.returns
unfolding ended
returns g c =
    let none : eqb (length (drop c.args.at c.args.bytes.now)) 0 ≡ true = eq-eqb (length (drop c.args.at c.args.bytes.now)) 0 (simp length-drop (omega arith)) in
    rw none
