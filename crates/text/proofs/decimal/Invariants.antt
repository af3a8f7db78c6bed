-- `text::decimal` meets its contract. The loop looks forward: the digits still to come, stored from here on, give the whole. Assumes nothing.
use mathlib.Core.Path.{◌≡◌}
use Prim.Native.Nat.{◌-◌, ◌≤◌}
use lib.ListN.{replicate}
use lib.Seq.{sets}
use Rattle.text.specs.Decimal.{last_digits}
use Rattle.text.proofs.decimal.Given as goal

abbrev pub invariant-loop-i : goal.invariant-loop-i
invariant-loop-i l =
    (l.i ≤ l.len) × (sets l.bytes l.i (last_digits (l.len - l.i) l.n) ≡ sets (replicate 10 0) 0 (last_digits l.len l.n))
