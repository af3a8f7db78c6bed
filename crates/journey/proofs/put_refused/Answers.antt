-- `journey::put_refused` meets its contract. Assumes nothing.
use mathlib.Core.Path.{sym}
use mathlib.Core.List.{List, [], ◌∷◌, ◌++◌}
use Prim.Native.Nat.{ℕ}
use native.Mathlib.Omega.{arith}
use Rattle.text.specs.Decimal.{decimal}
use Rattle.text.proofs.Tens.{decimal-some}
use Rattle.journey.specs.Desk.{refused_text}
use Rattle.journey.proofs.Texts.{and_then, from_start}
use Rattle.journey.proofs.put_refused.Goals as goal

pub put_bytes-requires : goal.put_bytes-requires
put_bytes-requires c =
    (omega arith, omega (arith, c.put_number-end.ensures.0, (decimal-some (c.into.result)).1))

pub returns : goal.returns
unfolding refused_text
returns c =
    let a = c.args in
    let word : List ℕ = 114 ∷ 101 ∷ 102 ∷ 117 ∷ 115 ∷ 101 ∷ 100 ∷ 32 ∷ [] in
    let to-1 = and_then a.room.now 0 word c.put_bytes-next.result c.put_bytes-next.new.room (decimal c.into.result) c.put_number-end.result c.put_number-end.new.room c.put_bytes-next.ensures c.put_number-end.ensures in
    rw (sym c.number.ensures, sym c.into.ensures) (from_start a.room.now (word ++ decimal c.into.result ++ 10 ∷ []) c.put_bytes.result c.put_bytes.new.room
    (and_then a.room.now 0 (word ++ decimal c.into.result) c.put_number-end.result c.put_number-end.new.room (10 ∷ []) c.put_bytes.result c.put_bytes.new.room to-1 c.put_bytes.ensures))
