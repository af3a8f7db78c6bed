-- How many bytes each part of a plan file has. Assumes nothing.
use mathlib.Core.Path.{◌≡◌, refl, sym, ap, ◌∙◌}
use mathlib.Core.List.{List, [], ◌∷◌}
use Prim.Native.Nat.{ℕ, zero, suc, ◌+◌, ◌*◌, ◌/◌, ◌%◌}
use native.Mathlib.Numerals.{add-one}
use native.Mathlib.Omega.{arith}
use lib.ListN.{length, take, length-append}
use Rattle.plan.specs.declared.Types.{Types}
use Rattle.plan.specs.declared.Subscriber.{Subscriber}
use Rattle.planbytes.specs.Numbers.{high, row}
use Rattle.planbytes.specs.Format.{field, version_body, types_body, order_body, subscriber_body, head_fields}

-- ---- how many bytes

pub high-length : (w n : ℕ) → length (high w n) ≡ w
unfolding high
high-length zero n = refl
high-length (suc w) n = length-append (high w (n / 256)) (n % 256 ∷ []) ∙ rw (high-length w (n / 256)) (add-one w)

pub row-length : (w : ℕ) (ns : List ℕ) → length (row w ns) ≡ w * length ns
unfolding row
row-length w [] = let e : w * 0 ≡ 0 = omega arith in sym e
row-length w (n ∷ ns) =
    let e : w * suc (length ns) ≡ w + w * length ns = omega arith in
    length-append (high w n) (row w ns) ∙ rw (high-length w n, row-length w ns, e)

pub field-length : (tag : ℕ) (body : List ℕ) → length (field tag body) ≡ 3 + length body
unfolding field
field-length tag body = simp (length-append, high-length)

pub types-length : (t : Types) → length (types_body t) ≡ 20
unfolding types_body
types-length t = row-length 4 _

pub order-length : (rows : List ℕ) → length rows ≡ 32 → length (order_body rows) ≡ 128
unfolding order_body
order-length rows e = row-length 4 rows ∙ ap (λ (n : ℕ). 4 * n) e

pub subscriber-length : (s : Subscriber) → length (subscriber_body s) ≡ 13 + 2 * length (take s.count s.boxes)
unfolding subscriber_body
subscriber-length s = simp (length-append, high-length, row-length) (omega arith)

pub head-length : (t : Types) (source target : List ℕ) → length source ≡ 32 → length target ≡ 32 → length (head_fields t source target) ≡ 289
unfolding head_fields version_body
head-length t source target p q =
    simp (length-append, field-length, types-length, order-length source p, order-length target q, high-length)

pub subscriber-size : (s : Subscriber) → length (field 5 (subscriber_body s)) ≡ 16 + 2 * length (take s.count s.boxes)
subscriber-size s = field-length 5 (subscriber_body s) ∙ rw (subscriber-length s) (omega arith)
