-- `text::decimal` meets its contract. Assumes nothing.
use mathlib.Core.Path.{◌≡◌, sym, ◌∙◌}
use Prim.Native.Nat.{◌-◌}
use native.Mathlib.Omega.{arith}
use lib.ListN.{replicate}
use lib.Seq.{sets}
use Rattle.text.specs.Decimal.{tens, size, last_digits, decimal, digits}
use Rattle.text.proofs.Tens.{size_low, tens-some, digits_long, digit-next}
use Rattle.text.proofs.decimal.Goals as goal

pub loop-i-init : goal.loop-i-init
loop-i-init c =
    let all : c.size-len.result - 0 ≡ c.size-len.result = omega arith in
    (omega arith, rw all)

pub overflow_sub-ten : goal.overflow_sub-ten
overflow_sub-ten c =
    omega (arith, c.loop-i.invariant.0, c.loop-i-test.true, c.size-len.ensures, (size_low c.args.n).0, (size_low c.args.n).1)

pub overflow_sub-ten-in-loop-i : goal.overflow_sub-ten-in-loop-i
overflow_sub-ten-in-loop-i c =
    omega (arith, c.loop-i.invariant.0, c.loop-i-test.true, c.size-len.ensures, (size_low c.args.n).0, (size_low c.args.n).1)

pub offset_bounds-tens-len : goal.offset_bounds-tens-len
offset_bounds-tens-len c =
    omega (arith, c.loop-i.invariant.0, c.loop-i-test.true, c.size-len.ensures, (size_low c.args.n).0, (size_low c.args.n).1)

pub bounds-tens-len : goal.bounds-tens-len
bounds-tens-len c =
    omega (arith, c.loop-i.invariant.0, c.loop-i-test.true, c.size-len.ensures, (size_low c.args.n).0, (size_low c.args.n).1)

pub nonzero_div-bytes : goal.nonzero_div-bytes
unfolding tens
nonzero_div-bytes c =
    tens-some (c.size-len.result - 1 - c.loop-i.i) (omega (arith, c.loop-i.invariant.0, c.loop-i-test.true, c.size-len.ensures, (size_low c.args.n).0, (size_low c.args.n).1))

pub overflow_add-bytes : goal.overflow_add-bytes
overflow_add-bytes c = omega arith

pub overflow_cast-bytes : goal.overflow_cast-bytes
overflow_cast-bytes c = omega arith

pub bounds-bytes-i : goal.bounds-bytes-i
bounds-bytes-i c =
    omega (arith, c.loop-i.invariant.0, c.loop-i-test.true, c.size-len.ensures, (size_low c.args.n).0, (size_low c.args.n).1)

pub loop-i-preserved : goal.loop-i-preserved
unfolding tens
loop-i-preserved c =
    (omega (arith, c.loop-i.invariant.0, c.loop-i-test.true, c.size-len.ensures, (size_low c.args.n).0, (size_low c.args.n).1), sym (digit-next c.loop-i.bytes c.args.n c.size-len.result c.loop-i.i c.loop-i-test.true) ∙ c.loop-i.invariant.1)

pub overflow_cast-result : goal.overflow_cast-result
overflow_cast-result c = omega (arith, c.size-len.ensures, (size_low c.args.n).1)

pub returns : goal.returns
unfolding digits decimal last_digits
returns c =
    let n = c.args.n in
    let end : c.size-len.result - c.loop-i.i ≡ 0 = omega (arith, c.loop-i.invariant.0, c.loop-i-test.false) in
    let stored : c.loop-i.bytes ≡ sets (replicate 10 0) 0 (last_digits (size n) n) = rw c.size-len.ensures at (rw end at c.loop-i.invariant.1) in
    λ i. record { bytes = stored i; len = (c.size-len.ensures ∙ sym (digits_long (size n) n)) i }
