-- `embedded::number` meets its contract. Assumes nothing.
use Rattle.std.proofs.Common.{rules, ◌≡◌, length, refl, sym, arith, ◌∙◌}
use Rattle.embedded.proofs.Digits.{digit_at, ten-none, ten-eight, ten-next, number-next, number-done}
use Rattle.embedded.proofs.number.Goals as goal

pub loop-c-init : goal.loop-c-init
loop-c-init c = (ten-none, refl)

pub with_digit-n-requires : goal.with_digit-n-requires
with_digit-n-requires c = (ten-eight _ _ c.loop-c.invariant.0 (omega (arith, c.loop-c-test.true, c.requires.0)), digit_at _ _ c.requires.1 c.loop-c-test.true)

pub loop-c-preserved : goal.loop-c-preserved
loop-c-preserved c =
    let i = c.loop-c.invariant in
    let d = digit_at _ _ c.requires.1 c.loop-c-test.true in
    (rw c.with_digit-n.ensures (ten-next _ _ _ i.0 d), rw c.with_digit-n.ensures (sym (number-next _ _ _ c.loop-c-test.true) ∙ i.1))

pub returns : goal.returns
returns c =
    let end : c.loop-c.c-index ≡ length c.args.s.now = search rules in
    sym (number-done c.loop-c.n c.args.s.now) ∙ rw end at c.loop-c.invariant.1
