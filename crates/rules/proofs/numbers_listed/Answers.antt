-- `rules::numbers_listed` meets its contract: by how many numbers there are. Assumes nothing.
use Rattle.std.proofs.Common.{◌≤◌, sym, ◌∙◌, arith}
use mathlib.Core.Bool.{and_assoc}
use Rattle.plan.proofs.Boxes.{listed-none, listed-one, listed-two, listed-three, listed-four}
use Rattle.rules.proofs.numbers_listed.Goals as goal

pub returns-then-s-eq0 : goal.returns-then-s-eq0
returns-then-s-eq0 c = sym (listed-none _ c.if-s-eq0.true)

pub returns-then-s-eq1 : goal.returns-then-s-eq1
returns-then-s-eq1 c = c.box_number.ensures ∙ sym (listed-one _ c.if-s-eq1.true)

pub returns-then-s-eq2 : goal.returns-then-s-eq2
returns-then-s-eq2 c = rw (c.box_number-2.ensures, c.box_number-3.ensures) (sym (listed-two _ c.if-s-eq2.true))

pub returns-then-s-eq3 : goal.returns-then-s-eq3
returns-then-s-eq3 c =
    rw (c.box_number-2.ensures, c.box_number-3.ensures, c.box_number-4.ensures) (sym (listed-three _ c.if-s-eq3.true ∙ simp and_assoc))

pub returns : goal.returns
returns c =
    let many : 4 ≤ c.args.s.count = omega (arith, c.if-s-eq0.false, c.if-s-eq1.false, c.if-s-eq2.false, c.if-s-eq3.false) in
    rw (c.box_number-2.ensures, c.box_number-3.ensures, c.box_number-4.ensures, c.box_number-5.ensures) (sym (listed-four _ many ∙ simp and_assoc))
