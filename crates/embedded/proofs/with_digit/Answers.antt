-- `embedded::with_digit` meets its contract. Assumes nothing.
use Rattle.std.proofs.Common.{arith, refl}
use Rattle.embedded.specs.Embedded.{number_from}
use Rattle.embedded.proofs.Digits.{digit-from}
use Rattle.embedded.proofs.with_digit.Goals as goal

pub overflow_sub-c : goal.overflow_sub-c
overflow_sub-c c = omega (arith, digit-from c.args.c c.requires.1)

pub returns : goal.returns
unfolding number_from
returns c = rw c.from.ensures refl
