-- What the loop of `planback::subscribers` keeps. Assumes nothing.
use Rattle.std.specs.Prelude.{take}
use Rattle.planfile.specs.Typed.{AllTyped}
use Rattle.planback.proofs.subscribers.Given as goal

abbrev pub invariant-loop-s : goal.invariant-loop-s
invariant-loop-s l = AllTyped (take l.s-index l.all)
