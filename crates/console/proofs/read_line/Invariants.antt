-- The bytes so far are no newlines, and what stood past them stays.
use Rattle.std.proofs.Common.{◌≡◌, true, not, drop, ◌==◌, slice_index}
use Rattle.typeset.specs.Sets.{every}
use Rattle.console.proofs.read_line.Given as goal

abbrev pub invariant-loop-n : goal.invariant-loop-n
invariant-loop-n g l = (every l.n (λ i. not (slice_index l.line i == 10)) ≡ true) × (drop l.n l.line ≡ drop l.n l.fn.line)
