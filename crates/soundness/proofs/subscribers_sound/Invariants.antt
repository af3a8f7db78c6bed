-- `soundness::subscribers_sound` meets its contract. The loop's invariant: each subscriber passed keeps its rules, and the table has the numbers of those passed. Assumes nothing.
use Rattle.std.proofs.Common.{◌≡◌, ◌+◌, ◌≤◌, true, ℕ}
use Rattle.typeset.specs.Sets.{every}
use Rattle.plan.specs.Parts.{at}
use Rattle.plan.specs.Sound.{subscriber_sound}
use Rattle.plan.proofs.Numbers.{Taken}
use Rattle.soundness.proofs.subscribers_sound.Given as goal

abbrev pub invariant-loop-i : goal.invariant-loop-i
invariant-loop-i l =
    (l.i ≤ l.count) × (every l.i (subscriber_sound l.t l.subscribers) ≡ true) × Taken l.taken l.subscribers l.i
    × ((k : ℕ) → l.i ≡ k + 1 → l.before ≡ (at l.subscribers k).address)
