-- `soundness::fits` meets its contract: by how many numbers there are. Assumes nothing.
use Rattle.std.proofs.Common.{◌≡◌, ℕ, ◌≤◌, List, sym, ◌∙◌, arith}
use mathlib.Core.Bool.{and-true, and_assoc}
use Prim.Native.Nat.{min}
use Rattle.typeset.specs.Sets.{every}
use Rattle.plan.specs.declared.Subscriber.{Subscriber}
use Rattle.plan.specs.Parts.{box}
use Rattle.plan.specs.Table.{may_take, fits}
use Rattle.plan.proofs.Boxes.{numbers-first}
use Rattle.soundness.proofs.fits.Goals as goal

-- where there are m numbers, of which four are looked up at most
fits-first : (taken : List ℕ) (s : Subscriber) (m : ℕ) → m ≡ min s.count 4 → fits taken s ≡ every m (λ x. may_take taken s.kind (box s x))
unfolding fits
fits-first taken s m e = numbers-first (λ x. may_take taken s.kind (box s x)) s.count m e

pub returns-then-count-eq0 : goal.returns-then-count-eq0
unfolding every
returns-then-count-eq0 c = sym (fits-first _ _ 0 (omega arith))

pub returns-then-count-eq1 : goal.returns-then-count-eq1
unfolding every
returns-then-count-eq1 c = c.may_take.ensures ∙ sym (fits-first _ _ 1 (omega arith) ∙ simp and-true)

pub returns-then-count-eq2 : goal.returns-then-count-eq2
unfolding every
returns-then-count-eq2 c = rw (c.may_take-2.ensures, c.may_take-3.ensures) (sym (fits-first _ _ 2 (omega arith) ∙ simp and-true))

pub returns-then-count-eq3 : goal.returns-then-count-eq3
unfolding every
returns-then-count-eq3 c =
    rw (c.may_take-2.ensures, c.may_take-3.ensures, c.may_take-4.ensures) (sym (fits-first _ _ 3 (omega arith) ∙ simp (and-true, and_assoc)))

pub returns : goal.returns
unfolding every
returns c =
    let many : 4 ≤ c.args.s.count = omega (arith, c.if-count-eq0.false, c.if-count-eq1.false, c.if-count-eq2.false, c.if-count-eq3.false) in
    rw (c.may_take-2.ensures, c.may_take-3.ensures, c.may_take-4.ensures, c.may_take-5.ensures) (sym (fits-first _ _ 4 (omega arith) ∙ simp (and-true, and_assoc)))
