-- `setupbytes::same` meets its contract. Assumes nothing.
use mathlib.Core.Path.{◌≡◌, sym, ap, ◌∙◌}
use mathlib.Core.Bool.{Bool, true, ◌&&◌, and-true}
use native.Mathlib.Numerals.{add-one}
use native.Mathlib.Omega.{arith}
use Prim.Native.Nat.{ℕ, ◌+◌, ◌≤◌}
use lib.Dec.{eqb}
use lib.ListN.{get_or}
use borrow.Author.Tests.{eq-eqb, ne_eqb}
use Rattle.typeset.specs.Sets.{every}
use Rattle.typeset.proofs.Below.{every-none, every-last, every-no}
use Rattle.setupbytes.specs.Codec.{same}
use borrow.Author.Rules.{rules}
use Rattle.setupbytes.proofs.same.Goals as goal
use Rattle.setupbytes.proofs.same.Goals.{else-a-i, then-a-i}

every-still : (n : ℕ) (p : ℕ → Bool) → p n ≡ true → every n p ≡ every (n + 1) p
every-still n p h = sym (ap (λ (k : ℕ). every k p) (add-one n) ∙ every-last n p ∙ ap (λ (b : Bool). every n p && b) h ∙ and-true (every n p))

pub loop-i-init : goal.loop-i-init
loop-i-init c = (search rules, sym (every-none _))

pub bounds-a-i : goal.bounds-a-i
bounds-a-i c = omega arith

pub bounds-b-i : goal.bounds-b-i
bounds-b-i c = omega arith

pub loop-i-preserved : goal.loop-i-preserved
loop-i-preserved c =
    let a = c.args in
    let l = c.loop-i in
    let alike : ℕ → Bool = λ k. eqb (get_or a.a.now k 0) (get_or a.b.now k 0) in
    let more : l.i + 1 ≤ 110 = search rules in
    elim c.if-a-i.branch [ then-a-i w ↦ (more, w.all-is ∙ sym (every-no (l.i + 1) alike l.i (omega arith) (ne_eqb _ _ w.if-a-i.true))) | else-a-i w ↦ (more, w.all-is ∙ l.invariant.1 ∙ every-still l.i alike (eq-eqb _ _ w.if-a-i.false)) ]

pub returns : goal.returns
unfolding same
returns c =
    let end : c.loop-i.i ≡ 110 = omega arith in
    rw end at c.loop-i.invariant.1
