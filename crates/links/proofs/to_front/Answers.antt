-- `links::to_front` meets its contract. Assumes nothing.
use mathlib.Core.Path.{◌≡◌, refl, sym, ap, ◌∙◌}
use mathlib.Core.Bool.{true, false}
use mathlib.Core.List.{List}
use Prim.Native.Nat.{ℕ, ◌+◌, ◌≤◌, ◌<◌}
use native.Mathlib.Omega.{arith}
use lib.ListN.{length, get_or, drop}
use borrow.Author.Rules.{rules}
use Rattle.lists.proofs.Places.{keep-no, count-more}
use Rattle.links.specs.Sets.{links}
use Rattle.links.specs.Steps.{stays, remaining}
use Rattle.links.proofs.Loops.{same_read, blank-keeps, front-on, front-skip}
use Rattle.links.proofs.Memory.{positive, links-few, link_at, blank-after}
use Rattle.links.proofs.to_front.Goals as goal
use Rattle.links.proofs.to_front.Goals.{then-stays, else-stays}

pub loop-i-init : goal.loop-i-init
loop-i-init c = (search rules, search rules, refl, omega arith, refl, omega (arith, c.requires.1, links-few c.args.set.now c.told-set))

pub stays-requires : goal.stays-requires
stays-requires c =
    let i = c.loop-i.i in
    let low : i < length (links c.args.set.now) = omega (arith, c.requires.1) in
    positive (λ z. link_at c.args.set.now c.told-set c.requires.0 i low (sym (same_read c.loop-i.set c.args.set.now i c.loop-i.invariant.4) ∙ z))

pub loop-i-preserved : goal.loop-i-preserved
loop-i-preserved c =
    let m = c.args.set.now in
    let s = c.loop-i.set in
    let i = c.loop-i.i in
    let n = c.loop-i.n in
    let v = c.loop-i.invariant in
    let below : i < length m = omega (arith, c.told-set, v.5) in
    let test = stays c.args.port in
    let read : test (get_or m i 0) ≡ test (get_or s i 0) = ap test (sym (same_read s m i v.4)) in
    elim c.if-stays.branch [
      | then-stays w ↦
          let yes : test (get_or s i 0) ≡ true = sym c.stays.ensures ∙ w.if-stays.true in
          let on = front-on test s m n i _ v.4 v.2 below v.1 yes in
          rw (w.set-is, w.n-is) (search rules, omega (arith, v.1), on.0, count-more test m i 0 n _ below (read ∙ yes) v.3, on.1, v.5)
      | else-stays w ↦
          let no : test (get_or s i 0) ≡ false = sym c.stays.ensures ∙ w.if-stays.false in
          let skip = front-skip test s m n i _ v.4 v.2 below no in
          rw (w.set-is, w.n-is) (search rules, omega (arith, v.1), skip.0, ap (λ (l : List ℕ). n + length l) (sym (keep-no test m i 0 below (read ∙ no))) ∙ v.3, skip.1, v.5)
    ]

pub returns : goal.returns
unfolding remaining stays
returns c =
    let m = c.args.set.now in
    let i = c.loop-i.i in
    let v = c.loop-i.invariant in
    let past : length (links m) ≤ i = omega (arith, c.requires.1) in
    let none = blank-keeps (stays c.args.port) refl (drop i m) (blank-after m c.told-set c.requires.0 i past) in
    (omega (arith, v.3, ap length none), omega (arith, v.0, v.1, v.5), rw none at v.2)
