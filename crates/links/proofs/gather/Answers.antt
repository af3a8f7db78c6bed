-- `links::gather` meets its contract. Assumes nothing.
use mathlib.Core.Path.{refl, sym, ap, ◌∙◌}
use Prim.Native.Nat.{ℕ, ◌+◌, ◌≤◌, ◌<◌}
use native.Mathlib.Omega.{arith}
use lib.ListN.{length, length-map}
use lib.Seq.{sets}
use mathlib.Core.List.{List, map}
use Rattle.lists.specs.Lists.{keep}
use Rattle.lists.proofs.Places.{keep-no, keep-end, store-more, count-more}
use Rattle.links.specs.Links.{source_of}
use Rattle.links.specs.Steps.{audible, heard_at}
use Rattle.links.proofs.Loops.{keep-free}
use Rattle.links.proofs.gather.Goals as goal
use Rattle.links.proofs.gather.Goals.{then-audible, else-audible}

pub returns-then-l-eq0 : goal.returns-then-l-eq0
unfolding heard_at audible
returns-then-l-eq0 c =
    let below : c.loop-l.l-index < length c.args.set.now = omega (arith, c.told-set, c.loop-l-test.true) in
    let i = c.loop-l.invariant in
    let none = keep-free (audible c.args.sink) refl c.args.set.now c.loop-l.l-index c.requires below c.if-l-eq0.true in
    (omega (arith, i.2, ap length none, length-map (keep (audible c.args.sink) c.args.set.now) source_of), rw none at i.1)

pub loop-l-preserved : goal.loop-l-preserved
loop-l-preserved c =
    let below : c.loop-l.l-index < length c.args.set.now = omega (arith, c.told-set, c.loop-l-test.true) in
    let i = c.loop-l.invariant in
    elim c.if-audible.branch [
      | then-audible w ↦
          let yes = sym c.audible.ensures ∙ w.if-audible.true in
          rw (w.room-is, w.n-is, w.low_half.ensures) (omega (arith, i.0), sym (store-more _ _ _ 0 below yes source_of _ _) ∙ i.1, count-more _ _ _ 0 _ _ below yes i.2)
      | else-audible w ↦
          let no = keep-no (audible c.args.sink) c.args.set.now c.loop-l.l-index 0 below (sym c.audible.ensures ∙ w.if-audible.false) in
          rw (w.room-is, w.n-is) (omega (arith, i.0), ap (λ (l : List ℕ). sets c.loop-l.room c.loop-l.n (map source_of l)) (sym no) ∙ i.1, ap (λ (l : List ℕ). c.loop-l.n + length l) (sym no) ∙ i.2)
    ]

pub returns : goal.returns
unfolding heard_at
returns c =
    let past : length c.args.set.now ≤ c.loop-l.l-index = omega (arith, c.told-set, c.loop-l-test.false) in
    let i = c.loop-l.invariant in
    let none = keep-end (audible c.args.sink) c.args.set.now c.loop-l.l-index past in
    (omega (arith, i.2, ap length none, length-map (keep (audible c.args.sink) c.args.set.now) source_of), rw none at i.1)
