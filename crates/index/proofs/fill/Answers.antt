-- `index::fill` meets its contract. Assumes nothing.
use Rattle.std.proofs.Common.{◌+◌, List, drop, sym, ap, ◌∙◌}
use lib.ListN.{drop_of_length-le}
use Rattle.lists.proofs.Places.{here}
use Rattle.plan.specs.declared.Subscriber.{Subscriber}
use Rattle.plan.specs.Parts.{nobody, at}
use Rattle.index.proofs.Built.{entering, entered_all, entering-one, entering-end}
use Rattle.index.proofs.fill.Goals as goal

pub loop-s-preserved : goal.loop-s-preserved
loop-s-preserved c =
    let l = c.args.subscribers.now in
    let j = c.loop-s.s-index in
    let rows = c.loop-s.index in
    rw (c.enter-in-loop-s.ensures, c.enter.ensures)
    (sym (entering-one (at l j) (drop (j + 1) l) rows) ∙ ap (λ (x : List Subscriber). entering x rows) (sym (here l j nobody c.loop-s-test.true)) ∙ c.loop-s.invariant)

pub returns : goal.returns
returns c =
    let l = c.args.subscribers.now in
    let rows = c.loop-s.index in
    sym (entering-end rows) ∙ ap (λ (x : List Subscriber). entering x rows) (sym (drop_of_length-le l c.loop-s-test.false)) ∙ c.loop-s.invariant ∙ entered_all l c.requires
