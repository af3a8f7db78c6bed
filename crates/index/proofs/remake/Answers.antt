-- `index::remake` meets its contract. Assumes nothing.
use Rattle.std.proofs.Common.{◌+◌, List, drop, sym, ap, ◌∙◌}
use lib.ListN.{drop_of_length-le}
use Rattle.lists.proofs.Places.{here}
use Rattle.plan.specs.declared.Subscriber.{Subscriber}
use Rattle.plan.specs.Parts.{nobody, at}
use Rattle.index.specs.Steps.{members}
use Rattle.index.proofs.Built.{added_all, adding-yes, adding-no, adding-end, remade}
use Rattle.index.proofs.remake.Goals as goal
use Rattle.index.proofs.remake.Goals.{else-wants, then-wants}

pub loop-s-preserved : goal.loop-s-preserved
loop-s-preserved c =
    let l = c.args.subscribers.now in
    let k = c.args.k in
    let j = c.loop-s.s-index in
    let rest = drop (j + 1) l in
    let there = ap (λ (x : List Subscriber). added_all (members k x) c.loop-s.list) (sym (here l j nobody c.loop-s-test.true)) ∙ c.loop-s.invariant in
    elim c.if-wants.branch [
      | then-wants w ↦ rw w.list-is (ap (added_all (members k rest)) w.add.ensures ∙ sym (adding-yes k (at l j) rest c.loop-s.list (sym c.wants.ensures ∙ w.if-wants.true)) ∙ there)
      | else-wants w ↦ rw w.list-is (sym (adding-no k (at l j) rest c.loop-s.list (sym c.wants.ensures ∙ w.if-wants.false)) ∙ there)
    ]

pub returns : goal.returns
returns c =
    let l = c.args.subscribers.now in
    let k = c.args.k in
    sym (adding-end k c.loop-s.list) ∙ ap (λ (x : List Subscriber). added_all (members k x) c.loop-s.list) (sym (drop_of_length-le l c.loop-s-test.false)) ∙ c.loop-s.invariant ∙ remade k l c.requires.0
