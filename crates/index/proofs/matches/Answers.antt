-- `index::matches` meets its contract. Assumes nothing.
use Rattle.std.proofs.Common.{◌+◌, List, drop, sym, ap, ◌∙◌, arith}
use lib.ListN.{drop_of_length-le}
use Rattle.plan.specs.declared.Subscriber.{Subscriber}
use Rattle.plan.specs.Parts.{at}
use Rattle.index.specs.Steps.{members, all_go_on}
use Rattle.index.proofs.Beside.{source-no, source-yes, target-no, target-yes, all_none}
use Rattle.index.proofs.matches.Goals as goal

pub goes_on-requires : goal.goes_on-requires
goes_on-requires c = (omega arith, c.loop-s.invariant.0)

pub returns-then-not-goes_on : goal.returns-then-not-goes_on
returns-then-not-goes_on c =
    source-no c.args.subscribers.now c.loop-s.s-index c.loop-s-test.true c.loop-s.met c.goes_on.new.met c.args.index.now c.goes_on.result _ c.loop-s.invariant.1 c.goes_on.ensures.1 c.if-not-goes_on.true

pub goes_on-requires-in-loop-s : goal.goes_on-requires-in-loop-s
goes_on-requires-in-loop-s c = (omega arith, c.goes_on.ensures.0)

pub returns-then-not-goes_on-2 : goal.returns-then-not-goes_on-2
returns-then-not-goes_on-2 c =
    let l = c.args.subscribers.now in
    let j = c.loop-s.s-index in
    target-no c.goes_on.new.met c.goes_on-in-loop-s.new.met c.args.index.now c.goes_on-in-loop-s.result _ (at l j) (λ k. members k (drop (j + 1) l))
    (source-yes l j c.loop-s-test.true c.loop-s.met c.goes_on.new.met c.args.index.now c.goes_on.result _ c.loop-s.invariant.1 c.goes_on.ensures.1 c.if-not-goes_on.false)
    c.goes_on-in-loop-s.ensures.1 c.if-not-goes_on-2.true

pub loop-s-preserved : goal.loop-s-preserved
loop-s-preserved c =
    let l = c.args.subscribers.now in
    let j = c.loop-s.s-index in (
      c.goes_on-in-loop-s.ensures.0,
      target-yes c.goes_on.new.met c.goes_on-in-loop-s.new.met c.args.index.now c.goes_on-in-loop-s.result _ (at l j) (λ k. members k (drop (j + 1) l))
          (source-yes l j c.loop-s-test.true c.loop-s.met c.goes_on.new.met c.args.index.now c.goes_on.result _ c.loop-s.invariant.1 c.goes_on.ensures.1 c.if-not-goes_on.false)
          c.goes_on-in-loop-s.ensures.1 c.if-not-goes_on-2.false,
    )

pub returns : goal.returns
returns c =
    let l = c.args.subscribers.now in
    c.all_end.ensures ∙ sym (all_none c.loop-s.met c.args.index.now)
    ∙ ap (λ (x : List Subscriber). all_go_on c.loop-s.met c.args.index.now (λ k. members k x)) (sym (drop_of_length-le l c.loop-s-test.false)) ∙ c.loop-s.invariant.1
