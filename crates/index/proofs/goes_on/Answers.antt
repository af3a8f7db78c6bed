-- `index::goes_on` meets its contract. Assumes nothing.
use Rattle.std.proofs.Common.{◌≡◌, ◌+◌, ◌<◌, get_or, sym, ap, ◌∙◌, rules, arith}
use lib.ListN.{length-set}
use Rattle.typeset.proofs.Taken.{taken-below}
use Rattle.index.specs.Steps.{all_go_on, owing}
use Rattle.typeset.proofs.InTurn.{left_of, left-lt, left-all, none-left, some-left, lowest-left, others-left}
use Rattle.index.proofs.Beside.{going-full, going-other, going_next, owing-none}
use Rattle.index.proofs.goes_on.Goals as goal

pub loop-t-init : goal.loop-t-init
loop-t-init c =
    let all : c.into_iter-t-iterator.result.left ≡ c.args.types = search rules in
    (c.requires.1, λ rest. ap (λ s. all_go_on c.args.met.now c.args.index.now (owing c.args.first s c.args.address rest)) (ap left_of all ∙ left-all c.ranges.types.fits))

pub bounds-met-k : goal.bounds-met-k
bounds-met-k c =
    let e = c.in-Some.ensures.steps in
    let some = some-left _ _ _ e in
    let lowest = lowest-left _ _ _ e in
    let low : c.in-Some.t < 32 = taken-below (left-lt _) some lowest in
    omega arith

pub returns-then-n-ge256 : goal.returns-then-n-ge256
returns-then-n-ge256 c =
    let e = c.in-Some.ensures.steps in
    let some = some-left _ _ _ e in
    let lowest = lowest-left _ _ _ e in
    let low : c.in-Some.t < 32 = taken-below (left-lt _) some lowest in
    let small : c.args.first + c.in-Some.t < 64 = omega arith in
    (c.loop-t.invariant.0, λ rest. sym (going-full (left-lt _) some lowest c.args.first c.args.address small c.loop-t.met c.args.index.now rest c.if-n-ge256.true) ∙ c.loop-t.invariant.1 rest)

pub bounds-index-k : goal.bounds-index-k
bounds-index-k c =
    let e = c.in-Some.ensures.steps in
    let some = some-left _ _ _ e in
    let lowest = lowest-left _ _ _ e in
    let low : c.in-Some.t < 32 = taken-below (left-lt _) some lowest in
    omega arith

pub bounds-met-k-in-loop-t : goal.bounds-met-k-in-loop-t
bounds-met-k-in-loop-t c =
    let e = c.in-Some.ensures.steps in
    let some = some-left _ _ _ e in
    let lowest = lowest-left _ _ _ e in
    let low : c.in-Some.t < 32 = taken-below (left-lt _) some lowest in
    omega arith

pub returns-then-index-k : goal.returns-then-index-k
returns-then-index-k c =
    let e = c.in-Some.ensures.steps in
    let some = some-left _ _ _ e in
    let lowest = lowest-left _ _ _ e in
    let low : c.in-Some.t < 32 = taken-below (left-lt _) some lowest in
    let small : c.args.first + c.in-Some.t < 64 = omega arith in
    (c.loop-t.invariant.0, λ rest. sym (going-other (left-lt _) some lowest c.args.first c.args.address small c.loop-t.met c.args.index.now rest c.if-index-k.true) ∙ c.loop-t.invariant.1 rest)

pub loop-t-preserved : goal.loop-t-preserved
loop-t-preserved c =
    let e = c.in-Some.ensures.steps in
    let some = some-left _ _ _ e in
    let lowest = lowest-left _ _ _ e in
    let low : c.in-Some.t < 32 = taken-below (left-lt _) some lowest in
    let small : c.args.first + c.in-Some.t < 64 = omega arith in (
      length-set c.loop-t.met (c.args.first + c.in-Some.t) (get_or c.loop-t.met (c.args.first + c.in-Some.t) 0 + 1) ∙ c.loop-t.invariant.0,
      λ rest. rw (others-left _ _ _ e) (sym (going_next (left-lt _) some lowest c.args.first c.args.address small c.loop-t.met c.args.index.now rest c.loop-t.invariant.0 c.if-n-ge256.false c.if-index-k.false) ∙ c.loop-t.invariant.1 rest),
    )

pub returns : goal.returns
returns c =
    let none = none-left _ c.in-None.ensures.steps.0 in
    (c.loop-t.invariant.0, λ rest. sym (owing-none _ _ _ _ rest) ∙ (rw none at (c.loop-t.invariant.1 rest)))
