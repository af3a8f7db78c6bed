-- `index::renew` meets its contract. Assumes nothing.
use Rattle.std.proofs.Common.{◌≡◌, ◌<◌, sym, ap, ◌∙◌, rules, arith}
use Rattle.typeset.proofs.Taken.{taken-below}
use Rattle.index.specs.Index.{row}
use Rattle.index.specs.Steps.{members, upon}
use Rattle.typeset.proofs.InTurn.{left_of, left-lt, left-all, none-left, some-left, lowest-left, others-left}
use Rattle.index.proofs.Rows.{upon-next, upon-none}
use Rattle.index.proofs.renew.Goals as goal

pub loop-t-init : goal.loop-t-init
loop-t-init c =
    let all : c.into_iter-t-iterator.result.left ≡ c.args.types = search rules in
    ap (λ s. upon c.args.first s (λ k r. row (members k c.args.subscribers.now)) c.args.index.now) (ap left_of all ∙ left-all c.ranges.types.fits)

pub bounds-index-k : goal.bounds-index-k
bounds-index-k c =
    let e = c.in-Some.ensures.steps in
    let low : c.in-Some.t < 32 = taken-below (left-lt _) (some-left _ _ _ e) (lowest-left _ _ _ e) in
    omega arith

pub remake-requires : goal.remake-requires
remake-requires c =
    let e = c.in-Some.ensures.steps in
    let low : c.in-Some.t < 32 = taken-below (left-lt _) (some-left _ _ _ e) (lowest-left _ _ _ e) in
    (c.requires.1, omega arith)

pub loop-t-preserved : goal.loop-t-preserved
loop-t-preserved c =
    let e = c.in-Some.ensures.steps in
    rw (others-left _ _ _ e, c.remake.ensures)
    (sym (upon-next (left-lt _) (some-left _ _ _ e) (lowest-left _ _ _ e) c.args.first (λ k l. row (members k c.args.subscribers.now)) c.loop-t.index) ∙ c.loop-t.invariant)

pub returns : goal.returns
returns c =
    let none = none-left _ c.in-None.ensures.steps.0 in
    sym (upon-none _ _ _) ∙ (rw none at c.loop-t.invariant)
