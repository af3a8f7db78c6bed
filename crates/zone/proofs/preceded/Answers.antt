-- `zone::preceded` meets its contract. Assumes nothing.
use Rattle.std.proofs.Common.{◌≡◌, ap, ◌∙◌, rules, arith}
use Rattle.typeset.proofs.Laws.{join-lt}
use Rattle.typeset.proofs.Taken.{taken-below, taken-has}
use Rattle.typeset.proofs.InTurn.{left_of, left-lt, left-all, none-left, some-left, lowest-left, others-left}
use Rattle.zone.proofs.Rows.{found_none, found-row, found_all}
use Rattle.zone.proofs.preceded.Goals as goal

pub loop-u-init : goal.loop-u-init
loop-u-init c =
    let all : c.into_iter-u-iterator.result.left ≡ c.args.set = search rules in
    (omega arith, rw (ap left_of all ∙ left-all c.ranges.set.fits) (found_none c.args.rows.now c.args.set))

pub bounds-rows-u : goal.bounds-rows-u
bounds-rows-u c =
    let e = c.in-Some.ensures.steps in
    taken-below (left-lt _) (some-left _ _ _ e) (lowest-left _ _ _ e)

pub loop-u-preserved : goal.loop-u-preserved
loop-u-preserved c =
    let e = c.in-Some.ensures.steps in
    let i = c.loop-u.invariant in
    rw (others-left _ _ _ e, c.join-found.ensures)
    (join-lt _ _, found-row _ _ _ _ _ i.1 (taken-below (left-lt _) (some-left _ _ _ e) (lowest-left _ _ _ e)) (taken-has (left-lt _) (some-left _ _ _ e) (lowest-left _ _ _ e)))

pub returns : goal.returns
returns c =
    let i = c.loop-u.invariant in
    found_all _ _ _ i.0 (rw (none-left _ c.in-None.ensures.steps.0) at i.1)
