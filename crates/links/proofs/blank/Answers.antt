-- `links::blank` meets its contract. Assumes nothing.
use Rattle.std.proofs.Common.{sym, ◌∙◌}
use Rattle.links.proofs.Loops.{blank-on, blank-end}
use Rattle.links.proofs.blank.Goals as goal

pub loop-l-preserved : goal.loop-l-preserved
loop-l-preserved c = sym (blank-on c.loop-l.rest c.args.places.now c.loop-l.l-index c.loop-l-test.true) ∙ c.loop-l.invariant

pub returns : goal.returns
returns c = sym (blank-end c.loop-l.rest c.args.places.now c.loop-l.l-index c.loop-l-test.false) ∙ c.loop-l.invariant
