-- `zone::next` meets its contract. Assumes nothing.
use mathlib.Core.Path.{sym, ◌∙◌, ap}
use borrow.Author.Tests.{ne_eqb}
use Rattle.typeset.specs.Sets.{lowest}
use Rattle.zone.specs.Order.{next}
use Rattle.zone.proofs.next.Goals as goal

pub returns-then-free-eq0 : goal.returns-then-free-eq0
unfolding next
returns-then-free-eq0 c = rw (sym c.unpreceded-free.ensures ∙ c.if-free-eq0.true) c.lowest.ensures

pub returns-else-free-eq0 : goal.returns-else-free-eq0
unfolding next
returns-else-free-eq0 c =
    let e = c.unpreceded-free.ensures in
    rw (ne_eqb _ 0 (λ z. c.if-free-eq0.false (e ∙ z))) (c.lowest-else-free-eq0.ensures ∙ ap lowest e)
