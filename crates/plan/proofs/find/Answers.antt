-- `plan::find` meets its contract. Assumes nothing.
use Rattle.std.proofs.Common.{◌≡◌, sym, ◌∙◌, true, false, rules, tests, eqb}
use Rattle.std.proofs.lemmas.Iterator.{IsFirst-from_position, YieldsList-from_slice}
use Rattle.plan.proofs.Lookup.{lookup-position, lookup-not-given}
use Rattle.plan.specs.Find.{used}
use Rattle.plan.proofs.find.Goals as goal

pub returns-then-not-given : goal.returns-then-not-given
returns-then-not-given c = sym (lookup-not-given _ _ (sym c.given.ensures ∙ c.if-not-given.true))

pub returns : goal.returns
unfolding used
returns c =
    lookup-position c.args.plan c.args.address (sym c.given.ensures ∙ c.if-not-given.false) _
    (IsFirst-from_position _ _ _ (λ s. eqb s.address c.args.address ≡ true) (λ s. eqb s.address c.args.address ≡ false)
    c.position.ensures.ran (YieldsList-from_slice _ (rw c.used.ensures at c.iter.ensures.rest))
    (λ x q k. search (rules, tests)) (λ x q k. search (rules, tests)))
