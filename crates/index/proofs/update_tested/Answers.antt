-- `index::update_tested` meets its contract. Assumes nothing.
use mathlib.Core.Path.{◌≡◌, sym, ap₂, ◌∙◌}
use mathlib.Core.Bool.{true}
use native.Mathlib.Omega.{arith}
use lib.ListN.{length}
use Rattle.plan.specs.Find.{used}
use Rattle.plan.proofs.Lookup.{found_below, found-used}
use Rattle.index.specs.Said.{said_with, matches}
use Rattle.index.proofs.Moved.{Shaped, matches-code, update-is}
use Rattle.index.proofs.Laws.{update-23, update-45, update-46, update-47, update-done}
use borrow.Author.Rules.{rules}
use Rattle.index.proofs.update_tested.Goals as goal

pub returns-then-not-kept : goal.returns-then-not-kept
returns-then-not-kept c = let l = update-23 _ _ _ _ _ _ c.if-not-kept.true in (ap₂ said_with l.0 l.1, l.2)

pub returns-in_default : goal.returns-in_default
returns-in_default c = let l = update-45 _ _ _ _ _ _ c.if-not-kept.false (sym c.find.ensures ∙ c.in_default.is) in (ap₂ said_with l.0 l.1, l.2)

pub returns-then-not-sets_fit : goal.returns-then-not-sets_fit
returns-then-not-sets_fit c =
    let l = update-46 _ _ _ _ _ _ _ c.if-not-kept.false (sym c.find.ensures ∙ c.in-Some.is) (sym c.sets_fit.ensures ∙ c.if-not-sets_fit.true) in
    (ap₂ said_with l.0 l.1, l.2)

pub returns-then-not-matches : goal.returns-then-not-matches
unfolding used
returns-then-not-matches c =
    let same : c.matches.result ≡ matches c.args.plan c.args.index.now = rw (c.used-count.ensures.0, c.into.ensures) at c.matches.ensures ∙ matches-code _ _ in
    let l = update-47 _ _ _ _ _ _ _ c.if-not-kept.false (sym c.find.ensures ∙ c.in-Some.is) (sym c.sets_fit.ensures ∙ c.if-not-sets_fit.false) (sym same ∙ c.if-not-matches.true) in
    (ap₂ said_with l.0 l.1, l.2)

pub bounds-plan-i : goal.bounds-plan-i
bounds-plan-i c = found_below _ _ _ (sym c.find.ensures ∙ c.in-Some.is)

pub offset_bounds-plan-i : goal.offset_bounds-plan-i
offset_bounds-plan-i c = omega (arith, found_below _ _ _ (sym c.find.ensures ∙ c.in-Some.is))

pub changed-q-requires : goal.changed-q-requires
changed-q-requires c = found_below _ _ _ (sym c.find.ensures ∙ c.in-Some.is)

pub returns : goal.returns
unfolding used
returns c =
    let p = c.args.plan in
    let index = c.args.index.now in
    let same : c.matches.result ≡ matches p index = rw (c.used-count.ensures.0, c.into.ensures) at c.matches.ensures ∙ matches-code _ _ in
    let long : length p.subscribers ≡ 256 = search rules in
    let is : matches p index ≡ true = sym same ∙ c.if-not-matches.false in
    let shape : Shaped index = record { rows = c.told-index; places = c.shaped.ensures } in
    let l = update-done _ p c.args.address c.args.source c.args.target index _ c.if-not-kept.false (sym c.find.ensures ∙ c.in-Some.is) (sym c.sets_fit.ensures ∙ c.if-not-sets_fit.false) is in (
      rw c.changed-q.ensures (ap₂ said_with l.0 l.1),
      rw (c.renew-2.ensures, c.renew.ensures, c.differing-2.ensures, c.differing.ensures, c.changed-q.ensures, c.used-count.ensures.0, c.into.ensures)
          (update-is p index shape is _ _ _ long (found-used _ _ _ (sym c.find.ensures ∙ c.in-Some.is)) ∙ l.2),
    )
