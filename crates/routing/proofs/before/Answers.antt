-- `routing::before` meets its contract. Assumes nothing.
use Rattle.std.proofs.Common.{rules, tests, ◌≡◌, true, false, eqb}
use Rattle.std.proofs.lemmas.Iterator.{IsFirst-from_position, YieldsList-from_slice}
use Rattle.std.specs.Prelude.{MatchOption, HoldsAt, length, ◌<◌}
use Rattle.std.specs.List.{AllWithin}
use Rattle.zone.specs.Order.{list_of}
use Rattle.routing.proofs.Parts.{before-found, before-nowhere}
use Rattle.routing.proofs.before.Goals.{After-position}
use Rattle.routing.proofs.before.Goals as goal

-- what `position` says of the zone
said : (c : After-position) → MatchOption c.position.result (AllWithin (λ u. eqb u c.args.t ≡ false) (list_of c.args.zone) 0 (length (list_of c.args.zone)))
    (λ i. (i < length (list_of c.args.zone)) × HoldsAt (λ u. eqb u c.args.t ≡ true) (list_of c.args.zone) i × AllWithin (λ u. eqb u c.args.t ≡ false) (list_of c.args.zone) 0 i)
said c =
    IsFirst-from_position _ _ _ (λ u. eqb u c.args.t ≡ true) (λ u. eqb u c.args.t ≡ false) c.position.ensures.ran (YieldsList-from_slice _ (rw c.as_slice.ensures at c.iter.ensures.rest))
    (λ x q k. search (rules, tests)) (λ x q k. search (rules, tests))

pub returns-in-Some : goal.returns-in-Some
returns-in-Some c = let s = said (goal.at.returns-in-Some c).After-position in before-found c.args.t (list_of c.args.zone) _ (rw c.in-Some.is at s)

pub returns-in-None : goal.returns-in-None
returns-in-None c = let s = said (goal.at.returns-in-None c).After-position in before-nowhere c.args.t (list_of c.args.zone) (rw c.in-None.is at s)
