-- `zone::zone_of` meets its contract. Assumes nothing.
use Rattle.std.proofs.Common.{◌≡◌, sym, ◌∙◌, arith}
use Rattle.typeset.specs.Sets.{size}
use Rattle.typeset.proofs.Laws.{size-le, without-lt}
use Rattle.zone.specs.Order.{zone_list, held}
use Rattle.zone.proofs.Rows.{next-lt}
use Rattle.zone.proofs.Held.{held-stored, zone-fits}
use Rattle.zone.proofs.Members.{zone-length}
use Rattle.zone.proofs.Zones.{zone-none, some_type, store_step, size_step}
use Rattle.zone.proofs.zone_of.Goals.{After-next-t}
use Rattle.zone.proofs.zone_of.Goals as goal

-- a type is left at each turn
left-some : (c : After-next-t) → ¬ (c.loop-n.left ≡ 0)
left-some c = some_type (omega (arith, c.loop-n-test.true, c.size-size.ensures, c.loop-n.invariant.1))

pub overflow_cast-types : goal.overflow_cast-types
overflow_cast-types c = omega (arith, c.next-t.ensures, next-lt c.args.rows c.loop-n.invariant.0 (left-some c))

pub bounds-types-n : goal.bounds-types-n
bounds-types-n c = omega (arith, c.loop-n-test.true, c.size-size.ensures, size-le c.args.set)

pub loop-n-preserved : goal.loop-n-preserved
loop-n-preserved c =
    let i = c.loop-n.invariant in
    let some = left-some (goal.at.loop-n-preserved c).After-next-t in
    rw (c.without-left.ensures, c.next-t.ensures)
    (without-lt _ _, omega (arith, i.1, size_step c.args.rows i.0 some), sym (store_step _ _ _ i.0 some) ∙ i.2)

pub overflow_cast-result : goal.overflow_cast-result
overflow_cast-result c = omega (arith, c.size-size.ensures, size-le c.args.set)

pub returns : goal.returns
unfolding held
returns c =
    let none : size c.loop-n.left ≡ 0 = omega (arith, c.loop-n-test.false, c.loop-n.auto.n-end, c.size-size.ensures, c.loop-n.invariant.1) in
    let done = rw (zone-none c.args.rows c.loop-n.left none) at c.loop-n.invariant.2 in
    let rows = c.args.rows in
    let set = c.args.set in
    λ i. record {
      types = (done ∙ held-stored (zone_list rows set) (zone-fits rows set)) i;
      len = (c.size-size.ensures ∙ sym (zone-length rows set)) i;
    }
