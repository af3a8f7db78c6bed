-- `planwrite::put_subscribers` meets its contract. Assumes nothing.
use Rattle.std.proofs.Common.{rules, ◌≡◌, ◌<◌, ◌+◌, length, arith, refl, sym, ap, ◌∙◌}
use Rattle.std.specs.Prelude.{take}
use Rattle.std.proofs.lemmas.List.{get_or-take}
use Rattle.plan.specs.Parts.{at}
use Rattle.planbytes.specs.Format.{field, subscriber_body, subscriber_fields}
use Rattle.planwrite.proofs.Puts.{fields-length, fields-done, put-less, put-length, put-none, put_next}
use Rattle.planwrite.proofs.put_subscribers.Goals as goal

pub loop-s-init : goal.loop-s-init
loop-s-init c = (refl, refl, refl, omega arith)

pub put_subscriber-at-requires : goal.put_subscriber-at-requires
put_subscriber-at-requires c =
    let long : length c.args.subscribers ≡ 256 = search rules in
    let some : c.loop-s.s-index < c.args.count = search rules in
    let next = fields-length c.args.subscribers c.args.count c.loop-s.s-index long c.requires.0 some in
    let i = c.loop-s.invariant in
    rw (get_or-take c.args.count c.args.subscribers c.loop-s.s-index _ some)
    (omega (arith, i.3, c.requires.0, some), put-less c.args.put (289 + length (subscriber_fields (take c.args.count c.args.subscribers))) (rw i.0 c.requires.1) (omega (arith, i.1, next)))

pub loop-s-preserved : goal.loop-s-preserved
loop-s-preserved c =
    let long : length c.args.subscribers ≡ 256 = search rules in
    let some : c.loop-s.s-index < c.args.count = search rules in
    let next = fields-length c.args.subscribers c.args.count c.loop-s.s-index long c.requires.0 some in
    let i = c.loop-s.invariant in
    let put = rw (get_or-take c.args.count c.args.subscribers c.loop-s.s-index _ some) at c.put_subscriber-at.ensures in (
      ap length put.0 ∙ put-length c.args.put c.loop-s.room (field 5 (subscriber_body (at c.args.subscribers c.loop-s.s-index))) c.loop-s.at ∙ i.0,
      omega (arith, i.1, next, put.1),
      put_next c.args.put c.args.subscribers c.args.count c.loop-s.s-index c.loop-s.room c.loop-s.at long c.requires.0 some put.0 put.1 ∙ i.2,
      omega (arith, i.3, put.2),
    )

pub returns : goal.returns
returns c =
    let long : length c.args.subscribers ≡ 256 = search rules in
    let end : c.loop-s.s-index ≡ c.args.count = search rules in
    let none = fields-done c.args.subscribers c.args.count in
    let empty = ap length none in
    let i = c.loop-s.invariant in
    let all = rw end at i.1 in
    (sym (put-none c.args.put c.loop-s.room c.loop-s.at) ∙ rw (end, none) at i.2, omega (arith, all, empty), omega (arith, i.3, end, c.requires.0), long)
