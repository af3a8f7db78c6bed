-- `placing::place` meets its contract. Assumes nothing.
use Rattle.std.proofs.Common.{◌≡◌, ◌<◌, sym, ◌∙◌, ap, length, set, Ok, Err, rules, arith}
use Rattle.std.proofs.lemmas.List.{get_or_default}
use Rattle.call.specs.declared.Call.{Call}
use Rattle.call.specs.Protocol.{cleared, placing_in}
use Rattle.placing.specs.Parts.{put_as}
use Rattle.plan.specs.Sound.{sound}
use Rattle.placing.specs.Rows.{answer_in}
use Rattle.placing.proofs.Settles.{row-kept, inside, answers-ok, leaves-ok}
use Rattle.placing.proofs.place.Goals as goal

pub returns-in_err-routed : goal.returns-in_err-routed
returns-in_err-routed c =
    let a = c.args in
    let n = length a.source_list.now in
    let m = length a.target_list.now in
    let routed = rw (c.later_for-later.ensures, c.lowest_free-r.ensures) at c.route_unless.ensures in
    let e : answer_in a.row.now a.plan a.out n m ≡ Err c.in_err-routed.field-0.0 = sym routed.0 ∙ c.in_err-routed.was in
    (rw e (search rules), row-kept (sound a.plan) a.row.now a.plan a.out n m e, routed.1, routed.2)

pub bounds-row-r : goal.bounds-row-r
bounds-row-r c =
    let a = c.args in
    let n = length a.source_list.now in
    let m = length a.target_list.now in
    let routed = rw (c.later_for-later.ensures, c.lowest_free-r.ensures) at c.route_unless.ensures in
    rw c.lowest_free-r.ensures (inside a.row.now a.plan a.out n m (sym routed.0 ∙ c.in_ok-routed.was))

pub offset_bounds-row-r : goal.offset_bounds-row-r
offset_bounds-row-r c =
    let a = c.args in
    let n = length a.source_list.now in
    let m = length a.target_list.now in
    let routed = rw (c.later_for-later.ensures, c.lowest_free-r.ensures) at c.route_unless.ensures in
    let here : c.lowest_free-r.result < length a.row.now = rw c.lowest_free-r.ensures (inside a.row.now a.plan a.out n m (sym routed.0 ∙ c.in_ok-routed.was)) in
    omega arith

pub returns : goal.returns
returns c =
    let a = c.args in
    let n = length a.source_list.now in
    let m = length a.target_list.now in
    let routed = rw (c.later_for-later.ensures, c.lowest_free-r.ensures) at c.route_unless.ensures in
    let e : answer_in a.row.now a.plan a.out n m ≡ Ok c.in_ok-routed.routed = sym routed.0 ∙ c.in_ok-routed.was in
    let r = c.lowest_free-r.result in
    let here : r < length a.row.now = rw c.lowest_free-r.ensures (inside a.row.now a.plan a.out n m e) in (
      ap Ok (c.put.ensures.answer ∙ ap (λ (y : Call). put_as r y c.in_ok-routed.routed) (get_or_default a.row.now r _ cleared here))
          ∙ rw c.lowest_free-r.ensures (answers-ok a.row.now a.plan a.out n m e),
      ap (λ (y : Call). set a.row.now r y) (c.put.ensures.record ∙ ap (λ (y : Call). (placing_in y).call) (get_or_default a.row.now r _ cleared here))
          ∙ rw c.lowest_free-r.ensures (leaves-ok a.row.now a.plan a.out n m e),
      routed.1,
      routed.2,
    )
