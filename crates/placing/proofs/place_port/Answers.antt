-- `placing::place_port` meets its contract. Assumes nothing.
use Rattle.std.proofs.Common.{◌≡◌, sym, ◌∙◌, ap, length, [], ◌∷◌, Ok, Err, rules}
use Rattle.placing.specs.Rows.{answer_in}
use Rattle.placing.proofs.Settles.{port-kept, port-ok, port-record-ok}
use Rattle.placing.proofs.place_port.Goals as goal

pub returns-in_err-routed : goal.returns-in_err-routed
returns-in_err-routed c =
    let a = c.args in
    let n = length a.source_list.now in
    let m = length a.target_list.now in
    let routed = rw c.port_later-later.ensures at c.route_unless.ensures in
    let e : answer_in (a.port.now ∷ []) a.plan a.out n m ≡ Err c.in_err-routed.field-0.0 = sym routed.0 ∙ c.in_err-routed.was in
    (rw e (search rules), port-kept a.port.now a.plan a.out n m e, routed.1, routed.2)

pub returns : goal.returns
returns c =
    let a = c.args in
    let n = length a.source_list.now in
    let m = length a.target_list.now in
    let routed = rw c.port_later-later.ensures at c.route_unless.ensures in
    let e : answer_in (a.port.now ∷ []) a.plan a.out n m ≡ Ok c.in_ok-routed.routed = sym routed.0 ∙ c.in_ok-routed.was in (
      ap Ok c.put.ensures.answer ∙ port-ok a.port.now a.plan a.out n m e,
      c.put.ensures.record ∙ port-record-ok a.port.now a.plan a.out n m e,
      routed.1,
      routed.2,
    )
