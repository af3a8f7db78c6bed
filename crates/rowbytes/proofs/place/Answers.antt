-- `rowbytes::place` meets its contract. Assumes nothing.
use Rattle.std.specs.Prelude.{Result}
use Rattle.std.proofs.Common.{length, refl, sym, ap, ◌∙◌, rules}
use Rattle.refusal.specs.declared.Refusal.{Refusal}
use Rattle.routing.specs.declared.Callee.{Callee}
use Rattle.routing.specs.Routing.{source_list_after, target_list_after}
use Rattle.rowbytes.proofs.Turns.{outcome-is, routed-is, refused-is}
use Rattle.call.specs.Protocol.{next_use}
use Rattle.rowbytes.proofs.place.Goals as goal

pub returns : goal.returns
returns c = record {
  value = λ p shows.
      let a = c.args in
      let next = ap next_use c.use_at-use_number.ensures in
      let free = c.lowest_free-r.ensures in
      let later = c.later_for-later.ensures in
      let routed = c.route_seen.ensures.value p shows in
      let n = length a.source_list.now in
      let m = length a.target_list.now in
      let o = outcome-is a.kept a.row.now p a.out n m free later routed.0 in
      let placed = routed-is a.kept a.row.now p a.out n m free later routed.0 c.in_ok-routed.was next c.put_placed.ensures in (
        placed.0,
        placed.1,
        placed.2,
        routed.1 ∙ ap (λ (y : (Result Callee Refusal)). source_list_after p a.out y a.source_list.now) o,
        routed.2 ∙ ap (λ (y : (Result Callee Refusal)). target_list_after p a.out y a.target_list.now) o,
      );
  unchanged = search rules;
}

pub returns-in_err-routed : goal.returns-in_err-routed
returns-in_err-routed c = record {
  value = λ p shows.
      let a = c.args in
      let free = c.lowest_free-r.ensures in
      let later = c.later_for-later.ensures in
      let routed = c.route_seen.ensures.value p shows in
      let n = length a.source_list.now in
      let m = length a.target_list.now in
      let o = outcome-is a.kept a.row.now p a.out n m free later routed.0 in
      let placed = refused-is a.kept a.row.now p a.out n m free later routed.0 c.in_err-routed.was in (
        rw (sym placed.0) (search rules),
        placed.1,
        placed.2,
        routed.1 ∙ ap (λ (y : (Result Callee Refusal)). source_list_after p a.out y a.source_list.now) o,
        routed.2 ∙ ap (λ (y : (Result Callee Refusal)). target_list_after p a.out y a.target_list.now) o,
      );
  unchanged = (λ refused. refl, λ refused. c.route_seen.ensures.unchanged.0 (rw c.in_err-routed.was refl), λ refused. c.route_seen.ensures.unchanged.1 (rw c.in_err-routed.was refl));
}
