-- `faults::fault_of` meets its contract: a zone is built only for a list. Assumes nothing.
use mathlib.Core.Path.{◌≡◌, ap, ◌∙◌}
use mathlib.Core.List.{List}
use Prim.Native.Nat.{ℕ}
use Rattle.zone.specs.Answer.{zone_at}
use Rattle.zone.specs.Order.{list_of}
use Rattle.setup.specs.Setups.{routing_address, fault_in, fault, zone_asked}
use Rattle.setup.proofs.Faults.{asked-enough}
use Rattle.zone.proofs.Held.{held-list}
use Rattle.faults.proofs.fault_of.Goals as goal

pub returns : goal.returns
unfolding fault list_of
returns c =
    let a = c.args in
    let zone : list_of c.zone_asked-zone.result ≡ zone_asked a.s.route (zone_at a.plan a.s.region (routing_address a.s)) = rw (c.zone_asked-zone.ensures, c.routing_address.ensures) (held-list (zone_asked a.s.route (zone_at a.plan a.s.region (routing_address a.s)))) in
    c.fault_in.ensures ∙ ap (λ (z : List ℕ). fault_in z a.plan.types.reversible a.s) zone ∙ asked-enough (zone_at a.plan a.s.region (routing_address a.s)) a.plan.types.reversible a.s
