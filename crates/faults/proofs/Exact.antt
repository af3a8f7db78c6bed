-- Any two results that a contract of this crate allows are equal: read off the contracts themselves, as the functions in src/ state them.
-- Assumes nothing.
use Rattle.std.specs.Prelude.{Option}
use mathlib.Core.Path.{◌≡◌, sym, ◌∙◌}
use mathlib.Core.Bool.{Bool}
use Prim.Native.Nat.{ℕ}
use Rattle.plan.specs.declared.Plan.{Plan}
use Rattle.zone.specs.declared.Zone.{Zone}
use Rattle.setup.specs.declared.Setup.{Setup}
use Rattle.setup.specs.declared.Fault.{Fault}
use Rattle.faults.proofs.fault_in.Reads as fault-in
use Rattle.faults.proofs.fault_of.Reads as fault-of
use Rattle.faults.proofs.well_formed_in.Reads as well-formed-in
use Rattle.faults.proofs.well_formed.Reads as well-formed

pub fault-of-exact : (plan : Plan) (setup : Setup) (r s : Option Fault) → fault-of.Post tt (plan, (setup, tt)) r (plan, (setup, tt)) → fault-of.Post tt (plan, (setup, tt)) s (plan, (setup, tt)) → r ≡ s
fault-of-exact plan setup r s p q = p ∙ sym q

pub well-formed-exact : (plan : Plan) (setup : Setup) (r s : Bool) → well-formed.Post tt (plan, (setup, tt)) r (plan, (setup, tt)) → well-formed.Post tt (plan, (setup, tt)) s (plan, (setup, tt)) → r ≡ s
well-formed-exact plan setup r s p q = p ∙ sym q

pub fault-in-exact : (zone : Zone) (reversible : ℕ) (setup : Setup) (r s : Option Fault) → fault-in.Post tt (zone, (reversible, (setup, tt))) r (zone, (reversible, (setup, tt)))
    → fault-in.Post tt (zone, (reversible, (setup, tt))) s (zone, (reversible, (setup, tt))) → r ≡ s
fault-in-exact zone reversible setup r s p q = p ∙ sym q

pub well-formed-in-exact : (zone : Zone) (reversible : ℕ) (setup : Setup) (r s : Bool) → well-formed-in.Post tt (zone, (reversible, (setup, tt))) r (zone, (reversible, (setup, tt)))
    → well-formed-in.Post tt (zone, (reversible, (setup, tt))) s (zone, (reversible, (setup, tt))) → r ≡ s
well-formed-in-exact zone reversible setup r s p q = p ∙ sym q
