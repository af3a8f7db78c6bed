-- Any two results that a contract of this crate allows are equal: read off the contracts themselves, as the functions in src/ state them.
-- Assumes nothing.
use Rattle.std.specs.Prelude.{Result}
use mathlib.Core.Path.{◌≡◌, sym, ◌∙◌}
use mathlib.Core.List.{List}
use Prim.Native.Nat.{ℕ}
use Rattle.plan.specs.declared.Plan.{Plan}
use Rattle.plan.specs.declared.Seen.{Seen}
use Rattle.plan.specs.Find.{seen}
use Rattle.setup.specs.declared.Setup.{Setup}
use Rattle.setup.specs.Setups.{routing_address}
use Rattle.making.specs.declared.Maker.{Maker}
use Rattle.making.specs.Making.{box_address}
use contract.Lifetimes.{Lfts}
use denote.Ref.{Bor}
use denote.Triple.Clauses.{AtExit}
use borrow.Fn.Kinds.{ended_of}
use Rattle.making.proofs.box_address.Reads as box-address
use Rattle.making.proofs.new_setup.Reads as new-setup
use Rattle.making.proofs.new_setup.Kinds as new-setup-kinds
use Rattle.making.proofs.continued_setup.Reads as continued-setup
use Rattle.making.proofs.continued_setup.Kinds as continued-setup-kinds
use Rattle.making.proofs.reversed_setup.Reads as reversed-setup
use Rattle.making.proofs.reversed_setup.Kinds as reversed-setup-kinds
use mathlib.Core.Bool.{Bool}
use Rattle.making.proofs.new_tested.Reads as new-tested
use Rattle.making.proofs.new_tested.Kinds as new-tested-kinds
use Rattle.making.proofs.continued_tested.Reads as continued-tested
use Rattle.making.proofs.continued_tested.Kinds as continued-tested-kinds
use Rattle.making.proofs.reversed_tested.Reads as reversed-tested
use Rattle.making.proofs.reversed_tested.Kinds as reversed-tested-kinds
use Rattle.making.proofs.new_seen.Reads as new-seen
use Rattle.making.proofs.new_seen.Kinds as new-seen-kinds
use Rattle.making.proofs.continued_seen.Reads as continued-seen
use Rattle.making.proofs.continued_seen.Kinds as continued-seen-kinds
use Rattle.making.proofs.reversed_seen.Reads as reversed-seen
use Rattle.making.proofs.reversed_seen.Kinds as reversed-seen-kinds
use Rattle.refusal.specs.declared.Refusal.{Refusal}

pub box-address-exact : (maker : Maker) (r s : ℕ) → box-address.Post tt (maker, tt) r (maker, tt) → box-address.Post tt (maker, tt) s (maker, tt) → r ≡ s
box-address-exact maker r s p q = p ∙ sym q

pub new-setup-exact : (κs : Lfts 1) (plan : Plan) (maker : Maker) (string : Bor (List ℕ)) (target : ℕ) (end : AtExit (ended_of 1 new-setup-kinds.ps new-setup-kinds.r) κs) (r s : Result Setup Refusal)
    → new-setup.Post κs (plan, (maker, (string, (target, tt)))) r end → new-setup.Post κs (plan, (maker, (string, (target, tt)))) s end → r ≡ s
new-setup-exact κs plan maker string target end r s p q = p.0 ∙ sym q.0

pub continued-setup-exact : (κs : Lfts 1) (plan : Plan) (maker : Maker) (setup : Setup) (source : ℕ) (string : Bor (List ℕ)) (target : ℕ) (end : AtExit (ended_of 1 continued-setup-kinds.ps continued-setup-kinds.r) κs) (r s : Result Setup Refusal)
    → continued-setup.Post κs (plan, (maker, (setup, (source, (string, (target, tt)))))) r end → continued-setup.Post κs (plan, (maker, (setup, (source, (string, (target, tt)))))) s end → r ≡ s
continued-setup-exact κs plan maker setup source string target end r s p q = p.0 ∙ sym q.0

pub reversed-setup-exact : (κs : Lfts 1) (plan : Plan) (maker : Maker) (setup : Setup) (source : ℕ) (string : Bor (List ℕ)) (target : ℕ) (end : AtExit (ended_of 1 reversed-setup-kinds.ps reversed-setup-kinds.r) κs) (r s : Result Setup Refusal)
    → reversed-setup.Post κs (plan, (maker, (setup, (source, (string, (target, tt)))))) r end → reversed-setup.Post κs (plan, (maker, (setup, (source, (string, (target, tt)))))) s end → r ≡ s
reversed-setup-exact κs plan maker setup source string target end r s p q = p.0 ∙ sym q.0

-- by a verdict on the plan
pub new-tested-exact : (κs : Lfts 1) (kept : Bool) (plan : Plan) (maker : Maker) (string : Bor (List ℕ)) (target : ℕ) (end : AtExit (ended_of 1 new-tested-kinds.ps new-tested-kinds.r) κs) (r s : Result Setup Refusal)
    → new-tested.Post κs (kept, (plan, (maker, (string, (target, tt))))) r end → new-tested.Post κs (kept, (plan, (maker, (string, (target, tt))))) s end → r ≡ s
new-tested-exact κs kept plan maker string target end r s p q = p ∙ sym q

pub continued-tested-exact : (κs : Lfts 1) (kept : Bool) (plan : Plan) (maker : Maker) (setup : Setup) (source : ℕ) (string : Bor (List ℕ)) (target : ℕ) (end : AtExit (ended_of 1 continued-tested-kinds.ps continued-tested-kinds.r) κs) (r s : Result Setup Refusal)
    → continued-tested.Post κs (kept, (plan, (maker, (setup, (source, (string, (target, tt))))))) r end → continued-tested.Post κs (kept, (plan, (maker, (setup, (source, (string, (target, tt))))))) s end → r ≡ s
continued-tested-exact κs kept plan maker setup source string target end r s p q = p ∙ sym q

pub reversed-tested-exact : (κs : Lfts 1) (kept : Bool) (plan : Plan) (maker : Maker) (setup : Setup) (source : ℕ) (string : Bor (List ℕ)) (target : ℕ) (end : AtExit (ended_of 1 reversed-tested-kinds.ps reversed-tested-kinds.r) κs) (r s : Result Setup Refusal)
    → reversed-tested.Post κs (kept, (plan, (maker, (setup, (source, (string, (target, tt))))))) r end → reversed-tested.Post κs (kept, (plan, (maker, (setup, (source, (string, (target, tt))))))) s end → r ≡ s
reversed-tested-exact κs kept plan maker setup source string target end r s p q = p ∙ sym q

-- by what a plan shows, wherever some plan shows it
pub new-seen-exact : (κs : Lfts 1) (kept : Bool) (v : Seen) (maker : Maker) (string : Bor (List ℕ)) (target : ℕ) (end : AtExit (ended_of 1 new-seen-kinds.ps new-seen-kinds.r) κs) (r s : Result Setup Refusal) (plan : Plan) (second : ℕ)
    → seen plan (box_address maker) second ≡ v
    → new-seen.Post κs (kept, (v, (maker, (string, (target, tt))))) r end → new-seen.Post κs (kept, (v, (maker, (string, (target, tt))))) s end → r ≡ s
new-seen-exact κs kept v maker string target end r s plan second shows p q = p plan second shows ∙ sym (q plan second shows)

pub continued-seen-exact : (κs : Lfts 1) (kept : Bool) (v : Seen) (maker : Maker) (setup : Setup) (source : ℕ) (string : Bor (List ℕ)) (target : ℕ) (end : AtExit (ended_of 1 continued-seen-kinds.ps continued-seen-kinds.r) κs) (r s : Result Setup Refusal) (plan : Plan)
    → seen plan (box_address maker) (routing_address setup) ≡ v
    → continued-seen.Post κs (kept, (v, (maker, (setup, (source, (string, (target, tt))))))) r end → continued-seen.Post κs (kept, (v, (maker, (setup, (source, (string, (target, tt))))))) s end → r ≡ s
continued-seen-exact κs kept v maker setup source string target end r s plan shows p q = p plan shows ∙ sym (q plan shows)

pub reversed-seen-exact : (κs : Lfts 1) (kept : Bool) (v : Seen) (maker : Maker) (setup : Setup) (source : ℕ) (string : Bor (List ℕ)) (target : ℕ) (end : AtExit (ended_of 1 reversed-seen-kinds.ps reversed-seen-kinds.r) κs) (r s : Result Setup Refusal) (plan : Plan)
    → seen plan (box_address maker) (routing_address setup) ≡ v
    → reversed-seen.Post κs (kept, (v, (maker, (setup, (source, (string, (target, tt))))))) r end → reversed-seen.Post κs (kept, (v, (maker, (setup, (source, (string, (target, tt))))))) s end → r ≡ s
reversed-seen-exact κs kept v maker setup source string target end r s plan shows p q = p plan shows ∙ sym (q plan shows)
