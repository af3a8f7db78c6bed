-- Any two results that a contract of this crate allows are equal, and so are any two contents of what was lent: read off the contracts themselves, as the functions in
-- src/ state them. Assumes nothing.
use Rattle.std.specs.Prelude.{Result, Err}
use Rattle.std.specs.Result.{is_ok}
use Rattle.std.proofs.Common.{◌≡◌, ℕ, Bool, List, sym, ap, ◌∙◌, Bor, MutBor}
use contract.Lifetimes.{Lfts}
use denote.Triple.Clauses.{AtExit}
use borrow.Fn.Kinds.{ended_of}
use Rattle.plan.specs.declared.Plan.{Plan}
use Rattle.plan.specs.declared.Seen.{Seen}
use Rattle.plan.specs.Find.{seen}
use Rattle.setup.specs.declared.Setup.{Setup}
use Rattle.refusal.specs.declared.Refusal.{Refusal}
use Rattle.routing.specs.Steps.{target1}
use Rattle.placing.specs.declared.Placed.{Placed}
use Rattle.recordbytes.specs.declared.Commanded.{Commanded}
use Rattle.rowbytes.proofs.lowest_free.Reads as lowest-free
use Rattle.rowbytes.proofs.lowest_free.Kinds as lowest-free-kinds
use Rattle.rowbytes.proofs.clear.Reads as clear
use Rattle.rowbytes.proofs.clear.Kinds as clear-kinds
use Rattle.rowbytes.proofs.command.Reads as command
use Rattle.rowbytes.proofs.command.Kinds as command-kinds
use Rattle.rowbytes.proofs.place.Reads as place
use Rattle.rowbytes.proofs.place.Kinds as place-kinds
use Rattle.rowbytes.proofs.port_command.Reads as port-command
use Rattle.rowbytes.proofs.port_command.Kinds as port-command-kinds
use Rattle.rowbytes.proofs.port_place.Reads as port-place
use Rattle.rowbytes.proofs.port_place.Kinds as port-place-kinds

pub lowest-free-exact : (κs : Lfts 1) (row : Bor (List ℕ)) (end end' : AtExit (ended_of 1 lowest-free-kinds.ps lowest-free-kinds.r) κs) (r s : ℕ)
    → lowest-free.Post κs (row, tt) r end → lowest-free.Post κs (row, tt) s end' → r ≡ s
lowest-free-exact κs row end end' r s p q = p ∙ sym q

pub clear-exact : (κs : Lfts 1) (row : MutBor (List ℕ)) (end end' : AtExit (ended_of 1 clear-kinds.ps clear-kinds.r) κs) (r s : Unit)
    → clear.Post κs (row, tt) r end → clear.Post κs (row, tt) s end' → end.0.now ≡ end'.0.now
clear-exact κs row end end' r s p q = p.0 ∙ sym q.0

pub command-exact : (κs : Lfts 1) (row : MutBor (List ℕ)) (i u kind side signal tunnel code : ℕ) (end end' : AtExit (ended_of 1 command-kinds.ps command-kinds.r) κs) (r s : Commanded)
    → command.Post κs (row, (i, (u, (kind, (side, (signal, (tunnel, (code, tt)))))))) r end → command.Post κs (row, (i, (u, (kind, (side, (signal, (tunnel, (code, tt)))))))) s end' → (r ≡ s) × (end.0.now ≡ end'.0.now)
command-exact κs row i u kind side signal tunnel code end end' r s p q = (p.0 ∙ sym q.0, p.1 ∙ sym q.1)

-- where some plan shows it
pub place-exact : (κs : Lfts 3) (kept : Bool) (row : MutBor (List ℕ)) (v : Seen) (x : Setup) (sources targets : MutBor (List ℕ)) (end end' : AtExit (ended_of 3 place-kinds.ps place-kinds.r) κs) (r s : Result Placed Refusal)
    → place.Post κs (kept, (row, (v, (x, (sources, (targets, tt)))))) r end → place.Post κs (kept, (row, (v, (x, (sources, (targets, tt)))))) s end'
    → (plan : Plan) → seen plan x.source (target1 x) ≡ v
    → (r ≡ s) × (end.1.0.now ≡ end'.1.0.now) × (end.1.1.1.1.0.now ≡ end'.1.1.1.1.0.now) × (end.1.1.1.1.1.0.now ≡ end'.1.1.1.1.1.0.now)
place-exact κs kept row v x sources targets end end' r s p q plan shows =
    let of-p = p.0 plan shows in
    let of-q = q.0 plan shows in
    (of-p.0 ∙ sym of-q.0, of-p.1 ∙ sym of-q.1, of-p.3 ∙ sym of-q.3, of-p.4 ∙ sym of-q.4)

pub port-command-exact : (κs : Lfts 1) (port : MutBor (List ℕ)) (kind side signal tunnel code : ℕ) (end end' : AtExit (ended_of 1 port-command-kinds.ps port-command-kinds.r) κs) (r s : Commanded)
    → port-command.Post κs (port, (kind, (side, (signal, (tunnel, (code, tt)))))) r end → port-command.Post κs (port, (kind, (side, (signal, (tunnel, (code, tt)))))) s end' → (r ≡ s) × (end.0.now ≡ end'.0.now)
port-command-exact κs port kind side signal tunnel code end end' r s p q = (p.0 ∙ sym q.0, p.1 ∙ sym q.1)

pub port-place-exact : (κs : Lfts 3) (kept : Bool) (port : MutBor (List ℕ)) (v : Seen) (x : Setup) (sources targets : MutBor (List ℕ)) (end end' : AtExit (ended_of 3 port-place-kinds.ps port-place-kinds.r) κs) (r s : Result Placed Refusal)
    → port-place.Post κs (kept, (port, (v, (x, (sources, (targets, tt)))))) r end → port-place.Post κs (kept, (port, (v, (x, (sources, (targets, tt)))))) s end'
    → (plan : Plan) → seen plan x.source (target1 x) ≡ v
    → (r ≡ s) × (end.1.0.now ≡ end'.1.0.now) × (end.1.1.1.1.0.now ≡ end'.1.1.1.1.0.now) × (end.1.1.1.1.1.0.now ≡ end'.1.1.1.1.1.0.now)
port-place-exact κs kept port v x sources targets end end' r s p q plan shows =
    let of-p = p.0 plan shows in
    let of-q = q.0 plan shows in
    (of-p.0 ∙ sym of-q.0, of-p.1 ∙ sym of-q.1, of-p.3 ∙ sym of-q.3, of-p.4 ∙ sym of-q.4)

-- whatever part of a plan is handed in: where a placing is refused, all that was lent is as it was
pub place_kept : (κs : Lfts 3) (kept : Bool) (row : MutBor (List ℕ)) (v : Seen) (x : Setup) (sources targets : MutBor (List ℕ)) (end : AtExit (ended_of 3 place-kinds.ps place-kinds.r) κs) (r : Result Placed Refusal) (y : Refusal)
    → place.Post κs (kept, (row, (v, (x, (sources, (targets, tt)))))) r end → r ≡ Err y
    → (end.1.0.now ≡ row.now) × (end.1.1.1.1.0.now ≡ sources.now) × (end.1.1.1.1.1.0.now ≡ targets.now)
place_kept κs kept row v x sources targets end r y p e = (p.1.0 (ap is_ok e), p.1.1 (ap is_ok e), p.1.2 (ap is_ok e))

pub port-place-kept : (κs : Lfts 3) (kept : Bool) (port : MutBor (List ℕ)) (v : Seen) (x : Setup) (sources targets : MutBor (List ℕ)) (end : AtExit (ended_of 3 port-place-kinds.ps port-place-kinds.r) κs) (r : Result Placed Refusal) (y : Refusal)
    → port-place.Post κs (kept, (port, (v, (x, (sources, (targets, tt)))))) r end → r ≡ Err y
    → (end.1.0.now ≡ port.now) × (end.1.1.1.1.0.now ≡ sources.now) × (end.1.1.1.1.1.0.now ≡ targets.now)
port-place-kept κs kept port v x sources targets end r y p e = (p.1.0 (ap is_ok e), p.1.1 (ap is_ok e), p.1.2 (ap is_ok e))
