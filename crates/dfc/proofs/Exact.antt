-- Any two results that a contract of this crate allows are equal, and so are any two contents of what was lent: read off the contracts themselves, as the functions in
-- src/ state them. Assumes nothing.
use mathlib.Core.Path.{◌≡◌, sym, ◌∙◌}
use mathlib.Core.List.{List}
use Prim.Native.Nat.{ℕ}
use contract.Lifetimes.{Lfts}
use denote.Ref.{Bor, MutBor}
use denote.Triple.Clauses.{AtExit}
use borrow.Fn.Kinds.{ended_of}
use Rattle.answers.specs.declared.Answer.{Answer}
use Rattle.dfc.specs.declared.Routed.{Routed}
use Rattle.recordbytes.specs.declared.Commanded.{Commanded}
use Rattle.dfc.specs.declared.Placed.{Placed}
use Rattle.dfc.proofs.dfc_check.Reads as check
use Rattle.dfc.proofs.dfc_check.Kinds as check-kinds
use Rattle.dfc.proofs.dfc_write.Reads as write
use Rattle.dfc.proofs.dfc_write.Kinds as write-kinds
use Rattle.dfc.proofs.dfc_zone.Reads as zone
use Rattle.dfc.proofs.dfc_zone.Kinds as zone-kinds
use Rattle.dfc.proofs.dfc_new.Reads as new
use Rattle.dfc.proofs.dfc_new.Kinds as new-kinds
use Rattle.dfc.proofs.dfc_continued.Reads as continued
use Rattle.dfc.proofs.dfc_continued.Kinds as continued-kinds
use Rattle.dfc.proofs.dfc_reversed.Reads as reversed
use Rattle.dfc.proofs.dfc_reversed.Kinds as reversed-kinds
use Rattle.dfc.proofs.dfc_route.Reads as route
use Rattle.dfc.proofs.dfc_route.Kinds as route-kinds
use Rattle.dfc.proofs.dfc_clear.Reads as clear
use Rattle.dfc.proofs.dfc_clear.Kinds as clear-kinds
use Rattle.dfc.proofs.dfc_command.Reads as command
use Rattle.dfc.proofs.dfc_command.Kinds as command-kinds
use Rattle.dfc.proofs.dfc_port_command.Reads as port-command
use Rattle.dfc.proofs.dfc_port_command.Kinds as port-command-kinds
use Rattle.dfc.proofs.dfc_place.Reads as place
use Rattle.dfc.proofs.dfc_place.Kinds as place-kinds
use Rattle.dfc.proofs.dfc_port_place.Reads as port-place
use Rattle.dfc.proofs.dfc_port_place.Kinds as port-place-kinds

pub check-exact : (κs : Lfts 1) (file : Bor (List ℕ)) (end : AtExit (ended_of 1 check-kinds.ps check-kinds.r) κs) (r s : Answer)
    → check.Post κs (file, tt) r end → check.Post κs (file, tt) s end → r ≡ s
check-exact κs file end r s p q = p ∙ sym q

pub write-exact : (κs : Lfts 2) (file : Bor (List ℕ)) (room : MutBor (List ℕ)) (end end' : AtExit (ended_of 2 write-kinds.ps write-kinds.r) κs) (r s : Answer)
    → write.Post κs (file, (room, tt)) r end → write.Post κs (file, (room, tt)) s end' → (r ≡ s) × (end.1.0.now ≡ end'.1.0.now)
write-exact κs file room end end' r s p q = (p.0 ∙ sym q.0, p.1 ∙ sym q.1)

pub zone-exact : (κs : Lfts 2) (file : Bor (List ℕ)) (region : ℕ) (address : ℕ) (types : MutBor (List ℕ)) (end end' : AtExit (ended_of 2 zone-kinds.ps zone-kinds.r) κs) (r s : Answer)
    → zone.Post κs (file, (region, (address, (types, tt)))) r end → zone.Post κs (file, (region, (address, (types, tt)))) s end' → (r ≡ s) × (end.1.1.1.0.now ≡ end'.1.1.1.0.now)
zone-exact κs file region address types end end' r s p q = (p.0 ∙ sym q.0, p.1 ∙ sym q.1)

pub new-exact : (κs : Lfts 3) (file : Bor (List ℕ)) (kind : ℕ) (type : ℕ) (address : ℕ) (string : Bor (List ℕ)) (target : ℕ) (room : MutBor (List ℕ)) (end end' : AtExit (ended_of 3 new-kinds.ps new-kinds.r) κs) (r s : Answer)
    → new.Post κs (file, (kind, (type, (address, (string, (target, (room, tt))))))) r end → new.Post κs (file, (kind, (type, (address, (string, (target, (room, tt))))))) s end' → (r ≡ s) × (end.1.1.1.1.1.1.0.now ≡ end'.1.1.1.1.1.1.0.now)
new-exact κs file kind type address string target room end end' r s p q = (p.0 ∙ sym q.0, p.1 ∙ sym q.1)

pub continued-exact : (κs : Lfts 4) (file : Bor (List ℕ)) (kind : ℕ) (type : ℕ) (address : ℕ) (setup : Bor (List ℕ)) (source : ℕ) (string : Bor (List ℕ)) (target : ℕ) (room : MutBor (List ℕ)) (end end' : AtExit (ended_of 4 continued-kinds.ps continued-kinds.r) κs) (r s : Answer)
    → continued.Post κs (file, (kind, (type, (address, (setup, (source, (string, (target, (room, tt))))))))) r end → continued.Post κs (file, (kind, (type, (address, (setup, (source, (string, (target, (room, tt))))))))) s end' → (r ≡ s) × (end.1.1.1.1.1.1.1.1.0.now ≡ end'.1.1.1.1.1.1.1.1.0.now)
continued-exact κs file kind type address setup source string target room end end' r s p q = (p.0 ∙ sym q.0, p.1 ∙ sym q.1)

pub reversed-exact : (κs : Lfts 4) (file : Bor (List ℕ)) (kind : ℕ) (type : ℕ) (address : ℕ) (setup : Bor (List ℕ)) (source : ℕ) (string : Bor (List ℕ)) (target : ℕ) (room : MutBor (List ℕ)) (end end' : AtExit (ended_of 4 reversed-kinds.ps reversed-kinds.r) κs) (r s : Answer)
    → reversed.Post κs (file, (kind, (type, (address, (setup, (source, (string, (target, (room, tt))))))))) r end → reversed.Post κs (file, (kind, (type, (address, (setup, (source, (string, (target, (room, tt))))))))) s end' → (r ≡ s) × (end.1.1.1.1.1.1.1.1.0.now ≡ end'.1.1.1.1.1.1.1.1.0.now)
reversed-exact κs file kind type address setup source string target room end end' r s p q = (p.0 ∙ sym q.0, p.1 ∙ sym q.1)

pub route-exact : (κs : Lfts 5) (file : Bor (List ℕ)) (setup : Bor (List ℕ)) (sources : MutBor (List ℕ)) (targets : MutBor (List ℕ)) (room : MutBor (List ℕ)) (end end' : AtExit (ended_of 5 route-kinds.ps route-kinds.r) κs) (r s : Routed)
    → route.Post κs (file, (setup, (sources, (targets, (room, tt))))) r end → route.Post κs (file, (setup, (sources, (targets, (room, tt))))) s end' → (r ≡ s) × (end.1.1.0.now ≡ end'.1.1.0.now) × (end.1.1.1.0.now ≡ end'.1.1.1.0.now) × (end.1.1.1.1.0.now ≡ end'.1.1.1.1.0.now)
route-exact κs file setup sources targets room end end' r s p q = (p.0 ∙ sym q.0, p.1 ∙ sym q.1, p.2 ∙ sym q.2, p.3 ∙ sym q.3)

pub clear-exact : (κs : Lfts 1) (row : MutBor (List ℕ)) (end end' : AtExit (ended_of 1 clear-kinds.ps clear-kinds.r) κs) (r s : Unit)
    → clear.Post κs (row, tt) r end → clear.Post κs (row, tt) s end' → end.0.now ≡ end'.0.now
clear-exact κs row end end' r s p q = p ∙ sym q

pub command-exact : (κs : Lfts 1) (row : MutBor (List ℕ)) (i u kind side signal tunnel code : ℕ) (end end' : AtExit (ended_of 1 command-kinds.ps command-kinds.r) κs) (r s : Commanded)
    → command.Post κs (row, (i, (u, (kind, (side, (signal, (tunnel, (code, tt)))))))) r end → command.Post κs (row, (i, (u, (kind, (side, (signal, (tunnel, (code, tt)))))))) s end' → (r ≡ s) × (end.0.now ≡ end'.0.now)
command-exact κs row i u kind side signal tunnel code end end' r s p q = (p.0 ∙ sym q.0, p.1 ∙ sym q.1)

pub port-command-exact : (κs : Lfts 1) (port : MutBor (List ℕ)) (kind side signal tunnel code : ℕ) (end end' : AtExit (ended_of 1 port-command-kinds.ps port-command-kinds.r) κs) (r s : Commanded)
    → port-command.Post κs (port, (kind, (side, (signal, (tunnel, (code, tt)))))) r end → port-command.Post κs (port, (kind, (side, (signal, (tunnel, (code, tt)))))) s end' → (r ≡ s) × (end.0.now ≡ end'.0.now)
port-command-exact κs port kind side signal tunnel code end end' r s p q = (p.0 ∙ sym q.0, p.1 ∙ sym q.1)

pub place-exact : (κs : Lfts 6) (file setup : Bor (List ℕ)) (row sources targets room : MutBor (List ℕ)) (end end' : AtExit (ended_of 6 place-kinds.ps place-kinds.r) κs) (r s : Placed)
    → place.Post κs (file, (setup, (row, (sources, (targets, (room, tt)))))) r end → place.Post κs (file, (setup, (row, (sources, (targets, (room, tt)))))) s end'
    → (r ≡ s) × (end.1.1.0.now ≡ end'.1.1.0.now) × (end.1.1.1.0.now ≡ end'.1.1.1.0.now) × (end.1.1.1.1.0.now ≡ end'.1.1.1.1.0.now) × (end.1.1.1.1.1.0.now ≡ end'.1.1.1.1.1.0.now)
place-exact κs file setup row sources targets room end end' r s p q = (p.0 ∙ sym q.0, p.1 ∙ sym q.1, p.2 ∙ sym q.2, p.3 ∙ sym q.3, p.4 ∙ sym q.4)

pub port-place-exact : (κs : Lfts 6) (file setup : Bor (List ℕ)) (port sources targets room : MutBor (List ℕ)) (end end' : AtExit (ended_of 6 port-place-kinds.ps port-place-kinds.r) κs) (r s : Placed)
    → port-place.Post κs (file, (setup, (port, (sources, (targets, (room, tt)))))) r end → port-place.Post κs (file, (setup, (port, (sources, (targets, (room, tt)))))) s end'
    → (r ≡ s) × (end.1.1.0.now ≡ end'.1.1.0.now) × (end.1.1.1.0.now ≡ end'.1.1.1.0.now) × (end.1.1.1.1.0.now ≡ end'.1.1.1.1.0.now) × (end.1.1.1.1.1.0.now ≡ end'.1.1.1.1.1.0.now)
port-place-exact κs file setup port sources targets room end end' r s p q = (p.0 ∙ sym q.0, p.1 ∙ sym q.1, p.2 ∙ sym q.2, p.3 ∙ sym q.3, p.4 ∙ sym q.4)
