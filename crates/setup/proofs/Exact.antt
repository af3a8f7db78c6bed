-- Any two results that a contract of this crate allows are equal: read off the contracts themselves, as the functions in src/ state them.
-- Assumes nothing.
use mathlib.Core.Path.{◌≡◌, sym, ◌∙◌}
use mathlib.Core.Bool.{Bool}
use mathlib.Core.List.{List}
use Prim.Native.Nat.{ℕ}
use Rattle.plan.specs.declared.Region.{Region}
use Rattle.zone.specs.declared.Zone.{Zone}
use Rattle.setup.specs.declared.Dialled.{Dialled}
use Rattle.setup.specs.declared.Setup.{Setup}
use contract.Lifetimes.{Lfts}
use denote.Ref.{Bor}
use denote.Triple.Clauses.{AtExit}
use borrow.Fn.Kinds.{ended_of}
use Rattle.setup.proofs.symbol.Reads as symbol
use Rattle.setup.proofs.legal_string.Reads as legal-string
use Rattle.setup.proofs.legal_string.Kinds as legal-string-kinds
use Rattle.setup.proofs.legal_dialled.Reads as legal-dialled
use Rattle.setup.proofs.dial.Reads as dial
use Rattle.setup.proofs.dial.Kinds as dial-kinds
use Rattle.setup.proofs.kept_string.Reads as kept-string
use Rattle.setup.proofs.kept_list.Reads as kept-list
use Rattle.setup.proofs.routing.Reads as routing
use Rattle.setup.proofs.other.Reads as other
use Rattle.setup.proofs.routing_address.Reads as routing-address
use Rattle.setup.proofs.listed.Reads as listed
use Rattle.setup.proofs.listed.Kinds as listed-kinds
use Rattle.setup.proofs.list_length.Reads as list_length
use Rattle.setup.proofs.blank_setup.Reads as blank-setup
use Rattle.setup.proofs.Dialled.as_slice.Reads as as-slice
use Rattle.setup.proofs.Dialled.as_slice.Kinds as as-slice-kinds

pub symbol-exact : (code : ℕ) (r s : Bool) → symbol.Post tt (code, tt) r (code, tt) → symbol.Post tt (code, tt) s (code, tt) → r ≡ s
symbol-exact code r s p q = p ∙ sym q

pub legal-string-exact : (κs : Lfts 1) (string : Bor (List ℕ)) (end : AtExit (ended_of 1 legal-string-kinds.ps legal-string-kinds.r) κs) (r s : Bool)
    → legal-string.Post κs (string, tt) r end → legal-string.Post κs (string, tt) s end → r ≡ s
legal-string-exact κs string end r s p q = p ∙ sym q

pub legal-dialled-exact : (d : Dialled) (r s : Bool) → legal-dialled.Post tt (d, tt) r (d, tt) → legal-dialled.Post tt (d, tt) s (d, tt) → r ≡ s
legal-dialled-exact d r s p q = p ∙ sym q

pub dial-exact : (κs : Lfts 1) (string : Bor (List ℕ)) (end : AtExit (ended_of 1 dial-kinds.ps dial-kinds.r) κs) (r s : Dialled)
    → dial.Post κs (string, tt) r end → dial.Post κs (string, tt) s end → r ≡ s
dial-exact κs string end r s p q = p ∙ sym q

pub kept-string-exact : (d : Dialled) (r s : Dialled) → kept-string.Post tt (d, tt) r (d, tt) → kept-string.Post tt (d, tt) s (d, tt) → r ≡ s
kept-string-exact d r s p q = p ∙ sym q

pub kept-list-exact : (z : Zone) (r s : Zone) → kept-list.Post tt (z, tt) r (z, tt) → kept-list.Post tt (z, tt) s (z, tt) → r ≡ s
kept-list-exact z r s p q = p ∙ sym q

pub routing-exact : (region : Region) (source target : ℕ) (r s : ℕ) → routing.Post tt (region, (source, (target, tt))) r (region, (source, (target, tt))) → routing.Post tt (region, (source, (target, tt))) s (region, (source, (target, tt))) → r ≡ s
routing-exact region source target r s p q = p ∙ sym q

pub other-exact : (region : Region) (source target : ℕ) (r s : ℕ) → other.Post tt (region, (source, (target, tt))) r (region, (source, (target, tt))) → other.Post tt (region, (source, (target, tt))) s (region, (source, (target, tt))) → r ≡ s
other-exact region source target r s p q = p ∙ sym q

pub routing-address-exact : (setup : Setup) (r s : ℕ) → routing-address.Post tt (setup, tt) r (setup, tt) → routing-address.Post tt (setup, tt) s (setup, tt) → r ≡ s
routing-address-exact setup r s p q = p ∙ sym q

pub listed-exact : (κs : Lfts 1) (bytes : Bor (List ℕ)) (end end' : AtExit (ended_of 1 listed-kinds.ps listed-kinds.r) κs) (r s : Zone)
    → listed.Post κs (bytes, tt) r end → listed.Post κs (bytes, tt) s end' → r ≡ s
listed-exact κs bytes end end' r s p q = p ∙ sym q

pub list-length-exact : (z : Zone) (r s : ℕ) → list_length.Post tt (z, tt) r (z, tt) → list_length.Post tt (z, tt) s (z, tt) → r ≡ s
list-length-exact z r s p q = p ∙ sym q

pub blank-setup-exact : (r s : Setup) → blank-setup.Post tt tt r tt → blank-setup.Post tt tt s tt → r ≡ s
blank-setup-exact r s p q = p ∙ sym q

pub as-slice-exact : (κs : Lfts 1) (self : Bor Dialled) (end : AtExit (ended_of 1 as-slice-kinds.ps as-slice-kinds.r) κs) (r s : Bor (List ℕ))
    → as-slice.Post κs (self, tt) r end → as-slice.Post κs (self, tt) s end → r.now ≡ s.now
as-slice-exact κs self end r s p q = p ∙ sym q
