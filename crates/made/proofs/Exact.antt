-- Any two results that a contract of this crate allows are equal: read off the contracts themselves, as the functions in src/ state them.
-- Assumes nothing.
use mathlib.Core.Path.{◌≡◌, sym, ◌∙◌}
use mathlib.Core.List.{List}
use Prim.Native.Nat.{ℕ}
use Rattle.plan.specs.declared.Region.{Region}
use Rattle.setup.specs.declared.Setup.{Setup}
use contract.Lifetimes.{Lfts}
use denote.Ref.{Bor}
use denote.Triple.Clauses.{AtExit}
use borrow.Fn.Kinds.{ended_of}
use Rattle.made.proofs.turned.Reads as turned
use Rattle.made.proofs.new_of.Reads as new-of
use Rattle.made.proofs.new_of.Kinds as new-of-kinds
use Rattle.made.proofs.continued_of.Reads as continued-of
use Rattle.made.proofs.continued_of.Kinds as continued-of-kinds
use Rattle.made.proofs.reversed_of.Reads as reversed-of
use Rattle.made.proofs.reversed_of.Kinds as reversed-of-kinds

pub turned-exact : (region r s : Region) → turned.Post tt (region, tt) r (region, tt) → turned.Post tt (region, tt) s (region, tt) → r ≡ s
turned-exact region r s p q = p ∙ sym q

pub new-of-exact : (κs : Lfts 1) (source : ℕ) (string : Bor (List ℕ)) (target : ℕ) (end : AtExit (ended_of 1 new-of-kinds.ps new-of-kinds.r) κs) (r s : Setup)
    → new-of.Post κs (source, (string, (target, tt))) r end → new-of.Post κs (source, (string, (target, tt))) s end → r ≡ s
new-of-exact κs source string target end r s p q = p ∙ sym q

pub continued-of-exact : (κs : Lfts 1) (at : ℕ) (setup : Setup) (source : ℕ) (string : Bor (List ℕ)) (target : ℕ) (end : AtExit (ended_of 1 continued-of-kinds.ps continued-of-kinds.r) κs) (r s : Setup)
    → continued-of.Post κs (at, (setup, (source, (string, (target, tt))))) r end → continued-of.Post κs (at, (setup, (source, (string, (target, tt))))) s end → r ≡ s
continued-of-exact κs at setup source string target end r s p q = p ∙ sym q

pub reversed-of-exact : (κs : Lfts 1) (kind at : ℕ) (setup : Setup) (source : ℕ) (string : Bor (List ℕ)) (target : ℕ) (end : AtExit (ended_of 1 reversed-of-kinds.ps reversed-of-kinds.r) κs) (r s : Setup)
    → reversed-of.Post κs (kind, (at, (setup, (source, (string, (target, tt)))))) r end → reversed-of.Post κs (kind, (at, (setup, (source, (string, (target, tt)))))) s end → r ≡ s
reversed-of-exact κs kind at setup source string target end r s p q = p ∙ sym q
