-- Any two results that the contract of `embedded_in` allows are equal: read off the contract itself, as the function in src/ states it.
-- Assumes nothing.
use Rattle.std.specs.Prelude.{Option}
use mathlib.Core.Path.{◌≡◌, sym, ◌∙◌}
use mathlib.Core.List.{List}
use Prim.Native.Nat.{ℕ}
use contract.Lifetimes.{Lfts}
use denote.Ref.{Bor}
use denote.Triple.Clauses.{AtExit}
use borrow.Fn.Kinds.{ended_of}
use Rattle.embedded.proofs.written.Reads as written
use Rattle.embedded.proofs.written.Kinds as written-kinds
use Rattle.embedded.proofs.embedded_in.Reads as embedded-in
use Rattle.embedded.proofs.embedded_in.Kinds as embedded-in-kinds

pub embedded-in-exact : (κs : Lfts 1) (string : Bor (List ℕ)) (end : AtExit (ended_of 1 embedded-in-kinds.ps embedded-in-kinds.r) κs) (r s : (Option ℕ))
    → embedded-in.Post κs (string, tt) r end → embedded-in.Post κs (string, tt) s end → r ≡ s
embedded-in-exact κs string end r s p q = p ∙ sym q

pub written-exact : (κs : Lfts 1) (string : Bor (List ℕ)) (end end' : AtExit (ended_of 1 written-kinds.ps written-kinds.r) κs) (r s : (Option ℕ))
    → written.Post κs (string, tt) r end → written.Post κs (string, tt) s end' → r ≡ s
written-exact κs string end end' r s p q = p ∙ sym q
