-- Any two results that a contract of this crate allows are equal, and so are any two contents of the room: read off the contracts themselves, as the functions in src/ state
-- them. Assumes nothing.
use mathlib.Core.Path.{◌≡◌, sym, ◌∙◌}
use mathlib.Core.List.{List}
use Prim.Native.Nat.{ℕ}
use contract.Lifetimes.{Lfts}
use denote.Ref.{Bor, MutBor}
use denote.Triple.Clauses.{AtExit}
use borrow.Fn.Kinds.{ended_of}
use Rattle.text.specs.declared.Digits.{Digits}
use Rattle.text.proofs.decimal.Reads as decimal
use Rattle.text.proofs.put.Reads as put
use Rattle.text.proofs.put.Kinds as put-kinds
use denote.Ref.{Bor}
use Rattle.text.proofs.Digits.as_slice.Reads as as-slice
use Rattle.text.proofs.Digits.as_slice.Kinds as as-slice-kinds

pub decimal-exact : (n : ℕ) (r s : Digits) → decimal.Post tt (n, tt) r (n, tt) → decimal.Post tt (n, tt) s (n, tt) → r ≡ s
decimal-exact n r s p q = p ∙ sym q

pub put-exact : (κs : Lfts 2) (bytes : Bor (List ℕ)) (at : ℕ) (room : MutBor (List ℕ)) (end end' : AtExit (ended_of 2 put-kinds.ps put-kinds.r) κs)
    → put.Post κs (bytes, (at, (room, tt))) tt end → put.Post κs (bytes, (at, (room, tt))) tt end' → end.1.1.0.now ≡ end'.1.1.0.now
put-exact κs bytes at room end end' p q = p ∙ sym q

pub as-slice-exact : (κs : Lfts 1) (self : Bor Digits) (end : AtExit (ended_of 1 as-slice-kinds.ps as-slice-kinds.r) κs) (r s : Bor (List ℕ))
    → as-slice.Post κs (self, tt) r end → as-slice.Post κs (self, tt) s end → r.now ≡ s.now
as-slice-exact κs self end r s p q = p ∙ sym q
