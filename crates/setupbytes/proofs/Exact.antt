-- Any two results that a contract of this crate allows are equal: read off the contracts themselves, as the functions in src/ state them. Assumes nothing.
use mathlib.Core.Path.{◌≡◌, sym, ◌∙◌}
use mathlib.Core.List.{List}
use Prim.Native.Nat.{ℕ}
use contract.Lifetimes.{Lfts}
use denote.Ref.{Bor}
use denote.Triple.Clauses.{AtExit}
use borrow.Fn.Kinds.{ended_of}
use Rattle.setup.specs.declared.Setup.{Setup}
use Rattle.setupbytes.proofs.setup_bytes.Reads as setup-bytes
use Rattle.setupbytes.proofs.setup_in.Reads as setup-in
use Rattle.setupbytes.proofs.setup_in.Kinds as setup-in-kinds

pub setup-bytes-exact : (x : Setup) (r s : List ℕ) → setup-bytes.Post tt (x, tt) r (x, tt) → setup-bytes.Post tt (x, tt) s (x, tt) → r ≡ s
setup-bytes-exact x r s p q = p ∙ sym q

pub setup-in-exact : (κs : Lfts 1) (b : Bor (List ℕ)) (end : AtExit (ended_of 1 setup-in-kinds.ps setup-in-kinds.r) κs) (r s : Setup)
    → setup-in.Post κs (b, tt) r end → setup-in.Post κs (b, tt) s end → r ≡ s
setup-in-exact κs b end r s p q = p ∙ sym q
