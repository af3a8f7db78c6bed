-- Any two results that a contract of this crate allows are equal: read off the contracts themselves, as the functions in src/ state them.
-- Assumes nothing.
use mathlib.Core.Path.{◌≡◌, sym, ◌∙◌}
use mathlib.Core.Bool.{Bool}
use Prim.Native.Nat.{ℕ}
use Rattle.channels.proofs.follows.Reads as follows

pub follows-exact : (opens sends : Bool) (state kind r s : ℕ)
    → follows.Post tt (opens, (sends, (state, (kind, tt)))) r (opens, (sends, (state, (kind, tt))))
    → follows.Post tt (opens, (sends, (state, (kind, tt)))) s (opens, (sends, (state, (kind, tt)))) → r ≡ s
follows-exact opens sends state kind r s p q = p ∙ sym q
