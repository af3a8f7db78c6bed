-- Any two results that a contract of this crate allows are equal: read off the contracts themselves, as the functions in src/ state them. Assumes nothing.
use mathlib.Core.Path.{◌≡◌, sym, ◌∙◌}
use Prim.Native.Nat.{ℕ}
use Rattle.ends.specs.declared.State.{State}
use Rattle.ends.specs.declared.Signal.{Signal}
use Rattle.ends.specs.declared.Status.{Status}
use Rattle.signalbytes.proofs.state_number.Reads as state-number
use Rattle.signalbytes.proofs.signal_number.Reads as signal-number
use Rattle.signalbytes.proofs.signal_tunnel.Reads as signal-tunnel
use Rattle.signalbytes.proofs.signal_code.Reads as signal-code
use Rattle.signalbytes.proofs.state_said.Reads as state-said
use Rattle.signalbytes.proofs.status_said.Reads as status-said
use Rattle.signalbytes.proofs.signal_said.Reads as signal-said

pub state-number-exact : (x : State) (r s : ℕ) → state-number.Post tt (x, tt) r (x, tt) → state-number.Post tt (x, tt) s (x, tt) → r ≡ s
state-number-exact x r s p q = p ∙ sym q

pub signal-number-exact : (x : Signal) (r s : ℕ) → signal-number.Post tt (x, tt) r (x, tt) → signal-number.Post tt (x, tt) s (x, tt) → r ≡ s
signal-number-exact x r s p q = p ∙ sym q

pub signal-tunnel-exact : (x : Signal) (r s : ℕ) → signal-tunnel.Post tt (x, tt) r (x, tt) → signal-tunnel.Post tt (x, tt) s (x, tt) → r ≡ s
signal-tunnel-exact x r s p q = p ∙ sym q

pub signal-code-exact : (x : Signal) (r s : ℕ) → signal-code.Post tt (x, tt) r (x, tt) → signal-code.Post tt (x, tt) s (x, tt) → r ≡ s
signal-code-exact x r s p q = p ∙ sym q

pub state-said-exact : (n : ℕ) (r s : State) → state-said.Post tt (n, tt) r (n, tt) → state-said.Post tt (n, tt) s (n, tt) → r ≡ s
state-said-exact n r s p q = p ∙ sym q

pub status-said-exact : (n code : ℕ) (r s : Status) → status-said.Post tt (n, (code, tt)) r (n, (code, tt)) → status-said.Post tt (n, (code, tt)) s (n, (code, tt)) → r ≡ s
status-said-exact n code r s p q = p ∙ sym q

pub signal-said-exact : (n tunnel code : ℕ) (r s : Signal) → signal-said.Post tt (n, (tunnel, (code, tt))) r (n, (tunnel, (code, tt))) → signal-said.Post tt (n, (tunnel, (code, tt))) s (n, (tunnel, (code, tt))) → r ≡ s
signal-said-exact n tunnel code r s p q = p ∙ sym q
