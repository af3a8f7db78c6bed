-- Any two results that a contract of this crate allows are equal, and so are any two contents of what was lent. Each line is stated of the contract itself: of `clauses`, which the toolchain reads off the function's `ensures`, at one
-- entry and at any two results and exits. And each result of a call's own step has document 01's number (`step-numbered`). Assumes nothing.
use mathlib.Core.Path.{◌≡◌, sym, ap, ◌∙◌}
use seplogic.Ra.Ura.{Ura}
use base.Logic.{SProp, ent}
use prog.Memory.{Memory}
use prog.Routine.{Routine}
use types.Logic.{Logic}
use contract.Monad.{Fun, conj, fact}
use contract.Lifetimes.{Lfts}
use denote.Triple.Clauses.{AtExit}
use denote.Triple.Entry.{Res, Args}
use Rattle.walk.proofs.Exact.{any-two}
use Rattle.call.specs.declared.Call.{Call}
use Rattle.call.specs.declared.Command.{Command}
use Rattle.call.specs.declared.Step.{Step}
use Rattle.call.specs.Protocol.{number_in}
use Rattle.call.proofs.Call.step.Reads as step
use Rattle.exchange.specs.Said.{number_stepped}
use Rattle.exchange.proofs.Numbered.{step-number}
use Rattle.exchange.specs.contracts.copy_out as copy-out
use Rattle.exchange.specs.contracts.store as store
use Rattle.exchange.specs.contracts.lowest_free as lowest-free
use Rattle.exchange.specs.contracts.clear_port as clear-port
use Rattle.exchange.specs.contracts.clear as clear

module _ {M : Type 1} {𝓤 : Ura M} (𝓛 : Logic 𝓤) (mem : Memory → SProp 𝓤) (run : Routine → Fun 𝓤) where
  pub copy-out-exact : (κs : Lfts (copy-out.signature).lifetimes) (a : Args copy-out.signature κs) (g h : (copy-out.clauses 𝓛 mem run κs a).ghost) (r s : Res copy-out.signature κs) (e f : AtExit copy-out.ended κs)
      → ent 𝓤 (conj 𝓤 ((copy-out.clauses 𝓛 mem run κs a).ensures g r e) ((copy-out.clauses 𝓛 mem run κs a).ensures h s f)) (fact 𝓤 (r ≡ s))
  copy-out-exact κs a g h r s e f = any-two 𝓛 (r ≡ s) (λ p q. p ∙ sym q)

  pub store-exact : (κs : Lfts (store.signature).lifetimes) (a : Args store.signature κs) (g h : (store.clauses 𝓛 mem run κs a).ghost) (r s : Res store.signature κs) (e f : AtExit store.ended κs)
      → ent 𝓤 (conj 𝓤 ((store.clauses 𝓛 mem run κs a).ensures g r e) ((store.clauses 𝓛 mem run κs a).ensures h s f)) (fact 𝓤 (e.0.now ≡ f.0.now))
  store-exact κs a g h r s e f = any-two 𝓛 (e.0.now ≡ f.0.now) (λ p q. p ∙ sym q)

  pub lowest-free-exact : (κs : Lfts (lowest-free.signature).lifetimes) (a : Args lowest-free.signature κs) (g h : (lowest-free.clauses 𝓛 mem run κs a).ghost) (r s : Res lowest-free.signature κs) (e f : AtExit lowest-free.ended κs)
      → ent 𝓤 (conj 𝓤 ((lowest-free.clauses 𝓛 mem run κs a).ensures g r e) ((lowest-free.clauses 𝓛 mem run κs a).ensures h s f)) (fact 𝓤 (r ≡ s))
  lowest-free-exact κs a g h r s e f = any-two 𝓛 (r ≡ s) (λ p q. p ∙ sym q)

  pub clear-port-exact : (κs : Lfts (clear-port.signature).lifetimes) (a : Args clear-port.signature κs) (g h : (clear-port.clauses 𝓛 mem run κs a).ghost) (r s : Res clear-port.signature κs) (e f : AtExit clear-port.ended κs)
      → ent 𝓤 (conj 𝓤 ((clear-port.clauses 𝓛 mem run κs a).ensures g r e) ((clear-port.clauses 𝓛 mem run κs a).ensures h s f)) (fact 𝓤 (e.0.now ≡ f.0.now))
  clear-port-exact κs a g h r s e f = any-two 𝓛 (e.0.now ≡ f.0.now) (λ p q. p ∙ sym q)

  pub clear-exact : (κs : Lfts (clear.signature).lifetimes) (a : Args clear.signature κs) (g h : (clear.clauses 𝓛 mem run κs a).ghost) (r s : Res clear.signature κs) (e f : AtExit clear.ended κs)
      → ent 𝓤 (conj 𝓤 ((clear.clauses 𝓛 mem run κs a).ensures g r e) ((clear.clauses 𝓛 mem run κs a).ensures h s f)) (fact 𝓤 (e.0.now ≡ f.0.now))
  clear-exact κs a g h r s e f = any-two 𝓛 (e.0.now ≡ f.0.now) (λ p q. p ∙ sym q)

-- EACH RESULT that the contract of `call::Call::step` allows has document 01's number. A port and a row hand it on (the crate `commanding`).
pub step-numbered : (self : Call) (k : Command) (r : Step) → step.Post tt (self, (k, tt)) r (self, (k, tt)) → number_in r.answer ≡ number_stepped self k
step-numbered self k r p = ap (λ (z : Step). number_in z.answer) p ∙ step-number self k
