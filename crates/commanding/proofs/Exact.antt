-- Any two results that a contract of this crate allows are equal, and so are any two contents of what was lent. Each line is stated of the contract itself: of `clauses`, which the toolchain reads off the function's `ensures`, at one
-- entry and at any two results and exits. And each result has document 01's number (`-numbered`). Assumes nothing.
use mathlib.Core.Path.{◌≡◌, sym, ap, ◌∙◌}
use seplogic.Ra.Ura.{Ura}
use base.Logic.{SProp, ent}
use prog.Memory.{Memory}
use prog.Routine.{Routine}
use types.Logic.{Logic}
use contract.Monad.{Fun, conj, fact, fact_mono}
use contract.Lifetimes.{Lfts}
use denote.Triple.Clauses.{AtExit}
use denote.Triple.Entry.{Res, Args}
use Rattle.walk.proofs.Exact.{any-two}
use Rattle.call.specs.Protocol.{number_in}
use Rattle.call.specs.Row.{Turn, number_of_reply}
use Rattle.exchange.specs.Said.{number_stepped, number_commanded}
use Rattle.commanding.proofs.Turns.{answering-fixes}
use Rattle.exchange.proofs.Numbered.{step-number}
use Rattle.commanding.proofs.Numbered.{command-number}
use Rattle.commanding.specs.contracts.port_command as port-command
use Rattle.commanding.specs.contracts.command as command

module _ {M : Type 1} {𝓤 : Ura M} (𝓛 : Logic 𝓤) (mem : Memory → SProp 𝓤) (run : Routine → Fun 𝓤) where
  pub port-command-exact : (κs : Lfts (port-command.signature).lifetimes) (a : Args port-command.signature κs) (g h : (port-command.clauses 𝓛 mem run κs a).ghost) (r s : Res port-command.signature κs) (e f : AtExit port-command.ended κs)
      → ent 𝓤 (conj 𝓤 ((port-command.clauses 𝓛 mem run κs a).ensures g r e) ((port-command.clauses 𝓛 mem run κs a).ensures h s f)) (fact 𝓤 ((r ≡ s) × (e.0.now ≡ f.0.now)))
  port-command-exact κs a g h r s e f = any-two 𝓛 ((r ≡ s) × (e.0.now ≡ f.0.now)) (λ p q. (p.0 ∙ sym q.0, p.1 ∙ sym q.1))

  pub command-exact : (κs : Lfts (command.signature).lifetimes) (a : Args command.signature κs) (g h : (command.clauses 𝓛 mem run κs a).ghost) (r s : Res command.signature κs) (e f : AtExit command.ended κs)
      → ent 𝓤 (conj 𝓤 ((command.clauses 𝓛 mem run κs a).ensures g r e) ((command.clauses 𝓛 mem run κs a).ensures h s f)) (fact 𝓤 ((r ≡ s) × (e.0.now ≡ f.0.now)))
  command-exact κs a g h r s e f = any-two 𝓛 ((r ≡ s) × (e.0.now ≡ f.0.now)) (λ p q. answering-fixes r s e.0.now f.0.now (p.0 ∙ sym q.0))

  -- AND EACH RESULT that a contract allows has document 01's number
  pub port-command-numbered : (κs : Lfts (port-command.signature).lifetimes) (a : Args port-command.signature κs) (g : (port-command.clauses 𝓛 mem run κs a).ghost) (r : Res port-command.signature κs) (e : AtExit port-command.ended κs)
      → ent 𝓤 ((port-command.clauses 𝓛 mem run κs a).ensures g r e) (fact 𝓤 (number_in r ≡ number_stepped a.0.now a.1.0))
  port-command-numbered κs a g r e = fact_mono 𝓤 _ (number_in r ≡ number_stepped a.0.now a.1.0) (λ p. ap number_in p.0 ∙ step-number a.0.now a.1.0)

  pub command-numbered : (κs : Lfts (command.signature).lifetimes) (a : Args command.signature κs) (g : (command.clauses 𝓛 mem run κs a).ghost) (r : Res command.signature κs) (e : AtExit command.ended κs)
      → ent 𝓤 ((command.clauses 𝓛 mem run κs a).ensures g r e) (fact 𝓤 (number_in r ≡ number_commanded a.0.now a.1.0 a.1.1.0 a.1.1.1.0))
  command-numbered κs a g r e = fact_mono 𝓤 _ (number_in r ≡ number_commanded a.0.now a.1.0 a.1.1.0 a.1.1.1.0) (λ p. ap (λ (t : Turn). number_of_reply t.reply) p.0 ∙ command-number a.0.now a.1.0 a.1.1.0 a.1.1.1.0)
