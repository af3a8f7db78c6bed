-- Any two results that a contract of this crate allows are equal: read off the contracts themselves, as the functions in src/ state them. Assumes nothing.
use mathlib.Core.Path.{◌≡◌, sym, ◌∙◌}
use mathlib.Core.List.{List}
use Prim.Native.Nat.{ℕ}
use contract.Lifetimes.{Lfts}
use denote.Ref.{MutBor}
use denote.Triple.Clauses.{AtExit}
use borrow.Fn.Kinds.{ended_of}
use Rattle.recordbytes.specs.declared.Commanded.{Commanded}
use Rattle.recordbytes.proofs.Acts.{one_word}
use Rattle.recordbytes.proofs.answer_in.Reads as answer-in
use Rattle.recordbytes.proofs.command_at.Reads as command-at
use Rattle.recordbytes.proofs.command_at.Kinds as command-at-kinds

pub answer-in-exact : (word : ℕ) (r s : Commanded) → answer-in.Post tt (word, tt) r (word, tt) → answer-in.Post tt (word, tt) s (word, tt) → r ≡ s
answer-in-exact word r s p q = p ∙ sym q

pub command-at-exact : (κs : Lfts 1) (row : MutBor (List ℕ)) (at kind side signal tunnel code : ℕ) (end end' : AtExit (ended_of 1 command-at-kinds.ps command-at-kinds.r) κs) (r s : ℕ)
    → command-at.Post κs (row, (at, (kind, (side, (signal, (tunnel, (code, tt))))))) r end → command-at.Post κs (row, (at, (kind, (side, (signal, (tunnel, (code, tt))))))) s end' → (r ≡ s) × (end.0.now ≡ end'.0.now)
command-at-exact κs row at kind side signal tunnel code end end' r s p q = (one_word r s p.1 q.1 (p.0 ∙ sym q.0), p.2 ∙ sym q.2)
