-- Any two results that a contract of this crate allows are equal, and so are any two contents of the lent index and of the room: read off the contracts themselves, as the functions in src/ state them.
-- Assumes nothing.
use mathlib.Core.Path.{◌≡◌, sym, ◌∙◌}
use mathlib.Core.List.{List}
use Prim.Native.Nat.{ℕ}
use contract.Lifetimes.{Lfts}
use denote.Ref.{Bor, MutBor}
use denote.Triple.Clauses.{AtExit}
use borrow.Fn.Kinds.{ended_of}
use Rattle.answers.specs.declared.Answer.{Answer}
use Rattle.dfc_index.specs.declared.Listed.{Listed}
use Rattle.dfc_index.proofs.dfc_index_build.Reads as build
use Rattle.dfc_index.proofs.dfc_index_build.Kinds as build-kinds
use Rattle.dfc_index.proofs.dfc_index_look.Reads as look
use Rattle.dfc_index.proofs.dfc_index_look.Kinds as look-kinds
use Rattle.dfc_index.proofs.dfc_index_update.Reads as update
use Rattle.dfc_index.proofs.dfc_index_update.Kinds as update-kinds

pub index-build-exact : (κs : Lfts 2) (file : Bor (List ℕ)) (index : MutBor (List (List ℕ))) (end end' : AtExit (ended_of 2 build-kinds.ps build-kinds.r) κs) (r s : Answer)
    → build.Post κs (file, (index, tt)) r end → build.Post κs (file, (index, tt)) s end' → (r ≡ s) × (end.1.0.now ≡ end'.1.0.now)
index-build-exact κs file index end end' r s p q = (p.0 ∙ sym q.0, p.1 ∙ sym q.1)

pub index-look-exact : (κs : Lfts 1) (index : Bor (List (List ℕ))) (region type : ℕ) (end end' : AtExit (ended_of 1 look-kinds.ps look-kinds.r) κs) (r s : Listed)
    → look.Post κs (index, (region, (type, tt))) r end → look.Post κs (index, (region, (type, tt))) s end' → r ≡ s
index-look-exact κs index region type end end' r s p q = p ∙ sym q

pub index-update-exact : (κs : Lfts 3) (file : Bor (List ℕ)) (index : MutBor (List (List ℕ))) (address source target : ℕ) (room : MutBor (List ℕ))
    (end end' : AtExit (ended_of 3 update-kinds.ps update-kinds.r) κs) (r s : Answer)
    → update.Post κs (file, (index, (address, (source, (target, (room, tt)))))) r end → update.Post κs (file, (index, (address, (source, (target, (room, tt)))))) s end'
    → (r ≡ s) × (end.1.0.now ≡ end'.1.0.now) × (end.1.1.1.1.1.0.now ≡ end'.1.1.1.1.1.0.now)
index-update-exact κs file index address source target room end end' r s p q = (p.0 ∙ sym q.0, p.1 ∙ sym q.1, p.2 ∙ sym q.2)
