-- Any two answers that a contract of this crate allows are equal, and so are any two contents of what was lent: read off the contracts themselves, as the functions in src/ state them. Assumes nothing.
use mathlib.Core.Path.{◌≡◌, sym, ◌∙◌}
use mathlib.Core.List.{List}
use Prim.Native.Nat.{ℕ}
use contract.Lifetimes.{Lfts}
use denote.Ref.{Bor, MutBor}
use denote.Triple.Clauses.{AtExit}
use borrow.Fn.Kinds.{ended_of}
use Rattle.answers.specs.declared.Answer.{Answer}
use Rattle.dfc_links.proofs.dfc_links_add.Reads as add
use Rattle.dfc_links.proofs.dfc_links_add.Kinds as add-kinds
use Rattle.dfc_links.proofs.dfc_links_remove.Reads as remove
use Rattle.dfc_links.proofs.dfc_links_remove.Kinds as remove-kinds
use Rattle.dfc_links.proofs.dfc_links_drop.Reads as drop
use Rattle.dfc_links.proofs.dfc_links_drop.Kinds as drop-kinds
use Rattle.dfc_links.proofs.dfc_links_sources.Reads as sources
use Rattle.dfc_links.proofs.dfc_links_sources.Kinds as sources-kinds

pub links-add-exact : (κs : Lfts 1) (set : MutBor (List ℕ)) (a b c d : ℕ) (end end' : AtExit (ended_of 1 add-kinds.ps add-kinds.r) κs) (r s : Answer)
    → add.Post κs (set, (a, (b, (c, (d, tt))))) r end → add.Post κs (set, (a, (b, (c, (d, tt))))) s end' → (r ≡ s) × (end.0.now ≡ end'.0.now)
links-add-exact κs set a b c d end end' r s p q = (p.0 ∙ sym q.0, p.1 ∙ sym q.1)

pub links-remove-exact : (κs : Lfts 1) (set : MutBor (List ℕ)) (a b c d : ℕ) (end end' : AtExit (ended_of 1 remove-kinds.ps remove-kinds.r) κs) (r s : Answer)
    → remove.Post κs (set, (a, (b, (c, (d, tt))))) r end → remove.Post κs (set, (a, (b, (c, (d, tt))))) s end' → (r ≡ s) × (end.0.now ≡ end'.0.now)
links-remove-exact κs set a b c d end end' r s p q = (p.0 ∙ sym q.0, p.1 ∙ sym q.1)

pub links-drop-exact : (κs : Lfts 1) (set : MutBor (List ℕ)) (port : ℕ) (end end' : AtExit (ended_of 1 drop-kinds.ps drop-kinds.r) κs) (r s : Answer)
    → drop.Post κs (set, (port, tt)) r end → drop.Post κs (set, (port, tt)) s end' → (r ≡ s) × (end.0.now ≡ end'.0.now)
links-drop-exact κs set port end end' r s p q = (p.0 ∙ sym q.0, p.1 ∙ sym q.1)

pub links-sources-exact : (κs : Lfts 2) (set : Bor (List ℕ)) (port channel : ℕ) (room : MutBor (List ℕ)) (end end' : AtExit (ended_of 2 sources-kinds.ps sources-kinds.r) κs) (r s : Answer)
    → sources.Post κs (set, (port, (channel, (room, tt)))) r end → sources.Post κs (set, (port, (channel, (room, tt)))) s end'
    → (r ≡ s) × (end.1.1.1.0.now ≡ end'.1.1.1.0.now)
links-sources-exact κs set port channel room end end' r s p q = (p.0 ∙ sym q.0, p.1 ∙ sym q.1)
