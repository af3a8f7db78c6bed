-- Any two results that a contract of this crate allows are equal, and so is what they leave in lent memory: read off the contracts themselves, as the functions in src/ state them. Assumes nothing.
use mathlib.Core.Path.{◌≡◌, refl, sym, ap, ◌∙◌}
use mathlib.Core.Bool.{Bool, true, false, cond}
use mathlib.Core.List.{List}
use Prim.Native.Nat.{ℕ}
use contract.Lifetimes.{Lfts}
use denote.Ref.{Bor, MutBor}
use denote.Triple.Clauses.{AtExit}
use borrow.Fn.Kinds.{ended_of}
use Rattle.links.specs.declared.Termination.{Termination}
use Rattle.std.specs.Prelude.{Result, ⊤}
use Rattle.refusal.specs.declared.Refusal.{Refusal}
use Rattle.links.specs.Links.{link, apart}
use Rattle.links.specs.Sets.{formed}
use Rattle.links.specs.Said.{said_adding, room_for, add_said, number_said}
use Rattle.links.proofs.add.Reads as add
use Rattle.links.proofs.add.Kinds as add-kinds
use Rattle.links.proofs.remove.Reads as remove
use Rattle.links.proofs.remove.Kinds as remove-kinds
use Rattle.links.proofs.drop.Reads as drop
use Rattle.links.proofs.drop.Kinds as drop-kinds
use Rattle.links.proofs.sources.Reads as sources
use Rattle.links.proofs.sources.Kinds as sources-kinds

pub add-exact : (κs : Lfts 1) (set : MutBor (List ℕ)) (sink source : Termination) (end end' : AtExit (ended_of 1 add-kinds.ps add-kinds.r) κs) (r s : Result ⊤ Refusal)
    → add.Post κs (set, (sink, (source, tt))) r end → add.Post κs (set, (sink, (source, tt))) s end' → (r ≡ s) × (end.0.now ≡ end'.0.now)
add-exact κs set sink source end end' r s p q = (p.0 ∙ sym q.0, p.1 ∙ sym q.1)

pub remove-exact : (κs : Lfts 1) (set : MutBor (List ℕ)) (sink source : Termination) (end end' : AtExit (ended_of 1 remove-kinds.ps remove-kinds.r) κs) (r s : Result ⊤ Refusal)
    → remove.Post κs (set, (sink, (source, tt))) r end → remove.Post κs (set, (sink, (source, tt))) s end' → (r ≡ s) × (end.0.now ≡ end'.0.now)
remove-exact κs set sink source end end' r s p q = (p.0 ∙ sym q.0, p.1 ∙ sym q.1)

pub drop_exact : (κs : Lfts 1) (set : MutBor (List ℕ)) (port : ℕ) (end end' : AtExit (ended_of 1 drop-kinds.ps drop-kinds.r) κs) (r s : Result ⊤ Refusal)
    → drop.Post κs (set, (port, tt)) r end → drop.Post κs (set, (port, tt)) s end' → (r ≡ s) × (end.0.now ≡ end'.0.now)
drop_exact κs set port end end' r s p q = (p.0 ∙ sym q.0, p.1 ∙ sym q.1)

pub sources-exact : (κs : Lfts 2) (set : Bor (List ℕ)) (sink : Termination) (room : MutBor (List ℕ)) (end end' : AtExit (ended_of 2 sources-kinds.ps sources-kinds.r) κs) (r s : Result ℕ Refusal)
    → sources.Post κs (set, (sink, (room, tt))) r end → sources.Post κs (set, (sink, (room, tt))) s end' → (r ≡ s) × (end.1.1.0.now ≡ end'.1.1.0.now)
sources-exact κs set sink room end end' r s p q = (p.0 ∙ sym q.0, p.1 ∙ sym q.1)

-- and each answer of `add` has document 02's number: 82 before 80, 80 before 81
in_order : (a b d : Bool) → number_said (said_adding a b d) ≡ cond a (cond b (cond d 0 81) 80) 82
in_order false b d = refl
in_order true false d = refl
in_order true true false = refl
in_order true true true = refl

pub add-numbered : (κs : Lfts 1) (set : MutBor (List ℕ)) (sink source : Termination) (end : AtExit (ended_of 1 add-kinds.ps add-kinds.r) κs) (r : Result ⊤ Refusal) → add.Post κs (set, (sink, (source, tt))) r end
    → number_said r ≡ cond (formed set.now) (cond (apart (link sink source)) (cond (room_for (link sink source) set.now) 0 81) 80) 82
unfolding add_said
add-numbered κs set sink source end r p = ap number_said p.0 ∙ in_order (formed set.now) (apart (link sink source)) (room_for (link sink source) set.now)
