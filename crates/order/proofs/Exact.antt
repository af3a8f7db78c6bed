-- Any two results that a contract of this crate allows are equal: read off the contracts themselves, as the functions in src/ state them.
-- Assumes nothing.
use mathlib.Core.Path.{◌≡◌, sym, ◌∙◌}
use mathlib.Core.Bool.{Bool}
use mathlib.Core.List.{List}
use Prim.Native.Nat.{ℕ}
use contract.Lifetimes.{Lfts}
use denote.Ref.{Bor}
use denote.Triple.Clauses.{AtExit}
use borrow.Fn.Kinds.{ended_of}
use Rattle.order.proofs.order_sound.Reads as order-sound
use Rattle.order.proofs.order_sound.Kinds as order-sound-kinds
use Rattle.order.proofs.reversible_ordered.Reads as reversible-ordered
use Rattle.order.proofs.reversible_ordered.Kinds as reversible-ordered-kinds
use Rattle.order.proofs.reversible_opposed.Reads as reversible-opposed
use Rattle.order.proofs.reversible_opposed.Kinds as reversible-opposed-kinds

pub order-sound-exact : (κs : Lfts 1) (chosen : ℕ) (rows : Bor (List ℕ)) (end : AtExit (ended_of 1 order-sound-kinds.ps order-sound-kinds.r) κs) (r s : Bool)
    → order-sound.Post κs (chosen, (rows, tt)) r end → order-sound.Post κs (chosen, (rows, tt)) s end → r ≡ s
order-sound-exact κs chosen rows end r s p q = p ∙ sym q

pub reversible-ordered-exact : (κs : Lfts 1) (reversible : ℕ) (source : Bor (List ℕ)) (end : AtExit (ended_of 1 reversible-ordered-kinds.ps reversible-ordered-kinds.r) κs) (r s : Bool)
    → reversible-ordered.Post κs (reversible, (source, tt)) r end → reversible-ordered.Post κs (reversible, (source, tt)) s end → r ≡ s
reversible-ordered-exact κs reversible source end r s p q = p ∙ sym q

pub reversible-opposed-exact : (κs : Lfts 2) (reversible : ℕ) (source target : Bor (List ℕ)) (end : AtExit (ended_of 2 reversible-opposed-kinds.ps reversible-opposed-kinds.r) κs) (r s : Bool)
    → reversible-opposed.Post κs (reversible, (source, (target, tt))) r end → reversible-opposed.Post κs (reversible, (source, (target, tt))) s end → r ≡ s
reversible-opposed-exact κs reversible source target end r s p q = p ∙ sym q
