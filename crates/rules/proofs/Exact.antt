-- Any two results that a contract of this crate allows are equal: read off the contracts themselves, as the functions in src/ state them.
-- Assumes nothing.
use mathlib.Core.Path.{◌≡◌, sym, ◌∙◌}
use mathlib.Core.Bool.{Bool}
use mathlib.Core.List.{List}
use Prim.Native.Nat.{ℕ}
use contract.Lifetimes.{Lfts}
use denote.Ref.{Bor}
use denote.Triple.Clauses.{AtExit}
use borrow.Fn.Kinds.{ended_of}
use Rattle.plan.specs.declared.Types.{Types}
use Rattle.plan.specs.declared.Subscriber.{Subscriber}
use Rattle.rules.proofs.types_sound.Reads as types-sound
use Rattle.rules.proofs.source_sound.Reads as source_sound
use Rattle.rules.proofs.source_sound.Kinds as source-sound-kinds
use Rattle.rules.proofs.target_sound.Reads as target_sound
use Rattle.rules.proofs.target_sound.Kinds as target-sound-kinds
use Rattle.rules.proofs.own_sound.Reads as own-sound
use Rattle.rules.proofs.listed_sound.Reads as listed-sound
use Rattle.rules.proofs.both.Reads as both

pub types-sound-exact : (t : Types) (r s : Bool)
    → types-sound.Post tt (t, tt) r (t, tt) → types-sound.Post tt (t, tt) s (t, tt) → r ≡ s
types-sound-exact t r s p q = p ∙ sym q

pub source-sound-exact : (κs : Lfts 1) (t : Types) (source : Bor (List ℕ)) (end : AtExit (ended_of 1 source-sound-kinds.ps source-sound-kinds.r) κs) (r s : Bool)
    → source_sound.Post κs (t, (source, tt)) r end → source_sound.Post κs (t, (source, tt)) s end → r ≡ s
source-sound-exact κs t source end r s p q = p ∙ sym q

pub target-sound-exact : (κs : Lfts 2) (t : Types) (source target : Bor (List ℕ)) (end : AtExit (ended_of 2 target-sound-kinds.ps target-sound-kinds.r) κs) (r s : Bool)
    → target_sound.Post κs (t, (source, (target, tt))) r end → target_sound.Post κs (t, (source, (target, tt))) s end → r ≡ s
target-sound-exact κs t source target end r s p q = p ∙ sym q

pub own-sound-exact : (t : Types) (subscriber : Subscriber) (r s : Bool)
    → own-sound.Post tt (t, (subscriber, tt)) r (t, (subscriber, tt)) → own-sound.Post tt (t, (subscriber, tt)) s (t, (subscriber, tt)) → r ≡ s
own-sound-exact t subscriber r s p q = p ∙ sym q

pub listed-sound-exact : (t : Types) (subscriber : Subscriber) (r s : Bool)
    → listed-sound.Post tt (t, (subscriber, tt)) r (t, (subscriber, tt)) → listed-sound.Post tt (t, (subscriber, tt)) s (t, (subscriber, tt)) → r ≡ s
listed-sound-exact t subscriber r s p q = p ∙ sym q

pub both-exact : (a b r s : Bool) → both.Post tt (a, (b, tt)) r (a, (b, tt)) → both.Post tt (a, (b, tt)) s (a, (b, tt)) → r ≡ s
both-exact a b r s p q = p ∙ sym q
