-- Any two results that a contract of this crate allows are equal: read off the contracts themselves, as the functions in src/ state them.
-- Assumes nothing.
use mathlib.Core.Path.{◌≡◌, sym, ◌∙◌}
use mathlib.Core.Bool.{Bool}
use Prim.Native.Nat.{ℕ}
use Rattle.ends.specs.declared.End.{End}
use Rattle.ends.specs.declared.Side.{Side}
use Rattle.ends.specs.declared.State.{State}
use Rattle.ends.specs.declared.Status.{Status}
use Rattle.ends.specs.declared.Signal.{Signal}
use Rattle.std.specs.Prelude.{Option, Result}
use Rattle.refusal.specs.declared.Refusal.{Refusal}
use Rattle.ends.proofs.Side.other.Reads as other
use Rattle.ends.proofs.answer_with.Reads as answer-with
use Rattle.ends.proofs.tear_with.Reads as tear-with
use Rattle.ends.proofs.next_with.Reads as next-with
use Rattle.ends.proofs.speak_with.Reads as speak-with
use Rattle.ends.proofs.take_with.Reads as take-with
use Rattle.ends.proofs.End.is_idle.Reads as is-idle
use Rattle.ends.proofs.End.answer.Reads as answer
use Rattle.ends.proofs.End.speak.Reads as speak
use Rattle.ends.proofs.End.tear.Reads as tear
use Rattle.ends.proofs.End.take.Reads as take
use Rattle.ends.proofs.End.within.Reads as within
use Rattle.ends.proofs.End.after.Reads as after

pub other-exact : (self r s : Side) → other.Post tt (self, tt) r (self, tt) → other.Post tt (self, tt) s (self, tt) → r ≡ s
other-exact self r s p q = p ∙ sym q

pub answer-with-exact : (state next : State) (r s : Result State Refusal)
    → answer-with.Post tt (state, (next, tt)) r (state, (next, tt)) → answer-with.Post tt (state, (next, tt)) s (state, (next, tt)) → r ≡ s
answer-with-exact state next r s p q = p ∙ sym q

pub tear-with-exact : (state : State) (r s : Result State Refusal) → tear-with.Post tt (state, tt) r (state, tt) → tear-with.Post tt (state, tt) s (state, tt) → r ≡ s
tear-with-exact state r s p q = p ∙ sym q

pub next-with-exact : (side : Side) (sends : Bool) (tunnel : ℕ) (status : Status) (channel : ℕ) (r s : Option ℕ)
    → next-with.Post tt (side, (sends, (tunnel, (status, (channel, tt))))) r (side, (sends, (tunnel, (status, (channel, tt)))))
    → next-with.Post tt (side, (sends, (tunnel, (status, (channel, tt))))) s (side, (sends, (tunnel, (status, (channel, tt))))) → r ≡ s
next-with-exact side sends tunnel status channel r s p q = p ∙ sym q

pub speak-with-exact : (state : State) (side : Side) (tunnel : ℕ) (status : Status) (channel waiting : ℕ) (r s : Result State Refusal)
    → speak-with.Post tt (state, (side, (tunnel, (status, (channel, (waiting, tt)))))) r (state, (side, (tunnel, (status, (channel, (waiting, tt))))))
    → speak-with.Post tt (state, (side, (tunnel, (status, (channel, (waiting, tt)))))) s (state, (side, (tunnel, (status, (channel, (waiting, tt)))))) → r ≡ s
speak-with-exact state side tunnel status channel waiting r s p q = p ∙ sym q

pub take-with-exact : (state : State) (side : Side) (x : Signal) (channel : ℕ) (r s : Result State Refusal)
    → take-with.Post tt (state, (side, (x, (channel, tt)))) r (state, (side, (x, (channel, tt))))
    → take-with.Post tt (state, (side, (x, (channel, tt)))) s (state, (side, (x, (channel, tt)))) → r ≡ s
take-with-exact state side x channel r s p q = p ∙ sym q

pub is-idle-exact : (self : End) (r s : Bool) → is-idle.Post tt (self, tt) r (self, tt) → is-idle.Post tt (self, tt) s (self, tt) → r ≡ s
is-idle-exact self r s p q = p ∙ sym q

pub answer-exact : (self : End) (next : State) (r s : Result State Refusal)
    → answer.Post tt (self, (next, tt)) r (self, (next, tt)) → answer.Post tt (self, (next, tt)) s (self, (next, tt)) → r ≡ s
answer-exact self next r s p q = p ∙ sym q

pub speak-exact : (self : End) (side : Side) (tunnel : ℕ) (status : Status) (waiting : ℕ) (r s : Result State Refusal)
    → speak.Post tt (self, (side, (tunnel, (status, (waiting, tt))))) r (self, (side, (tunnel, (status, (waiting, tt)))))
    → speak.Post tt (self, (side, (tunnel, (status, (waiting, tt))))) s (self, (side, (tunnel, (status, (waiting, tt))))) → r ≡ s
speak-exact self side tunnel status waiting r s p q = p ∙ sym q

pub tear-exact : (self : End) (r s : Result State Refusal) → tear.Post tt (self, tt) r (self, tt) → tear.Post tt (self, tt) s (self, tt) → r ≡ s
tear-exact self r s p q = p ∙ sym q

pub take_exact : (self : End) (side : Side) (x : Signal) (r s : Result State Refusal)
    → take.Post tt (self, (side, (x, tt))) r (self, (side, (x, tt))) → take.Post tt (self, (side, (x, tt))) s (self, (side, (x, tt))) → r ≡ s
take_exact self side x r s p q = p ∙ sym q

pub within-exact : (self : End) (state : State) (r s : End)
    → within.Post tt (self, (state, tt)) r (self, (state, tt)) → within.Post tt (self, (state, tt)) s (self, (state, tt)) → r ≡ s
within-exact self state r s p q = p ∙ sym q

pub after-exact : (self : End) (state : State) (side : Side) (sends : Bool) (x : Signal) (r s : End)
    → after.Post tt (self, (state, (side, (sends, (x, tt))))) r (self, (state, (side, (sends, (x, tt)))))
    → after.Post tt (self, (state, (side, (sends, (x, tt))))) s (self, (state, (side, (sends, (x, tt))))) → r ≡ s
after-exact self state side sends x r s p q = p ∙ sym q
