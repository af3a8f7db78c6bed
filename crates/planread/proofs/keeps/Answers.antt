-- `planread::keeps` meets its contract. Assumes nothing.
use mathlib.Core.Path.{◌≡◌, sym, ◌∙◌}
use mathlib.Core.Bool.{Bool, true, false, ◌&&◌}
use borrow.Author.Rules.{rules}
use Rattle.plan.specs.declared.Types.{Types}
use Rattle.plan.specs.declared.Subscriber.{Subscriber}
use Rattle.plan.specs.Rules.{boxes_blank}
use Rattle.plan.specs.Sound.{own_sound, listed_sound}
use Rattle.plan.proofs.Subscribers.{own-listed}
use Rattle.planread.proofs.keeps.Goals as goal

own-broken : {r : Bool} (t : Types) (s : Subscriber) (b d : Bool) → boxes_blank s ≡ true → r ≡ listed_sound t s → r ≡ false → false ≡ (own_sound t s && b && d)
own-broken t s b d blank p q = rw (own-listed t s blank ∙ sym p ∙ q)

pub returns-then-listed_sound : goal.returns-then-listed_sound
returns-then-listed_sound c = rw (own-listed _ _ c.requires ∙ sym c.listed_sound.ensures ∙ c.if-listed_sound.true) c.beside.ensures

pub returns-else-listed_sound : goal.returns-else-listed_sound
returns-else-listed_sound c = search (rules, own-broken)
