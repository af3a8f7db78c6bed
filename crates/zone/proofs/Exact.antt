-- Any two results that a contract of this crate allows are equal: read off the contracts themselves, as the functions in src/ state them.
-- Assumes nothing.
use Rattle.std.specs.Prelude.{Some, None, Result, Ok}
use mathlib.Core.Path.{◌≡◌, refl, sym, ap, ◌∙◌}
use mathlib.Core.Bool.{Bool, true, false, cond}
use mathlib.Core.List.{List}
use Prim.Native.Nat.{ℕ}
use Rattle.plan.specs.declared.Plan.{Plan}
use Rattle.refusal.specs.Numbers.{number_said, place_said, ◌>>=◌}
use Rattle.plan.specs.Sound.{sound, verdict_of, verdict}
use Rattle.zone.specs.Order.{held}
use Rattle.plan.specs.declared.Region.{Region}
use Rattle.zone.specs.declared.Zone.{Zone}
use Rattle.refusal.specs.declared.Refusal.{Refusal}
use Rattle.zone.specs.Answer.{zone_at, answer}
use Rattle.zone.proofs.zone_of.Reads as zone-of
use Rattle.zone.proofs.zone_at.Reads as zone-at
use Rattle.zone.proofs.zone_for.Reads as zone-for
use contract.Lifetimes.{Lfts}
use denote.Ref.{Bor}
use denote.Triple.Clauses.{AtExit}
use borrow.Fn.Kinds.{ended_of}
use Rattle.plan.specs.declared.Seen.{Seen}
use Rattle.plan.specs.declared.Subscriber.{Subscriber}
use Rattle.zone.proofs.Zone.empty.Reads as empty
use Rattle.zone.proofs.Zone.as_slice.Reads as as-slice
use Rattle.zone.proofs.Zone.as_slice.Kinds as as-slice-kinds
use Rattle.zone.proofs.zone_shown.Reads as zone-shown

pub zone-of-exact : (rows : List ℕ) (set : ℕ) (r s : Zone)
    → zone-of.Post tt (rows, (set, tt)) r (rows, (set, tt)) → zone-of.Post tt (rows, (set, tt)) s (rows, (set, tt)) → r ≡ s
zone-of-exact rows set r s p q = p ∙ sym q

pub zone-at-exact : (plan : Plan) (region : Region) (address : ℕ) (r s : Zone)
    → zone-at.Post tt (plan, (region, (address, tt))) r (plan, (region, (address, tt))) → zone-at.Post tt (plan, (region, (address, tt))) s (plan, (region, (address, tt))) → r ≡ s
zone-at-exact plan region address r s p q = p ∙ sym q

pub zone-for-exact : (plan : Plan) (region : Region) (address : ℕ) (r s : Result Zone Refusal)
    → zone-for.Post tt (plan, (region, (address, tt))) r (plan, (region, (address, tt))) → zone-for.Post tt (plan, (region, (address, tt))) s (plan, (region, (address, tt))) → r ≡ s
zone-for-exact plan region address r s p q = p ∙ sym q

-- and each answer of `zone_for` has document 01's number and place
said : (b : Bool) (z : Zone) → (number_said (verdict_of b >>= λ ok. Ok z) ≡ cond b 0 23) × (place_said (verdict_of b >>= λ ok. Ok z) ≡ cond b None (Some 0))
said true z = (refl, refl)
said false z = (refl, refl)

pub zone-for-numbered : (plan : Plan) (region : Region) (address : ℕ) (r : Result Zone Refusal) → zone-for.Post tt (plan, (region, (address, tt))) r (plan, (region, (address, tt)))
    → (number_said r ≡ cond (sound plan) 0 23) × (place_said r ≡ cond (sound plan) None (Some 0))
unfolding answer verdict
zone-for-numbered plan region address r p =
    let t = said (sound plan) (held (zone_at plan region address)) in
    (ap (λ (z : Result Zone Refusal). number_said z) p ∙ t.0, ap (λ (z : Result Zone Refusal). place_said z) p ∙ t.1)

pub empty-exact : (r s : Zone) → empty.Post tt tt r tt → empty.Post tt tt s tt → r ≡ s
empty-exact r s p q = p ∙ sym q

pub as-slice-exact : (κs : Lfts 1) (self : Bor Zone) (end : AtExit (ended_of 1 as-slice-kinds.ps as-slice-kinds.r) κs) (r s : Bor (List ℕ))
    → as-slice.Post κs (self, tt) r end → as-slice.Post κs (self, tt) s end → r.now ≡ s.now
as-slice-exact κs self end r s p q = p ∙ sym q

pub zone-shown-exact : (region : Region) (v : Seen) (holder : Subscriber) (r s : Zone)
    → zone-shown.Post tt (region, (v, (holder, tt))) r (region, (v, (holder, tt))) → zone-shown.Post tt (region, (v, (holder, tt))) s (region, (v, (holder, tt))) → r ≡ s
zone-shown-exact region v holder r s f g = f.0 ∙ sym g.0
