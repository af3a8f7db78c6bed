-- Any two results that a contract of this crate allows are equal: read off the contracts themselves, as the functions in src/ state them.
-- Assumes nothing.
use mathlib.Core.Path.{◌≡◌, sym, ap, ◌∙◌}
use mathlib.Core.Bool.{Bool}
use Prim.Native.Nat.{ℕ}
use Rattle.typeset.proofs.has.Reads as has
use Rattle.typeset.proofs.without.Reads as without
use Rattle.typeset.proofs.within.Reads as within
use Rattle.typeset.proofs.lowest.Reads as lowest
use Rattle.typeset.proofs.size.Reads as size
use Rattle.typeset.proofs.join.Reads as join
use Rattle.typeset.proofs.meet.Reads as meet
use Rattle.typeset.proofs.minus.Reads as minus
use Rattle.typeset.proofs.Members.of.Reads as of
use Rattle.typeset.specs.declared.Members.{Members}

pub has-exact : (set t : ℕ) (r s : Bool)
    → has.Post tt (set, (t, tt)) r (set, (t, tt)) → has.Post tt (set, (t, tt)) s (set, (t, tt)) → r ≡ s
has-exact set t r s p q = p ∙ sym q

pub without-exact : (set t : ℕ) (r s : ℕ)
    → without.Post tt (set, (t, tt)) r (set, (t, tt)) → without.Post tt (set, (t, tt)) s (set, (t, tt)) → r ≡ s
without-exact set t r s p q = p ∙ sym q

pub within-exact : (a b : ℕ) (r s : Bool)
    → within.Post tt (a, (b, tt)) r (a, (b, tt)) → within.Post tt (a, (b, tt)) s (a, (b, tt)) → r ≡ s
within-exact a b r s p q = p ∙ sym q

pub lowest-exact : (set : ℕ) (r s : ℕ)
    → lowest.Post tt (set, tt) r (set, tt) → lowest.Post tt (set, tt) s (set, tt) → r ≡ s
lowest-exact set r s p q = p ∙ sym q

pub size_exact : (set : ℕ) (r s : ℕ)
    → size.Post tt (set, tt) r (set, tt) → size.Post tt (set, tt) s (set, tt) → r ≡ s
size_exact set r s p q = p ∙ sym q

pub join-exact : (a b : ℕ) (r s : ℕ)
    → join.Post tt (a, (b, tt)) r (a, (b, tt)) → join.Post tt (a, (b, tt)) s (a, (b, tt)) → r ≡ s
join-exact a b r s p q = p ∙ sym q

pub meet-exact : (a b : ℕ) (r s : ℕ)
    → meet.Post tt (a, (b, tt)) r (a, (b, tt)) → meet.Post tt (a, (b, tt)) s (a, (b, tt)) → r ≡ s
meet-exact a b r s p q = p ∙ sym q

pub minus-exact : (a b : ℕ) (r s : ℕ)
    → minus.Post tt (a, (b, tt)) r (a, (b, tt)) → minus.Post tt (a, (b, tt)) s (a, (b, tt)) → r ≡ s
minus-exact a b r s p q = p ∙ sym q

pub of-exact : (set : ℕ) (r s : Members)
    → of.Post tt (set, tt) r (set, tt) → of.Post tt (set, tt) s (set, tt) → r ≡ s
of-exact set r s p q = ap (λ (n : ℕ). record { left = n }) (p ∙ sym q)
