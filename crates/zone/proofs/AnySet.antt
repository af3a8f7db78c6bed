-- The laws of a zone (`Members.antt`) for any number as the set: only its types below 32 count. Assumes nothing.
use mathlib.Core.Path.{◌≡◌, refl, sym, ap, ap₂, ◌∙◌}
use mathlib.Core.Bool.{Bool, true, ◌&&◌, not}
use mathlib.Core.List.{List, ◌∷◌}
use Prim.Native.Nat.{ℕ, zero, suc, ◌^◌, ◌<◌}
use lib.Dec.{eqb}
use Rattle.typeset.specs.Sets.{has, digit, set_of, without, lowest, size, minus}
use Rattle.typeset.proofs.Below.{set_of-lt, set_of-ext, some-ext, least-ext, count-ext}
use Rattle.typeset.proofs.Laws.{has-set_of}
use Rattle.order.specs.Rules.{precedes}
use Rattle.zone.specs.Order.{preceded, unpreceded, next, zone_from, zone_list}
use Rattle.zone.proofs.Precedence.{Strict}
use Rattle.zone.proofs.Members.{times, elem, ahead, zone-once, zone-members, zone-below, zone-sorted, InOrder, zone-in-order, in-order-zone}

-- the types of s below 32
unfoldable pub low : ℕ → ℕ
low s = set_of 32 (λ t. has t s)

pub low-lt : (s : ℕ) → low s < 2 ^ 32
unfolding low
low-lt s = set_of-lt 32 (λ t. has t s)

pub has-low : (s t : ℕ) → t < 32 → has t (low s) ≡ has t s
unfolding low
has-low s t h = has-set_of 32 (λ t. has t s) t h

module _ (rows : List ℕ) (s : ℕ) where
  preceded-low : preceded rows s ≡ preceded rows (low s)
  unfolding preceded
  preceded-low = set_of-ext 32 _ _ (λ t h. some-ext 32 _ _ (λ u l. ap (λ (b : Bool). b && precedes rows u t) (sym (has-low s u l))))

  first-low : unpreceded rows s ≡ unpreceded rows (low s)
  unfolding unpreceded minus
  first-low = set_of-ext 32 _ _ (λ t h. ap₂ (λ (b : Bool) (f : ℕ). b && not (has t f)) (sym (has-low s t h)) preceded-low)

  lowest-low : lowest s ≡ lowest (low s)
  unfolding lowest
  lowest-low = least-ext 32 _ _ (λ t h. sym (has-low s t h))

  next_low : next rows s ≡ next rows (low s)
  unfolding next
  next_low = rw (← first-low, ← lowest-low)

  without-low : without s (next rows s) ≡ without (low s) (next rows (low s))
  unfolding without
  without-low = set_of-ext 32 _ _ (λ t h. ap₂ (λ (b : Bool) (x : ℕ). b && not (eqb t x)) (sym (has-low s t h)) next_low)

  from_low : (n : ℕ) → zone_from n rows s ≡ zone_from n rows (low s)
  unfolding zone_from
  from_low zero = refl
  from_low (suc n) = ap₂ (λ (x : ℕ) (l : ℕ). x ∷ zone_from n rows l) next_low without-low

  size_low : size s ≡ size (low s)
  unfolding size
  size_low = count-ext 32 _ _ (λ t h. sym (has-low s t h))

  -- what lies above does not count
  pub zone-low : zone_list rows s ≡ zone_list rows (low s)
  unfolding zone_list
  zone-low = from_low (size s) ∙ ap (λ (n : ℕ). zone_from n rows (low s)) size_low

  -- each type of the set once and no other
  pub any-once : (t : ℕ) → t < 32 → times t (zone_list rows s) ≡ digit (has t s)
  any-once t h = ap (times t) zone-low ∙ zone-once rows t (low-lt s) ∙ ap digit (has-low s t h)

  pub any-members : (t : ℕ) → t < 32 → elem t (zone_list rows s) ≡ has t s
  any-members t h = ap (elem t) zone-low ∙ zone-members rows t (low-lt s) ∙ has-low s t h

  pub any_below : (t : ℕ) → elem t (zone_list rows s) ≡ true → t < 32
  any_below t e = zone-below rows t (low-lt s) (sym (ap (elem t) zone-low) ∙ e)

  module _ (𝓢 : Strict rows) where
    -- what precedes stands before
    pub any-sorted : (a b : ℕ) → a < 32 → b < 32 → has a s ≡ true → has b s ≡ true → precedes rows a b ≡ true → ahead a b (zone_list rows s) ≡ true
    any-sorted a b la lb ha hb p =
        ap (ahead a b) zone-low ∙ zone-sorted rows 𝓢 (low-lt s) a b (has-low s a la ∙ ha) (has-low s b lb ∙ hb) p

    -- the ONE list that takes the lowest unpreceded remaining type each time
    pub any-in-order : InOrder rows (low s) (zone_list rows s)
    any-in-order = rw zone-low (zone-in-order rows 𝓢 (low-lt s))

    pub any-one : (l : List ℕ) → InOrder rows (low s) l → l ≡ zone_list rows s
    any-one l o = in-order-zone rows 𝓢 (low-lt s) o ∙ sym zone-low
