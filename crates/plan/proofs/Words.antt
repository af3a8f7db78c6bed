-- Two bits for each number, sixteen numbers to a word (`Table.antt`): what an entry changes. Assumes nothing.
use mathlib.Core.Path.{◌≡◌, refl, sym, ap, ap₂, ◌∙◌}
use mathlib.Core.Logic.{◌⊎◌, inl, inr, ⊎_elim}
use mathlib.Core.Bool.{Bool, true, false, ◌||◌}
use mathlib.Core.List.{List}
use Prim.Native.Nat.{ℕ, zero, suc, ◌+◌, ◌-◌, ◌*◌, ◌/◌, ◌%◌, ◌^◌, ◌≤◌, ◌<◌}
use native.Mathlib.Nat.{mod-eq_of_lt, mul-le-mul}
use native.Mathlib.Omega.{arith}
use lib.Dec.{eqb}
use lib.Pow.{pow_mono}
use lib.ListN.{length, get_or, length-set, replicate, get_or-replicate}
use lib.Seq.{get_or-set_same, get_or-set_other}
use borrow.Author.Tests.{eqb-true, eqb-false}
use Rattle.typeset.specs.Sets.{has, digit, join}
use Rattle.typeset.proofs.Laws.{has_first, has-later, has-past, has-shr, has-shl, has-shl-below, has-join-at, split}
use Rattle.plan.specs.Table.{holder, entered}

-- ---- a word's two bits from t on

low_bit : (r : ℕ) → r < 2 → digit (eqb r 1) ≡ r
low_bit zero h = refl
low_bit (suc zero) h = refl
low_bit (suc (suc r)) h = absurd (omega arith)

two-bits : (x : ℕ) → x % 4 ≡ digit (has 0 x) + 2 * digit (has 1 x)
two-bits x =
    let first : digit (has 0 x) ≡ x % 2 = ap digit (has_first x) ∙ low_bit (x % 2) (omega arith) in
    let second : digit (has 1 x) ≡ x / 2 % 2 = ap digit (has-later 0 x ∙ has_first (x / 2)) ∙ low_bit (x / 2 % 2) (omega arith) in
    rw (first, second) (omega arith)

abbrev bits : ℕ → ℕ → ℕ
bits w t = digit (has (t + 0) w) + 2 * digit (has (t + 1) w)

read-bits : (w t : ℕ) → w / 2 ^ t % 4 ≡ bits w t
read-bits w t = two-bits (w / 2 ^ t) ∙ ap₂ (λ (a b : Bool). digit a + 2 * digit b) (has-shr 0 w t) (has-shr 1 w t)

kind-bits : (kind : ℕ) → kind < 4 → kind ≡ digit (has 0 kind) + 2 * digit (has 1 kind)
kind-bits kind h = sym (mod-eq_of_lt h) ∙ two-bits kind

-- ---- an entry in a word

-- a kind shifted to t has no bit but the two from t on
far : (kind t u : ℕ) → kind < 4 → (u < t) ⊎ (t + 2 ≤ u) → has u (kind * 2 ^ t) ≡ false
far kind t u h (inl l) = has-shl-below u kind t l
far kind t u h (inr l) =
    let is : u ≡ t + (u - t) = omega (arith, l) in
    ap (λ (v : ℕ). has v (kind * 2 ^ t)) is ∙ has-shl (u - t) kind t ∙ has-past 2 (u - t) h (omega (arith, l))

fits_in : (kind t : ℕ) → kind < 4 → t ≤ 30 → kind * 2 ^ t % 2 ^ 32 ≡ kind * 2 ^ t
fits_in kind t h l =
    let most : 2 ^ t ≤ 2 ^ 30 = pow_mono l in
    let small : kind ≤ 3 = omega (arith, h) in
    let less : kind * 2 ^ t ≤ 3 * 2 ^ 30 = mul-le-mul small most in
    mod-eq_of_lt (omega (arith, less))

abbrev with-kind : ℕ → ℕ → ℕ → ℕ
with-kind w kind t = join w (kind * 2 ^ t % 2 ^ 32)

or_no : (a : Bool) → (a || false) ≡ a
or_no true = refl
or_no false = refl

bits-far : (w kind t u : ℕ) → kind < 4 → t ≤ 30 → u + 1 < 32 → (u + 2 ≤ t) ⊎ (t + 2 ≤ u) → bits (with-kind w kind t) u ≡ bits w u
bits-far w kind t u h l v apart =
    let at : (x : ℕ) → x < 32 → (x < t) ⊎ (t + 2 ≤ x) → has x (with-kind w kind t) ≡ has x w =
    λ x y z. has-join-at w (kind * 2 ^ t % 2 ^ 32) x y ∙ ap (λ (b : Bool). has x w || b) (ap (has x) (fits_in kind t h l) ∙ far kind t x h z) ∙ or_no (has x w) in
    ap₂ (λ (a b : Bool). digit a + 2 * digit b)
    (at (u + 0) (omega (arith, v)) (⊎_elim (λ (p : u + 2 ≤ t). inl (omega (arith, p))) (λ (p : t + 2 ≤ u). inr (omega (arith, p))) apart))
    (at (u + 1) (omega (arith, v)) (⊎_elim (λ (p : u + 2 ≤ t). inl (omega (arith, p))) (λ (p : t + 2 ≤ u). inr (omega (arith, p))) apart))

joined : (a b c d : Bool) → (digit a + 2 * digit b ≡ 0) ⊎ (digit a + 2 * digit b ≡ digit c + 2 * digit d) → digit (a || c) + 2 * digit (b || d) ≡ digit c + 2 * digit d
joined false false c d h = refl
joined true false false false h = ⊎_elim (λ e. omega (arith, e)) (λ e. omega (arith, e)) h
joined true false false true h = ⊎_elim (λ e. omega (arith, e)) (λ e. omega (arith, e)) h
joined true false true d h = refl
joined false true false false h = ⊎_elim (λ e. omega (arith, e)) (λ e. omega (arith, e)) h
joined false true true false h = ⊎_elim (λ e. omega (arith, e)) (λ e. omega (arith, e)) h
joined false true c true h = refl
joined true true false false h = ⊎_elim (λ e. omega (arith, e)) (λ e. omega (arith, e)) h
joined true true false true h = ⊎_elim (λ e. omega (arith, e)) (λ e. omega (arith, e)) h
joined true true true false h = ⊎_elim (λ e. omega (arith, e)) (λ e. omega (arith, e)) h
joined true true true true h = refl

bits-own : (w kind t : ℕ) → kind < 4 → t ≤ 30 → (bits w t ≡ 0) ⊎ (bits w t ≡ kind) → bits (with-kind w kind t) t ≡ kind
bits-own w kind t h l was =
    let is = kind-bits kind h in
    let at : (x : ℕ) → t + x < 32 → has (t + x) (with-kind w kind t) ≡ (has (t + x) w || has x kind) =
    λ x y. has-join-at w (kind * 2 ^ t % 2 ^ 32) (t + x) y ∙ ap (λ (b : Bool). has (t + x) w || b) (ap (has (t + x)) (fits_in kind t h l) ∙ has-shl x kind t) in
    ap₂ (λ (a b : Bool). digit a + 2 * digit b) (at 0 (omega (arith, l))) (at 1 (omega (arith, l)))
    ∙ joined (has (t + 0) w) (has (t + 1) w) (has 0 kind) (has 1 kind) (⊎_elim (λ e. inl e) (λ e. inr (e ∙ is)) was)
    ∙ sym is

-- ---- an entry in the table

-- a number's word and place say which number it is
apart : (m n : ℕ) → m / 16 ≡ n / 16 → eqb m n ≡ false → (n % 16 * 2 + 2 ≤ m % 16 * 2) ⊎ (m % 16 * 2 + 2 ≤ n % 16 * 2)
apart m n e d =
    let other = eqb-false m n d in
    ⊎_elim (λ (l : n % 16 < m % 16). inl (omega (arith, l)))
    (λ (l : m % 16 ≤ n % 16).
    ⊎_elim (λ (k : m % 16 < n % 16). inr (omega (arith, k)))
    (λ (k : n % 16 ≤ m % 16). absurd (other (omega (arith, e, l, k))))
    (split (m % 16) (n % 16)))
    (split (n % 16) (m % 16))

module _ (taken : List ℕ) (kind n : ℕ) (h : kind < 4) (long : n / 16 < length taken) where
  place : n % 16 * 2 ≤ 30
  place = let low : n % 16 < 16 = omega arith in omega (arith, low)

  pub entered-own : (holder taken n ≡ 0) ⊎ (holder taken n ≡ kind) → holder (entered taken n kind) n ≡ kind
  unfolding holder entered
  entered-own was =
      let w = get_or taken (n / 16) 0 in
      ap (λ (x : ℕ). x / 2 ^ (n % 16 * 2) % 4) (get_or-set_same taken (n / 16) (with-kind w kind (n % 16 * 2)) 0 long)
      ∙ read-bits (with-kind w kind (n % 16 * 2)) (n % 16 * 2)
      ∙ bits-own w kind (n % 16 * 2) h place
      (⊎_elim (λ e. inl (sym (read-bits w (n % 16 * 2)) ∙ e)) (λ e. inr (sym (read-bits w (n % 16 * 2)) ∙ e)) was)

  pub entered-other : (m : ℕ) → eqb n m ≡ false → holder (entered taken n kind) m ≡ holder taken m
  unfolding holder entered
  entered-other m d = by (eqb (n / 16) (m / 16)) refl
    where
      by : (b : Bool) → eqb (n / 16) (m / 16) ≡ b → holder (entered taken n kind) m ≡ holder taken m
      by true e =
          let same = eqb-true (n / 16) (m / 16) e in
          let low : m % 16 < 16 = omega arith in
          rw (← same) (
          ap (λ (x : ℕ). x / 2 ^ (m % 16 * 2) % 4) (get_or-set_same taken (n / 16) (with-kind (get_or taken (n / 16) 0) kind (n % 16 * 2)) 0 long)
          ∙ read-bits (with-kind (get_or taken (n / 16) 0) kind (n % 16 * 2)) (m % 16 * 2)
          ∙ bits-far (get_or taken (n / 16) 0) kind (n % 16 * 2) (m % 16 * 2) h place (omega (arith, low)) (⊎_elim (λ p. inl p) (λ p. inr p) (apart n m same d))
          ∙ sym (read-bits (get_or taken (n / 16) 0) (m % 16 * 2)))
      by false e =
          ap (λ (x : ℕ). x / 2 ^ (m % 16 * 2) % 4)
          (get_or-set_other taken (n / 16) (m / 16) (with-kind (get_or taken (n / 16) 0) kind (n % 16 * 2)) 0 (λ q. eqb-false (n / 16) (m / 16) e (sym q)))

pub entered-length : (taken : List ℕ) (n kind : ℕ) → length (entered taken n kind) ≡ length taken
unfolding entered
entered-length taken n kind = length-set taken (n / 16) _

-- an empty table: nobody has a number
pub holder-none : (n : ℕ) → n < 65536 → holder (replicate 4096 0) n ≡ 0
unfolding holder
holder-none n h =
    let place : n / 16 < 4096 = omega (arith, h) in
    ap (λ (x : ℕ). x / 2 ^ (n % 16 * 2) % 4) (get_or-replicate {A = ℕ} 4096 (n / 16) 0 0 place) ∙ read-bits 0 (n % 16 * 2)
    ∙ ap₂ (λ (a b : Bool). digit a + 2 * digit b) (has-past 0 (n % 16 * 2 + 0) (omega arith) (omega arith)) (has-past 0 (n % 16 * 2 + 1) (omega arith) (omega arith))
