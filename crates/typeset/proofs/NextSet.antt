-- A set without its lowest type: the types that it has and the number before it has too. Assumes nothing.
use mathlib.Core.Path.{◌≡◌, refl, sym, ap, ◌∙◌}
use mathlib.Core.Logic.{⊎_elim}
use mathlib.Core.Bool.{Bool, true, false, not, ◌&&◌, and-true}
use Prim.Native.Nat.{ℕ, zero, suc, ◌-◌, ◌/◌, ◌%◌, ◌^◌, ◌<◌}
use native.Mathlib.Nat.{suc_inj, suc-ne-zero}
use native.Mathlib.Omega.{arith}
use lib.Dec.{eqb}
use borrow.Author.Tests.{eqb-true, eqb-false, eq-eqb, ne_eqb}
use Rattle.typeset.specs.Sets.{has, least, lowest, without, meet}
use Rattle.typeset.proofs.Bools.{yes_or_no}
use Rattle.typeset.proofs.Below.{least-ext}
use Rattle.typeset.proofs.Laws.{has_first, has-later, has-ext, has-meet-at, meet-lt, has-without-at, without-lt}

and_self : (b : Bool) → (b && b) ≡ b
and_self true = refl
and_self false = refl

odd : (s : ℕ) → has 0 s ≡ true → s % 2 ≡ 1
odd s e = eqb-true (s % 2) 1 (sym (has_first s) ∙ e)

even : (s : ℕ) → has 0 s ≡ false → s % 2 ≡ 0
even s e = let other : ¬ (s % 2 ≡ 1) = eqb-false (s % 2) 1 (sym (has_first s) ∙ e) in omega arith

first_off : (s : ℕ) → s % 2 ≡ 1 → has 0 (s - 1) ≡ false
first_off s e = let low : (s - 1) % 2 ≡ 0 = omega arith in has_first (s - 1) ∙ rw low

odd-half : (s : ℕ) → s % 2 ≡ 1 → (s - 1) / 2 ≡ s / 2
odd-half s e = omega arith

even-half : (s : ℕ) → s % 2 ≡ 0 → 0 < s → ((s - 1) / 2 ≡ s / 2 - 1) × (0 < s / 2)
even-half s e h = (omega arith, omega arith)

same-suc : (a b : ℕ) → eqb (suc a) (suc b) ≡ eqb a b
same-suc a b =
    ⊎_elim
    (λ (e : eqb a b ≡ true). eq-eqb (suc a) (suc b) (ap suc (eqb-true a b e)) ∙ sym e)
    (λ (e : eqb a b ≡ false). ne_eqb (suc a) (suc b) (λ x. eqb-false a b e (suc_inj x)) ∙ sym e)
    (yes_or_no (eqb a b))

one-off : (u n s : ℕ) → u < n → 0 < s → (has u s && has u (s - 1)) ≡ (has u s && not (eqb u (least n (λ t. has t s))))
unfolding least
one-off u zero s h p = absurd (omega arith)
one-off zero (suc n) s h p =
    ⊎_elim
    (λ (e : has 0 s ≡ true). rw (e, first_off s (odd s e)))
    (λ (e : has 0 s ≡ false). rw e)
    (yes_or_no (has 0 s))
one-off (suc v) (suc n) s h p =
    let low : v < n = omega arith in
    ⊎_elim
    (λ (e : has 0 s ≡ true).
    rw (e, has-later v s, has-later v (s - 1), odd-half s (odd s e)) (and_self (has v (s / 2)) ∙ sym (ap (λ (b : Bool). has v (s / 2) && not b) (ne_eqb (suc v) 0 (suc-ne-zero v)) ∙ and-true (has v (s / 2)))))
    (λ (e : has 0 s ≡ false).
    let half = even-half s (even s e) p in
    rw (e, has-later v s, has-later v (s - 1), half.0)
    (one-off v n (s / 2) low half.1
    ∙ ap (λ (b : Bool). has v (s / 2) && not b) (sym (same-suc v (least n (λ t. has (suc t) s)) ∙ ap (eqb v) (least-ext n (λ t. has (suc t) s) (λ t. has t (s / 2)) (λ t l. has-later t s))))))
    (yes_or_no (has 0 s))

pub next-set : {s u : ℕ} → s < 2 ^ 32 → ¬ (s ≡ 0) → u ≡ lowest s → meet s (s - 1) ≡ without s u
unfolding lowest
next-set {s} {u} h ne low =
    has-ext 32 (meet s (s - 1)) (without s u) (meet-lt s (s - 1)) (without-lt s u)
    (λ t l. has-meet-at s (s - 1) t l ∙ one-off t 32 s l (omega arith) ∙ ap (λ (k : ℕ). has t s && not (eqb t k)) (sym low) ∙ sym (has-without-at s u t l))
