-- What a zone holds: as many types as the set has ones, each type of the set once and no other, each the lowest of those that remain and that none of those precedes,
-- and so each behind whatever precedes it. The last two are for a strict order. Assumes nothing.
use mathlib.Core.Path.{◌≡◌, refl, sym, ap, ◌∙◌}
use mathlib.Core.Logic.{⊎_elim}
use mathlib.Core.Bool.{Bool, true, false, not, ◌&&◌, ◌||◌, true≢false}
use mathlib.Core.List.{List, [], ◌∷◌}
use Prim.Native.Nat.{ℕ, zero, suc, ◌+◌, ◌^◌, ◌<◌}
use native.Mathlib.Omega.{arith}
use lib.Dec.{eqb}
use lib.Count.{ones}
use lib.ListN.{length}
use borrow.Author.Tests.{eqb-true, ne_eqb}
use Rattle.typeset.specs.Sets.{has, digit, without, size}
use Rattle.typeset.proofs.Bools.{yes_or_no, clash, and-make, or_left, or_right, not_of_false}
use Rattle.typeset.proofs.Laws.{has-below, has-empty, has-without, without-lt, size-zero, size-empty, size-code}
use Rattle.zone.specs.Order.{next, zone_from, zone_list}
use Rattle.order.specs.Rules.{precedes}
use Rattle.zone.proofs.Rows.{next-has}
use Rattle.zone.proofs.Zones.{zone-empty, zone-step, size_step}
use Rattle.zone.proofs.Precedence.{Strict, Next, next-is, next_one}

-- ---- the length

length_from : (n : ℕ) (rows : List ℕ) (s : ℕ) → length (zone_from n rows s) ≡ n
unfolding zone_from
length_from zero rows s = refl
length_from (suc n) rows s = ap suc (length_from n rows (without s (next rows s)))

pub zone-length : (rows : List ℕ) (s : ℕ) → length (zone_list rows s) ≡ size s
unfolding zone_list
zone-length rows s = length_from (size s) rows s

pub zone-ones : (rows : List ℕ) {s : ℕ} → s < 2 ^ 32 → length (zone_list rows s) ≡ ones s
zone-ones rows {s} h = zone-length rows s ∙ sym (size-code h)

-- ---- a law of every zone: one for the empty set, and one for a set and what remains of it
-- P s l is to hold of each set s and its zone l
pub zone-ind : (P : ℕ → List ℕ → Type 0) (rows : List ℕ) → P 0 []
    → ((s : ℕ) → s < 2 ^ 32 → ¬ (s ≡ 0) → P (without s (next rows s)) (zone_list rows (without s (next rows s)))
    → P s (next rows s ∷ zone_list rows (without s (next rows s))))
    → (s : ℕ) → s < 2 ^ 32 → P s (zone_list rows s)
zone-ind P rows none more s h = go (size s) s h refl
  where
    go : (n s : ℕ) → s < 2 ^ 32 → size s ≡ n → P s (zone_list rows s)
    go zero s h e = rw (size-zero h e, zone-empty) none
    go (suc n) s h e =
        let ne : ¬ (s ≡ 0) = λ z. omega (arith, ap size z, size-empty) in
        rw (zone-step rows h ne) (more s h ne (go n (without s (next rows s)) (without-lt s (next rows s)) (omega (arith, size_step rows h ne))))

-- ---- each once

-- how often t stands in a list
unfoldable pub times : ℕ → List ℕ → ℕ
times t [] = 0
times t (x ∷ xs) = digit (eqb t x) + times t xs

once_more : (a b : Bool) → (b ≡ true → a ≡ true) → digit b + digit (a && not b) ≡ digit a
once_more true true f = refl
once_more true false f = refl
once_more false true f = absurd (true≢false (sym (f refl)))
once_more false false f = refl

pub zone-once : (rows : List ℕ) (t : ℕ) {s : ℕ} → s < 2 ^ 32 → times t (zone_list rows s) ≡ digit (has t s)
unfolding times
zone-once rows t {s} h =
    zone-ind (λ s l. times t l ≡ digit (has t s)) rows (ap digit (sym (has-empty t)))
    (λ s h ne ih.
    ap (λ (k : ℕ). digit (eqb t (next rows s)) + k) (ih ∙ ap digit (has-without (next rows s) t h))
    ∙ once_more (has t s) (eqb t (next rows s)) (λ e. ap (λ (u : ℕ). has u s) (eqb-true t (next rows s) e) ∙ next-has rows h ne))
    s h

-- t stands in a list
unfoldable pub elem : ℕ → List ℕ → Bool
elem t [] = false
elem t (x ∷ xs) = eqb t x || elem t xs

or-but : (a b : Bool) → (b ≡ true → a ≡ true) → (b || (a && not b)) ≡ a
or-but true true f = refl
or-but true false f = refl
or-but false true f = sym (f refl)
or-but false false f = refl

pub zone-members : (rows : List ℕ) (t : ℕ) {s : ℕ} → s < 2 ^ 32 → elem t (zone_list rows s) ≡ has t s
unfolding elem
zone-members rows t {s} h =
    zone-ind (λ s l. elem t l ≡ has t s) rows (sym (has-empty t))
    (λ s h ne ih.
    ap (λ (b : Bool). eqb t (next rows s) || b) (ih ∙ has-without (next rows s) t h)
    ∙ or-but (has t s) (eqb t (next rows s)) (λ e. ap (λ (u : ℕ). has u s) (eqb-true t (next rows s) e) ∙ next-has rows h ne))
    s h

-- so each of them is below 32
pub zone-below : (rows : List ℕ) (t : ℕ) {s : ℕ} → s < 2 ^ 32 → elem t (zone_list rows s) ≡ true → t < 32
zone-below rows t {s} h e = has-below 32 t h (sym (zone-members rows t h) ∙ e)

-- ---- each the next one

-- the list takes the types of s one after the other, each time the lowest of those that remain and that none of those precedes
pub data InOrder (rows : List ℕ) : ℕ → List ℕ → Type 0 where
  done : InOrder rows 0 []
  more : {s x : ℕ} {xs : List ℕ} → Next rows s x → InOrder rows (without s x) xs → InOrder rows s (x ∷ xs)

pub zone-in-order : (rows : List ℕ) → Strict rows → {s : ℕ} → s < 2 ^ 32 → InOrder rows s (zone_list rows s)
zone-in-order rows 𝓢 {s} h = zone-ind (λ s l. InOrder rows s l) rows done (λ s h ne ih. more (next-is rows s h 𝓢 ne) ih) s h

-- and no other list does
pub in-order-zone : (rows : List ℕ) → Strict rows → {s : ℕ} {l : List ℕ} → s < 2 ^ 32 → InOrder rows s l → l ≡ zone_list rows s
in-order-zone rows 𝓢 h done = sym (zone-empty rows)
in-order-zone rows 𝓢 h (more {s = s} {x = x} {xs = xs} n r) =
    let ne : ¬ (s ≡ 0) = λ z. clash n.inside (ap (has x) z ∙ has-empty x) in
    let e : x ≡ next rows s = next_one rows s x (next rows s) n (next-is rows s h 𝓢 ne) in
    ap (λ (l : List ℕ). x ∷ l) (in-order-zone rows 𝓢 (without-lt s x) r) ∙ ap (λ (y : ℕ). y ∷ zone_list rows (without s y)) e ∙ sym (zone-step rows h ne)

-- ---- a before b

-- a stands in the list with b behind it
unfoldable pub ahead : ℕ → ℕ → List ℕ → Bool
ahead a b [] = false
ahead a b (x ∷ xs) = (eqb a x && elem b xs) || ahead a b xs

pub zone-sorted : (rows : List ℕ) → Strict rows → {s : ℕ} → s < 2 ^ 32
    → (a b : ℕ) → has a s ≡ true → has b s ≡ true → precedes rows a b ≡ true → ahead a b (zone_list rows s) ≡ true
unfolding ahead
zone-sorted rows 𝓢 {s} h a b ha hb p =
    zone-ind (λ s l. has a s ≡ true → has b s ≡ true → ahead a b l ≡ true) rows
    (λ ia ib. absurd (clash ia (has-empty a)))
    (λ s h ne ih ia ib.
    let x = next rows s in
    let other : eqb b x ≡ false = ne_eqb b x (λ e. clash p (ap (precedes rows a) e ∙ (next-is rows s h 𝓢 ne).free a ia)) in
    let rest : has b (without s x) ≡ true = has-without x b h ∙ and-make ib (not_of_false other) in
    ⊎_elim
    (λ e. or_left (ahead a b (zone_list rows (without s x))) (and-make e (zone-members rows b (without-lt s x) ∙ rest)))
    (λ e. or_right (eqb a x && elem b (zone_list rows (without s x))) (ih (has-without x a h ∙ and-make ia (not_of_false e)) rest))
    (yes_or_no (eqb a x)))
    s h ha hb
