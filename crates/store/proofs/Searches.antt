-- The first number of a range that passes a test, as `find` gives it. Assumes nothing.
use Rattle.std.proofs.Common.{◌≡◌, ℕ, zero, suc, ◌+◌, ◌<◌, ◌≤◌, Bool, true, false, cond, Option, Some, None, refl, ap, ◌∙◌, arith, ltb, ltb-true, ltb-false}
use Rattle.std.specs.Prelude.{MatchOption, ◌⊎◌}
use Rattle.std.specs.Option.{option_map, unwrap_or}
use Rattle.std.specs.List.{find, range_with_len}
use mathlib.Core.Logic.{inl, inr}

-- no number from a on and below e passes; the number i is the first that does
abbrev pub NonePasses : ℕ → ℕ → (ℕ → Bool) → Type 0
NonePasses a e q = (j : ℕ) → a ≤ j → j < e → q j ≡ false

abbrev pub FirstPasses : ℕ → ℕ → (ℕ → Bool) → ℕ → Type 0
FirstPasses a e q i = (a ≤ i) × (i < e) × (q i ≡ true) × NonePasses a i q

one-more : (a e : ℕ) (q : ℕ → Bool) → q a ≡ false → NonePasses (a + 1) e q → NonePasses a e q
one-more a e q f h j l m = by (ltb a j) refl
  where
    by : (b : Bool) → ltb a j ≡ b → q j ≡ false
    by true t = h j (omega (arith, ltb-true a j t)) m
    by false t = let same : j ≡ a = omega (arith, l, ltb-false a j t) in ap q same ∙ f

pub first_in : (a n : ℕ) (q : ℕ → Bool) (r : Option ℕ) → option_map (λ x. x) r ≡ find q (range_with_len a n) → MatchOption r (NonePasses a (a + n) q) (FirstPasses a (a + n) q)
first_in a zero q None e = λ j l m. absurd (omega arith)
first_in a zero q (Some i) e = let z : ◌≡◌ {A = ℕ} 0 1 = cc in absurd (omega arith)
first_in a (suc n) q r e = by (q a) refl (first_in (a + 1) n q) r e
  where
    same_end : a + 1 + n ≡ a + suc n
    same_end = omega arith

    by : (b : Bool) → q a ≡ b → ((r : Option ℕ) → option_map (λ x. x) r ≡ find q (range_with_len (a + 1) n) → MatchOption r (NonePasses (a + 1) (a + 1 + n) q) (FirstPasses (a + 1) (a + 1 + n) q))
        → (r : Option ℕ) → option_map (λ x. x) r ≡ cond b (Some a) (find q (range_with_len (a + 1) n)) → MatchOption r (NonePasses a (a + suc n) q) (FirstPasses a (a + suc n) q)
    by true t rest None e = let z : ◌≡◌ {A = ℕ} 0 1 = cc in absurd (omega arith)
    by true t rest (Some i) e = let same : i ≡ a = cc in rw same (omega arith, omega arith, t, λ j l m. absurd (omega arith))
    by false t rest None e = one-more a (a + suc n) q t (λ j l m. rest None e j l (omega (arith, m, same_end)))
    by false t rest (Some i) e =
        let f = rest (Some i) e in
        (omega (arith, f.0), omega (arith, f.1, same_end), f.2, one-more a i q t f.3)

-- a place found, or else another
pub or_else : (r : Option ℕ) (n i a : ℕ) → MatchOption r (1024 ≤ n) (λ j. (j ≡ n) × (j < 1024)) → a ≡ unwrap_or r i → ((a ≡ n) × (a < 1024)) ⊎ ((a ≡ i) × (1024 ≤ n))
or_else None n i a h e = inr (e, h)
or_else (Some j) n i a h e = inl (e ∙ h.0, rw e h.1)
