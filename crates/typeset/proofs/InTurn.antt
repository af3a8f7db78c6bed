-- A turn of a loop over the types of a set (`typeset::Members`): the lowest of those that are left, and the others. Assumes nothing.
use Rattle.std.proofs.Common.{◌≡◌, ℕ, ◌^◌, ◌<◌, Bool, true, false, not, [], ◌∷◌, eqb, refl, sym, ap, ◌∙◌, arith, eqb-true, eq-eqb}
use mathlib.Core.Logic.{⊎_elim}
use Rattle.std.specs.List.{list_all}
use Rattle.typeset.specs.Sets.{has, every, members, set_of, without, lowest, implies}
use Rattle.typeset.proofs.Bools.{yes_or_no, clash, imp-of, not_of_false}
use Rattle.typeset.proofs.Below.{every_of, every-no, set_of-lt}
use Rattle.typeset.proofs.Laws.{has-ext, has-set_of, without-lt}
use Rattle.typeset.proofs.Listed.{listed-all, listed-ext, members-empty, members-next}

-- a type is in the set where not each of its members is another
absent : (s t : ℕ) → t < 32 → list_all (λ u. not (eqb u t)) (members s) ≡ not (has t s)
unfolding members
absent s t h = listed-all 32 (λ u. has u s) (λ u. not (eqb u t)) ∙ by (has t s) refl
  where
    by : (b : Bool) → has t s ≡ b → every 32 (λ u. implies (has u s) (not (eqb u t))) ≡ not b
    by true e = every-no 32 _ t h (rw (e, eq-eqb t t refl) refl)
    by false e = every_of 32 _ (λ u l. imp-of (has u s) (not (eqb u t)) (λ m. other u m (eqb u t) refl))
      where
        other : (u : ℕ) → has u s ≡ true → (b : Bool) → eqb u t ≡ b → not (eqb u t) ≡ true
        other u m true q = absurd (clash m (ap (λ k. has k s) (eqb-true u t q) ∙ e))
        other u m false q = not_of_false q

not-same : (a b : Bool) → not a ≡ not b → a ≡ b
not-same true true e = refl
not-same false false e = refl
not-same true false e = sym e
not-same false true e = sym e

-- so the members are of one set
one_set : (a b : ℕ) → a < 2 ^ 32 → b < 2 ^ 32 → members a ≡ members b → a ≡ b
one_set a b ha hb e =
    has-ext 32 a b ha hb (λ t h. not-same (has t a) (has t b) (sym (absent a t h) ∙ ap (list_all (λ u. not (eqb u t))) e ∙ absent b t h))

-- the set of the types below 32 of any number, as what a `Members` has left
abbrev pub left_of : ℕ → ℕ
left_of s = set_of 32 (λ t. has t s)

pub left-lt : (s : ℕ) → left_of s < 2 ^ 32
left-lt s = set_of-lt 32 _

pub left-all : {s : ℕ} → s < 2 ^ 32 → left_of s ≡ s
left-all {s} h = has-ext 32 (left_of s) s (left-lt s) h (λ t l. has-set_of 32 (λ t. has t s) t l)

same-members : (s : ℕ) → members (left_of s) ≡ members s
unfolding members
same-members s = listed-ext 32 _ _ (λ t l. has-set_of 32 (λ t. has t s) t l)

-- no type is left
pub none-left : (s : ℕ) → members s ≡ [] → left_of s ≡ 0
none-left s e =
    ⊎_elim (λ z. eqb-true (left_of s) 0 z)
    (λ z.
    let more = sym e ∙ sym (same-members s) ∙ members-next (left-lt s) (λ q. clash (eq-eqb (left_of s) 0 q) z) in
    let n : ◌≡◌ {A = ℕ} 0 1 = cc in
    absurd (omega arith))
    (yes_or_no (eqb (left_of s) 0))

-- t comes, and u is left
module _ (s t u : ℕ) (e : members s ≡ t ∷ members u) where
  pub some-left : left_of s ≡ 0 → ⊥
  some-left z =
      let none : t ∷ members u ≡ [] = sym e ∙ sym (same-members s) ∙ ap members z ∙ members-empty in
      let n : ◌≡◌ {A = ℕ} 0 1 = cc in
      absurd (omega arith)

  first-then : t ∷ members u ≡ lowest (left_of s) ∷ members (without (left_of s) (lowest (left_of s)))
  first-then = sym e ∙ sym (same-members s) ∙ members-next (left-lt s) some-left

  pub lowest-left : t ≡ lowest (left_of s)
  lowest-left = let q = first-then in cc

  pub others-left : left_of u ≡ without (left_of s) t
  others-left =
      let q = first-then in
      let rest : members u ≡ members (without (left_of s) (lowest (left_of s))) = cc in
      one_set (left_of u) (without (left_of s) (lowest (left_of s))) (left-lt u) (without-lt (left_of s) _) (same-members u ∙ rest)
      ∙ ap (without (left_of s)) (sym lowest-left)
