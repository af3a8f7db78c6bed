-- A strict order: no type precedes itself, and what precedes a predecessor precedes. In it every set that is not empty has a type that no type of the set precedes,
-- so `next` is the lowest of those. Assumes nothing.
use mathlib.Core.Path.{◌≡◌, sym, ap, ◌∙◌}
use mathlib.Core.Logic.{⊎_elim}
use mathlib.Core.Bool.{Bool, true, false, not, ◌&&◌, and-false}
use mathlib.Core.List.{List}
use Prim.Native.Nat.{ℕ, zero, suc, ◌^◌, ◌≤◌, ◌<◌}
use native.Mathlib.Nat.{not-suc-le-zero, le_antisymm, lt_of_lt_of_le, le_of_suc-le-suc, lt-suc_self}
use borrow.Author.Tests.{ne_eqb}
use Rattle.typeset.specs.Sets.{has, count, lowest}
use Rattle.typeset.proofs.Bools.{yes_or_no, clash, fails, and_left, and_right, and-make, not-true, not_of_false}
use Rattle.typeset.proofs.Below.{some_of, some_at, count_less}
use Rattle.typeset.proofs.Laws.{has-below, has-empty, lowest-has, lowest-lt, lowest-min}
use Rattle.plan.specs.declared.Region.{Region}
use Rattle.plan.specs.declared.Plan.{Plan}
use Rattle.order.specs.Rules.{precedes}
use Rattle.plan.specs.Parts.{order}
use Rattle.plan.specs.Sound.{sound}
use Rattle.plan.proofs.Laws.{never-itself, through}
use Rattle.zone.specs.Order.{preceded, unpreceded, next}
use Rattle.zone.proofs.Rows.{before, has-preceded, first-lt, has_first, next-free}

pub record Strict (rows : List ℕ) : Type 0 where
  pub irreflexive : (a : ℕ) → a < 32 → precedes rows a a ≡ false
  pub transitive : (a b c : ℕ) → a < 32 → b < 32 → c < 32 → precedes rows a b ≡ true → precedes rows b c ≡ true → precedes rows a c ≡ true

-- each order of a sound plan is one
pub strict-order : (p : Plan) → sound p ≡ true → (r : Region) → Strict (order r p)
strict-order p 𝓢 r = record { irreflexive = never-itself p 𝓢 r; transitive = through p 𝓢 r }

-- x is the lowest type of s that no type of s precedes
pub record Next (rows : List ℕ) (s x : ℕ) : Type 0 where
  pub inside : has x s ≡ true
  pub free : (u : ℕ) → has u s ≡ true → precedes rows u x ≡ false
  pub low : (t : ℕ) → has t s ≡ true → ((u : ℕ) → has u s ≡ true → precedes rows u t ≡ false) → x ≤ t

-- there is only one
pub next_one : (rows : List ℕ) (s x y : ℕ) → Next rows s x → Next rows s y → x ≡ y
next_one rows s x y p q = le_antisymm (p.low y q.inside q.free) (q.low x p.inside p.free)

module _ (rows : List ℕ) (s : ℕ) (h : s < 2 ^ 32) where
  -- t is first: it is in s, and nothing in s precedes it
  pub first_of : (t : ℕ) → has t s ≡ true → ((u : ℕ) → has u s ≡ true → precedes rows u t ≡ false) → has t (unpreceded rows s) ≡ true
  first_of t e f =
      has_first rows s t h
      ∙ and-make e (not_of_false (fails (has t (preceded rows s)) (λ p.
      let r = some_at 32 (before rows s t) (sym (has-preceded rows s t (has-below 32 t h e)) ∙ p) in
      clash (and_right (has r.0 s) (precedes rows r.0 t) r.2) (f r.0 (and_left (has r.0 s) (precedes rows r.0 t) r.2)))))

  pub first-in : (t : ℕ) → has t (unpreceded rows s) ≡ true → has t s ≡ true
  first-in t e = and_left (has t s) (not (has t (preceded rows s))) (sym (has_first rows s t h) ∙ e)

  pub first-free : (t : ℕ) → has t (unpreceded rows s) ≡ true → (u : ℕ) → has u s ≡ true → precedes rows u t ≡ false
  first-free t e u m =
      fails (precedes rows u t) (λ p.
      let no_one : has t (preceded rows s) ≡ false = not-true _ (and_right (has t s) (not (has t (preceded rows s))) (sym (has_first rows s t h) ∙ e)) in
      clash (has-preceded rows s t (has-below 32 t h (first-in t e)) ∙ some_of 32 (before rows s t) u (has-below 32 u h m) (and-make m p)) no_one)

  module _ (𝓢 : Strict rows) where
    -- by the number of types of s that precede t: one of them has fewer
    descend : (k t : ℕ) → has t s ≡ true → count 32 (before rows s t) < k → ¬ (unpreceded rows s ≡ 0)
    descend zero t e l z = not-suc-le-zero l
    descend (suc k) t e l z =
        let lt : t < 32 = has-below 32 t h e in
        ⊎_elim
        (λ p.
        let r = some_at 32 (before rows s t) (sym (has-preceded rows s t lt) ∙ p) in
        let u = r.0 in
        let in-s : has u s ≡ true = and_left (has u s) (precedes rows u t) r.2 in
        let pre : precedes rows u t ≡ true = and_right (has u s) (precedes rows u t) r.2 in
        let fewer : count 32 (before rows s u) < count 32 (before rows s t) =
        count_less 32 (before rows s u) (before rows s t)
        (λ v lv b. and-make (and_left (has v s) (precedes rows v u) b)
        (𝓢.transitive v u t lv r.1 lt (and_right (has v s) (precedes rows v u) b) pre))
        u r.1 (ap (λ (b : Bool). has u s && b) (𝓢.irreflexive u r.1) ∙ and-false (has u s)) r.2 in
        descend k u in-s (lt_of_lt_of_le fewer (le_of_suc-le-suc l)) z)
        (λ p. clash (has_first rows s t h ∙ and-make e (not_of_false p)) (ap (has t) z ∙ has-empty t))
        (yes_or_no (has t (preceded rows s)))

    pub first_some : ¬ (s ≡ 0) → ¬ (unpreceded rows s ≡ 0)
    first_some ne = descend (suc (count 32 (before rows s (lowest s)))) (lowest s) (lowest-has s (lowest-lt h ne)) (lt-suc_self _)

    pub next-is : ¬ (s ≡ 0) → Next rows s (next rows s)
    next-is ne =
        let some_first : ¬ (unpreceded rows s ≡ 0) = first_some ne in
        let e : next rows s ≡ lowest (unpreceded rows s) = next-free rows s (ne_eqb (unpreceded rows s) 0 some_first) in
        let m : has (next rows s) (unpreceded rows s) ≡ true = rw e (lowest-has (unpreceded rows s) (lowest-lt (first-lt rows s) some_first)) in
        record {
          inside = first-in (next rows s) m;
          free = first-free (next rows s) m;
          low = λ t i f. rw e (lowest-min (unpreceded rows s) t (first_of t i f));
        }
