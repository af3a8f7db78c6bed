-- Any sets that keep their rules are the sets of some sound plan, and so are any sets with a source order that keeps its rules: an order for them is made.
-- Assumes nothing.
use mathlib.Core.Path.{◌≡◌, refl, sym, ap, ◌∙◌}
use mathlib.Core.Logic.{⊎_elim}
use mathlib.Core.Bool.{Bool, true, false, not, ◌&&◌, ◌||◌}
use mathlib.Core.List.{List, [], ◌∷◌}
use Prim.Native.Nat.{ℕ, zero, suc, ◌^◌, ◌≤◌, ◌<◌}
use native.Mathlib.Nat.{not-suc-le-zero}
use native.Mathlib.Omega.{arith}
use lib.Dec.{eqb, ltb}
use lib.ListN.{length, get_or}
use borrow.Author.Tests.{lt-ltb, le-ltb, ltb-true, eqb-false, eq-eqb}
use Rattle.typeset.specs.Sets.{has, every, set_of, within, implies, same}
use Rattle.typeset.proofs.Bools.{yes_or_no, clash, fails, and_left, and_right, and-make, or_left, or_right, not-true, not_of_false, imp-at, imp-of}
use Rattle.typeset.proofs.Below.{every-at, every_of, set_of-lt}
use Rattle.typeset.proofs.Laws.{has-set_of, within_of, within-below, empty_of, split}
use Rattle.order.specs.Rules.{precedes, rows_in_choice, empty_outside, irreflexive, transitive, two_of, reversible_ordered, reversible_opposed, order_sound}
use Rattle.plan.specs.declared.Region.TheVariants.{Source, Target}
use Rattle.plan.specs.declared.Types.{Types}
use Rattle.plan.specs.Parts.{choice}
use Rattle.plan.specs.Rules.{types_exist, reversible_in_both, bound_in_both}
use Rattle.plan.specs.Sound.{types_sound, source_sound, target_sound}
use Rattle.planbytes.specs.Numbers.{Below}

-- ---- n numbers by a rule

unfoldable pub tabulate : ℕ → (ℕ → ℕ) → List ℕ
tabulate zero f = []
tabulate (suc n) f = f 0 ∷ tabulate n (λ i. f (suc i))

tab-length : (n : ℕ) (f : ℕ → ℕ) → length (tabulate n f) ≡ n
unfolding tabulate
tab-length zero f = refl
tab-length (suc n) f = ap suc (tab-length n (λ i. f (suc i)))

tab-at : (n : ℕ) (f : ℕ → ℕ) (i : ℕ) → i < n → get_or (tabulate n f) i 0 ≡ f i
unfolding tabulate
tab-at zero f i h = absurd (not-suc-le-zero h)
tab-at (suc n) f zero h = refl
tab-at (suc n) f (suc i) h = let l : i < n = omega arith in tab-at n (λ i. f (suc i)) i l

tab-below : (n m : ℕ) (f : ℕ → ℕ) → ((i : ℕ) → f i < m) → Below m (tabulate n f)
unfolding tabulate Below
tab-below zero m f h = tt
tab-below (suc n) m f h = (h 0, tab-below n m (λ i. f (suc i)) (λ i. h (suc i)))

-- ---- the rows of a relation among the types of a set

unfoldable pub row_of : ℕ → (ℕ → ℕ → Bool) → ℕ → ℕ
row_of set rel a = set_of 32 (λ b. has a set && has b set && rel a b)

unfoldable pub rows_of : ℕ → (ℕ → ℕ → Bool) → List ℕ
rows_of set rel = tabulate 32 (row_of set rel)

pub rows_long : (set : ℕ) (rel : ℕ → ℕ → Bool) → length (rows_of set rel) ≡ 32
unfolding rows_of
rows_long set rel = tab-length 32 (row_of set rel)

pub rows_fit : (set : ℕ) (rel : ℕ → ℕ → Bool) → Below (2 ^ 32) (rows_of set rel)
unfolding rows_of row_of
rows_fit set rel = tab-below 32 (2 ^ 32) (row_of set rel) (λ a. set_of-lt 32 (λ b. has a set && has b set && rel a b))

module _ (set : ℕ) (rel : ℕ → ℕ → Bool) where
  row_has : (a b : ℕ) → a < 32 → b < 32 → has b (get_or (rows_of set rel) a 0) ≡ (has a set && has b set && rel a b)
  unfolding rows_of row_of
  row_has a b la lb = ap (has b) (tab-at 32 (row_of set rel) a la) ∙ has-set_of 32 (λ b. has a set && has b set && rel a b) b lb

  pub rows_at : (a b : ℕ) → a < 32 → b < 32 → precedes (rows_of set rel) a b ≡ (has a set && has b set && rel a b)
  unfolding precedes
  rows_at a b la lb = row_has a b la lb

  module _ (a b : ℕ) (la : a < 32) (lb : b < 32) (e : precedes (rows_of set rel) a b ≡ true) where
    both : (has a set && has b set && rel a b) ≡ true
    both = sym (rows_at a b la lb) ∙ e

    first-in : has a set ≡ true
    first-in = and_left (has a set) (has b set) (and_left (has a set && has b set) (rel a b) both)

    second-in : has b set ≡ true
    second-in = and_right (has a set) (has b set) (and_left (has a set && has b set) (rel a b) both)

    related : rel a b ≡ true
    related = and_right (has a set && has b set) (rel a b) both

  rows-of : (a b : ℕ) → a < 32 → b < 32 → has a set ≡ true → has b set ≡ true → rel a b ≡ true → precedes (rows_of set rel) a b ≡ true
  rows-of a b la lb p q r = rows_at a b la lb ∙ and-make (and-make p q) r

  -- they are an order of a region whose choice has the set, where the relation is one
  module _ (chosen : ℕ) (inside : within set chosen ≡ true) (never : (a : ℕ) → a < 32 → rel a a ≡ false)
      (on : (a b c : ℕ) → a < 32 → b < 32 → c < 32 → rel a b ≡ true → rel b c ≡ true → rel a c ≡ true) where
    in-choice : rows_in_choice chosen (rows_of set rel) ≡ true
    unfolding rows_in_choice precedes
    in-choice = every_of 32 (λ t. within (get_or (rows_of set rel) t 0) chosen) (λ t h.
        within_of (get_or (rows_of set rel) t 0) chosen (λ u l e. within-below set chosen inside u l (second-in t u h l e)))

    empty-outside : empty_outside chosen (rows_of set rel) ≡ true
    unfolding empty_outside rows_of row_of
    empty-outside = every_of 32 (λ t. has t chosen || eqb (get_or (rows_of set rel) t 0) 0) (λ t h.
        ⊎_elim
        (λ (e : has t set ≡ true). or_left (eqb (get_or (rows_of set rel) t 0) 0) (within-below set chosen inside t h e))
        (λ (e : has t set ≡ false). or_right (has t chosen) (eq-eqb (get_or (rows_of set rel) t 0) 0
        (empty_of (rw (tab-at 32 (row_of set rel) t h) (set_of-lt 32 (λ b. has t set && has b set && rel t b)))
        (λ u l. row_has t u h l ∙ rw e))))
        (yes_or_no (has t set)))

    not_itself : irreflexive (rows_of set rel) ≡ true
    unfolding irreflexive
    not_itself = every_of 32 (λ t. not (precedes (rows_of set rel) t t)) (λ t h.
        not_of_false (fails (precedes (rows_of set rel) t t) (λ e. clash (related t t h h e) (never t h))))

    passes_on : transitive (rows_of set rel) ≡ true
    unfolding transitive
    passes_on =
        every_of 32 (λ a. every 32 (λ b. implies (precedes (rows_of set rel) a b) (every 32 (λ c. implies (precedes (rows_of set rel) b c) (precedes (rows_of set rel) a c))))) (λ a la.
        every_of 32 (λ b. implies (precedes (rows_of set rel) a b) (every 32 (λ c. implies (precedes (rows_of set rel) b c) (precedes (rows_of set rel) a c)))) (λ b lb.
        imp-of (precedes (rows_of set rel) a b) (every 32 (λ c. implies (precedes (rows_of set rel) b c) (precedes (rows_of set rel) a c))) (λ ab.
        every_of 32 (λ c. implies (precedes (rows_of set rel) b c) (precedes (rows_of set rel) a c)) (λ c lc.
        imp-of (precedes (rows_of set rel) b c) (precedes (rows_of set rel) a c) (λ bc.
        rows-of a c la lc (first-in a b la lb ab) (second-in b c lb lc bc) (on a b c la lb lc (related a b la lb ab) (related b c lb lc bc)))))))

    rows-sound : order_sound chosen (rows_of set rel) ≡ true
    unfolding order_sound
    rows-sound = and-make (and-make (and-make in-choice empty-outside) not_itself) passes_on

abbrev pub source_for : Types → List ℕ
source_for t = rows_of t.reversible ltb

abbrev pub target_for : Types → List ℕ → List ℕ
target_for t source = rows_of t.reversible (λ a b. precedes source b a)

module _ (t : Types) (ok : types_sound t ≡ true) where
  in_both : reversible_in_both t ≡ true
  unfolding types_sound
  in_both = and_right (types_exist t) (reversible_in_both t) (and_left (types_exist t && reversible_in_both t) (bound_in_both t) ok)

  in_source : within t.reversible (choice Source t) ≡ true
  unfolding reversible_in_both
  in_source = and_left (within t.reversible (choice Source t)) (within t.reversible (choice Target t)) in_both

  in_target : within t.reversible (choice Target t) ≡ true
  unfolding reversible_in_both
  in_target = and_right (within t.reversible (choice Source t)) (within t.reversible (choice Target t)) in_both

  -- ---- a source order: the reversible types by their numbers
  ordered : reversible_ordered t.reversible (source_for t) ≡ true
  unfolding reversible_ordered two_of
  ordered =
      every_of 32 (λ a. every 32 (λ b. implies (two_of t.reversible a b) (precedes (source_for t) a b || precedes (source_for t) b a))) (λ a la.
      every_of 32 (λ b. implies (two_of t.reversible a b) (precedes (source_for t) a b || precedes (source_for t) b a)) (λ b lb.
      imp-of (two_of t.reversible a b) (precedes (source_for t) a b || precedes (source_for t) b a) (λ e.
      let two = and_left (has a t.reversible && has b t.reversible) (not (eqb a b)) e in
      let ra = and_left (has a t.reversible) (has b t.reversible) two in
      let rb = and_right (has a t.reversible) (has b t.reversible) two in
      let ne = eqb-false a b (not-true (eqb a b) (and_right (has a t.reversible && has b t.reversible) (not (eqb a b)) e)) in
      ⊎_elim
      (λ (l : a < b). or_left (precedes (source_for t) b a) (rows-of t.reversible ltb a b la lb ra rb (lt-ltb a b l)))
      (λ (l : b ≤ a). or_right (precedes (source_for t) a b) (rows-of t.reversible ltb b a lb la rb ra (lt-ltb b a (omega arith))))
      (split a b))))

  pub source-for : source_sound t (source_for t) ≡ true
  unfolding source_sound
  source-for =
      and-make (rows-sound t.reversible ltb (choice Source t) in_source (λ a h. le-ltb a a (omega arith))
      (λ a b c la lb lc ab bc. let x = ltb-true a b ab in let y = ltb-true b c bc in lt-ltb a c (omega arith))) ordered

  -- ---- a target order for a source order: the reversible types the other way round
  module _ (source : List ℕ) (kept : source_sound t source ≡ true) where
    source-order : order_sound (choice Source t) source ≡ true
    unfolding source_sound
    source-order = and_left (order_sound (choice Source t) source) (reversible_ordered t.reversible source) kept

    source-irreflexive : (a : ℕ) → a < 32 → precedes source a a ≡ false
    unfolding order_sound irreflexive
    source-irreflexive a h = not-true (precedes source a a) (every-at 32 (λ t. not (precedes source t t))
        (and_right (rows_in_choice (choice Source t) source && empty_outside (choice Source t) source) (irreflexive source)
        (and_left (rows_in_choice (choice Source t) source && empty_outside (choice Source t) source && irreflexive source) (transitive source) source-order)) a h)

    source-transitive : (a b c : ℕ) → a < 32 → b < 32 → c < 32 → precedes source a b ≡ true → precedes source b c ≡ true → precedes source a c ≡ true
    unfolding order_sound transitive
    source-transitive a b c la lb lc ab bc =
        let all = and_right (rows_in_choice (choice Source t) source && empty_outside (choice Source t) source && irreflexive source) (transitive source) source-order in
        imp-at (precedes source b c) (precedes source a c)
        (every-at 32 (λ c. implies (precedes source b c) (precedes source a c))
        (imp-at (precedes source a b) (every 32 (λ c. implies (precedes source b c) (precedes source a c)))
        (every-at 32 (λ b. implies (precedes source a b) (every 32 (λ c. implies (precedes source b c) (precedes source a c))))
        (every-at 32 (λ a. every 32 (λ b. implies (precedes source a b) (every 32 (λ c. implies (precedes source b c) (precedes source a c))))) all a la) b lb) ab) c lc) bc

    same_self : (x : Bool) → same x x ≡ true
    same_self true = refl
    same_self false = refl

    opposed : reversible_opposed t.reversible source (target_for t source) ≡ true
    unfolding reversible_opposed two_of
    opposed =
        every_of 32 (λ a. every 32 (λ b. implies (two_of t.reversible a b) (same (precedes source a b) (precedes (target_for t source) b a)))) (λ a la.
        every_of 32 (λ b. implies (two_of t.reversible a b) (same (precedes source a b) (precedes (target_for t source) b a))) (λ b lb.
        imp-of (two_of t.reversible a b) (same (precedes source a b) (precedes (target_for t source) b a)) (λ e.
        let two = and_left (has a t.reversible && has b t.reversible) (not (eqb a b)) e in
        let ra = and_left (has a t.reversible) (has b t.reversible) two in
        let rb = and_right (has a t.reversible) (has b t.reversible) two in
        let is : precedes (target_for t source) b a ≡ precedes source a b = rows_at t.reversible (λ a b. precedes source b a) b a lb la ∙ rw (rb, ra) in
        rw is (same_self (precedes source a b)))))

    pub target-for : target_sound t source (target_for t source) ≡ true
    unfolding target_sound
    target-for =
        and-make (rows-sound t.reversible (λ a b. precedes source b a) (choice Target t) in_target source-irreflexive
        (λ a b c la lb lc ab bc. source-transitive c b a lc lb la bc ab)) opposed
