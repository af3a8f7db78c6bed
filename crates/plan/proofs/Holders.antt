-- More of what a sound plan has: which types exist and are chosen, and whose box numbers are whose (manual 2.5, 3.3). Assumes nothing.
use mathlib.Core.Path.{◌≡◌}
use mathlib.Core.Bool.{true, ◌&&◌}
use Prim.Native.Nat.{ℕ, ◌≤◌, ◌<◌}
use lib.Dec.{ltb, leb}
use borrow.Author.Tests.{leb-true, eqb-true, lt-ltb}
use Rattle.typeset.specs.Sets.{has, within, implies}
use Rattle.typeset.proofs.Bools.{and_left, and_right, imp-at}
use Rattle.typeset.proofs.Below.{every-at}
use Rattle.typeset.proofs.Laws.{within-below}
use Rattle.plan.specs.declared.Region.{Region}
use Rattle.plan.specs.declared.Region.TheVariants.{Source, Target}
use Rattle.plan.specs.declared.Plan.{Plan}
use Rattle.plan.specs.Parts.{choice, box_number, at, box}
use Rattle.plan.specs.Rules.{types_exist, reversible_in_both, bound_in_both, kind_known, count_fits, numbers_given, numbers_differ, boxes_blank, shares, lines_apart, one_kind}
use Rattle.plan.specs.Sound.{types_sound, boxes_sound, own_sound, numbers_apart, sound}
use Rattle.plan.proofs.Numbers.{Agree, agree_at}
use Rattle.plan.proofs.Subscribers.{own_at, apart-at, own-kind, own-count, own-boxes}
use Rattle.plan.proofs.Laws.{types-kept, subscribers-kept}

module _ (p : Plan) (𝓢 : sound p ≡ true) where
  -- ---- the five sets

  exist : types_exist p.types ≡ true
  unfolding types_sound
  exist = and_left (types_exist p.types) (reversible_in_both p.types) (and_left _ (bound_in_both p.types) (types-kept p 𝓢))

  in_both : reversible_in_both p.types ≡ true
  unfolding types_sound
  in_both = and_right (types_exist p.types) (reversible_in_both p.types) (and_left _ (bound_in_both p.types) (types-kept p 𝓢))

  -- a type that can be routed to exists
  pub chosen-exists : (r : Region) (t : ℕ) → t < 32 → has t (choice r p.types) ≡ true → has t p.types.existing ≡ true
  unfolding types_exist
  chosen-exists Source t h e =
      within-below (choice Source p.types) p.types.existing
      (and_right (within p.types.bound p.types.existing && within p.types.reversible p.types.existing)
      (within (choice Source p.types) p.types.existing) (and_left _ (within (choice Target p.types) p.types.existing) exist)) t h e
  chosen-exists Target t h e =
      within-below (choice Target p.types) p.types.existing
      (and_right (within p.types.bound p.types.existing && within p.types.reversible p.types.existing
      && within (choice Source p.types) p.types.existing) (within (choice Target p.types) p.types.existing) exist) t h e

  -- a reversible type can be routed to in either region
  pub reversible-chosen : (r : Region) (t : ℕ) → t < 32 → has t p.types.reversible ≡ true → has t (choice r p.types) ≡ true
  unfolding reversible_in_both
  reversible-chosen Source t h e =
      within-below p.types.reversible (choice Source p.types)
      (and_left (within p.types.reversible (choice Source p.types)) (within p.types.reversible (choice Target p.types)) in_both) t h e
  reversible-chosen Target t h e =
      within-below p.types.reversible (choice Target p.types)
      (and_right (within p.types.reversible (choice Source p.types)) (within p.types.reversible (choice Target p.types)) in_both) t h e

  -- ---- a subscriber in use
  module _ (i : ℕ) (h : i < p.count) where
    own : own_sound p.types (at p.subscribers i) ≡ true
    own = own_at p.types p.subscribers p.count (subscribers-kept p 𝓢) i h

    -- its kind is one of the four
    pub four-kinds : (1 ≤ (at p.subscribers i).kind) × ((at p.subscribers i).kind ≤ 4)
    unfolding kind_known
    four-kinds =
        let e = own-kind p.types (at p.subscribers i) own in (
          leb-true 1 (at p.subscribers i).kind (and_left (leb 1 (at p.subscribers i).kind) (leb (at p.subscribers i).kind 4) e),
          leb-true (at p.subscribers i).kind 4 (and_right (leb 1 (at p.subscribers i).kind) (leb (at p.subscribers i).kind 4) e),
        )

    -- how many box numbers it has, by its kind
    pub line-one : (at p.subscribers i).kind ≡ 1 → (at p.subscribers i).count ≡ 1
    unfolding count_fits
    line-one k = eqb-true (at p.subscribers i).count 1 (rw k at (own-count p.types (at p.subscribers i) own))

    pub trunk-few : (at p.subscribers i).kind ≡ 2 → (at p.subscribers i).count ≤ 4
    unfolding count_fits
    trunk-few k = leb-true (at p.subscribers i).count 4 (rw k at (own-count p.types (at p.subscribers i) own))

    pub resource-some : (at p.subscribers i).kind ≡ 3 → (1 ≤ (at p.subscribers i).count) × ((at p.subscribers i).count ≤ 4)
    unfolding count_fits
    resource-some k =
        let e = rw k at (own-count p.types (at p.subscribers i) own) in (
          leb-true 1 (at p.subscribers i).count (and_left (leb 1 (at p.subscribers i).count) (leb (at p.subscribers i).count 4) e),
          leb-true (at p.subscribers i).count 4 (and_right (leb 1 (at p.subscribers i).count) (leb (at p.subscribers i).count 4) e),
        )

    pub mobile-none : (at p.subscribers i).kind ≡ 4 → (at p.subscribers i).count ≡ 0
    unfolding count_fits
    mobile-none k = eqb-true (at p.subscribers i).count 0 (rw k at (own-count p.types (at p.subscribers i) own))

    -- each of them is a box number
    pub number-given : (x : ℕ) → x < 4 → x < (at p.subscribers i).count → box_number (box (at p.subscribers i) x) ≡ true
    unfolding boxes_sound numbers_given
    number-given x l m =
        imp-at (ltb x (at p.subscribers i).count) (box_number (box (at p.subscribers i) x))
        (every-at 4 (λ x. implies (ltb x (at p.subscribers i).count) (box_number (box (at p.subscribers i) x)))
        (and_left (numbers_given (at p.subscribers i)) (numbers_differ (at p.subscribers i))
        (and_left _ (boxes_blank (at p.subscribers i)) (own-boxes p.types (at p.subscribers i) own))) x l) (lt-ltb x (at p.subscribers i).count m)

    -- one before it with which it shares a number is of the same kind, and that is no line
    pub shared-number : (j : ℕ) → j < i → shares (at p.subscribers j) (at p.subscribers i) ≡ true
        → Agree (at p.subscribers j) (at p.subscribers i)
    unfolding numbers_apart
    shared-number j l e =
        agree_at (at p.subscribers j) (at p.subscribers i)
        (every-at i (λ j. lines_apart (at p.subscribers j) (at p.subscribers i) && one_kind (at p.subscribers j) (at p.subscribers i))
        (apart-at p.types p.subscribers p.count (subscribers-kept p 𝓢) i h) j l) e
