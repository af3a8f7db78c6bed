-- What a sound plan has, in the form in which callers want it. Assumes nothing.
use Rattle.std.specs.Prelude.{Some}
use mathlib.Core.Path.{◌≡◌, refl, sym, ap, ◌∙◌}
use mathlib.Core.Logic.{◌⊎◌, inl, inr, ⊎_elim}
use mathlib.Core.Bool.{Bool, true, false, not, ◌&&◌, ◌||◌}
use Prim.Native.Nat.{ℕ, ◌≤◌, ◌<◌}
use native.Mathlib.Omega.{arith}
use lib.Dec.{eqb, leb}
use lib.ListN.{get_or}
use borrow.Author.Tests.{leb-true, eqb-true, eq-eqb, ne_eqb}
use Rattle.typeset.specs.Sets.{has, every, within, implies, same}
use Rattle.typeset.proofs.Bools.{clash, fails, and_left, and_right, and-make, or_cases, not-true, not_of_false, imp-at}
use Rattle.typeset.proofs.Below.{every-at}
use Rattle.typeset.proofs.Laws.{has-empty, within-below}
use Rattle.plan.specs.declared.Region.{Region}
use Rattle.plan.specs.declared.Region.TheVariants.{Source, Target}
use Rattle.plan.specs.declared.Plan.{Plan}
use Rattle.order.specs.Rules.{precedes, rows_in_choice, empty_outside, irreflexive, transitive, two_of, reversible_ordered, reversible_opposed, order_sound}
use Rattle.plan.specs.Parts.{choice, order, subscribed, given, at}
use Rattle.plan.specs.Rules.{address_given, sets_in_choices, reversible_twice, rest_blank}
use Rattle.plan.specs.Sound.{types_sound, source_sound, target_sound, subscriber_sound, sound}
use Rattle.plan.specs.Find.{used, lookup}
use Rattle.plan.proofs.Subscribers.{own_at, ascending, own-address, own-sets, own-reversible}
use Rattle.plan.proofs.Lookup.{lookup-at}

same-is : (a b : Bool) → same a b ≡ true → a ≡ b
same-is true b e = sym e
same-is false true e = e
same-is false false e = refl

same_true : (a b : Bool) → same a b ≡ true → a ≡ true → b ≡ true
same_true a b e h = sym (same-is a b e) ∙ h

module _ (p : Plan) (𝓢 : sound p ≡ true) where
  -- ---- the groups of rules

  first-five : (leb p.count 256 && types_sound p.types && source_sound p.types (order Source p)
      && target_sound p.types (order Source p) (order Target p) && every p.count (subscriber_sound p.types p.subscribers)) ≡ true
  unfolding sound
  first-five = and_left _ (rest_blank p.subscribers p.count) 𝓢

  first-four : (leb p.count 256 && types_sound p.types && source_sound p.types (order Source p)
      && target_sound p.types (order Source p) (order Target p)) ≡ true
  first-four = and_left _ (every p.count (subscriber_sound p.types p.subscribers)) first-five

  first_three : (leb p.count 256 && types_sound p.types && source_sound p.types (order Source p)) ≡ true
  first_three = and_left _ (target_sound p.types (order Source p) (order Target p)) first-four

  first_two : (leb p.count 256 && types_sound p.types) ≡ true
  first_two = and_left _ (source_sound p.types (order Source p)) first_three

  -- at most 256 subscribers
  pub few : p.count ≤ 256
  few = leb-true p.count 256 (and_left (leb p.count 256) (types_sound p.types) first_two)

  pub types-kept : types_sound p.types ≡ true
  types-kept = and_right (leb p.count 256) (types_sound p.types) first_two

  pub source-kept : source_sound p.types (order Source p) ≡ true
  source-kept = and_right (leb p.count 256 && types_sound p.types) (source_sound p.types (order Source p)) first_three

  pub target-kept : target_sound p.types (order Source p) (order Target p) ≡ true
  target-kept = and_right (leb p.count 256 && types_sound p.types && source_sound p.types (order Source p))
      (target_sound p.types (order Source p) (order Target p)) first-four

  pub subscribers-kept : every p.count (subscriber_sound p.types p.subscribers) ≡ true
  subscribers-kept = and_right (leb p.count 256 && types_sound p.types && source_sound p.types (order Source p)
      && target_sound p.types (order Source p) (order Target p)) (every p.count (subscriber_sound p.types p.subscribers)) first-five

  pub rest-kept : rest_blank p.subscribers p.count ≡ true
  unfolding sound
  rest-kept = and_right (leb p.count 256 && types_sound p.types && source_sound p.types (order Source p)
      && target_sound p.types (order Source p) (order Target p) && every p.count (subscriber_sound p.types p.subscribers))
      (rest_blank p.subscribers p.count) 𝓢

  -- ---- the orders (manual 3.4), of either region

  pub order-kept : (r : Region) → order_sound (choice r p.types) (order r p) ≡ true
  unfolding source_sound target_sound
  order-kept Source = and_left (order_sound (choice Source p.types) (order Source p)) (reversible_ordered p.types.reversible (order Source p)) source-kept
  order-kept Target = and_left (order_sound (choice Target p.types) (order Target p))
      (reversible_opposed p.types.reversible (order Source p) (order Target p)) target-kept

  module _ (r : Region) where
    rows-three : (rows_in_choice (choice r p.types) (order r p) && empty_outside (choice r p.types) (order r p) && irreflexive (order r p)) ≡ true
    unfolding order_sound
    rows-three = and_left _ (transitive (order r p)) (order-kept r)

    -- no type precedes itself
    pub never-itself : (a : ℕ) → a < 32 → precedes (order r p) a a ≡ false
    unfolding irreflexive
    never-itself a h = not-true (precedes (order r p) a a) (every-at 32 (λ t. not (precedes (order r p) t t))
        (and_right (rows_in_choice (choice r p.types) (order r p) && empty_outside (choice r p.types) (order r p)) (irreflexive (order r p)) rows-three) a h)

    -- what a predecessor precedes
    pub through : (a b c : ℕ) → a < 32 → b < 32 → c < 32 → precedes (order r p) a b ≡ true → precedes (order r p) b c ≡ true → precedes (order r p) a c ≡ true
    unfolding order_sound transitive
    through a b c la lb lc ab bc =
        let carried : ℕ → ℕ → Bool = λ a b. every 32 (λ c. implies (precedes (order r p) b c) (precedes (order r p) a c)) in
        let row : every 32 (λ b. implies (precedes (order r p) a b) (carried a b)) ≡ true =
        every-at 32 (λ a. every 32 (λ b. implies (precedes (order r p) a b) (carried a b)))
        (and_right (rows_in_choice (choice r p.types) (order r p) && empty_outside (choice r p.types) (order r p) && irreflexive (order r p)) (transitive (order r p)) (order-kept r)) a la in
        imp-at (precedes (order r p) b c) (precedes (order r p) a c)
        (every-at 32 (λ c. implies (precedes (order r p) b c) (precedes (order r p) a c))
        (imp-at (precedes (order r p) a b) (carried a b) (every-at 32 (λ b. implies (precedes (order r p) a b) (carried a b)) row b lb) ab) c lc) bc

    -- never both ways
    pub one_way : (a b : ℕ) → a < 32 → b < 32 → precedes (order r p) a b ≡ true → precedes (order r p) b a ≡ false
    one_way a b la lb ab = fails (precedes (order r p) b a) (λ ba. clash (through a b a la lb la ab ba) (never-itself a la))

    -- the order lies in the choice: what is preceded, and what precedes
    pub after-chosen : (a b : ℕ) → a < 32 → b < 32 → precedes (order r p) a b ≡ true → has b (choice r p.types) ≡ true
    unfolding rows_in_choice precedes
    after-chosen a b la lb ab =
        within-below (get_or (order r p) a 0) (choice r p.types)
        (every-at 32 (λ t. within (get_or (order r p) t 0) (choice r p.types))
        (and_left (rows_in_choice (choice r p.types) (order r p)) (empty_outside (choice r p.types) (order r p)) (and_left _ (irreflexive (order r p)) rows-three)) a la) b lb ab

    pub before-chosen : (a b : ℕ) → a < 32 → b < 32 → precedes (order r p) a b ≡ true → has a (choice r p.types) ≡ true
    unfolding empty_outside precedes
    before-chosen a b la lb ab =
        ⊎_elim (λ e. e)
        (λ e. absurd (clash ab (ap (has b) (eqb-true (get_or (order r p) a 0) 0 e) ∙ has-empty b)))
        (or_cases (has a (choice r p.types)) (eqb (get_or (order r p) a 0) 0)
        (every-at 32 (λ t. has t (choice r p.types) || eqb (get_or (order r p) t 0) 0)
        (and_right (rows_in_choice (choice r p.types) (order r p)) (empty_outside (choice r p.types) (order r p)) (and_left _ (irreflexive (order r p)) rows-three)) a la))

  -- ---- the reversible types in the two orders

  -- a stands before b in the source order, and behind it in the target order
  abbrev pub Opposed : ℕ → ℕ → Type 0
  Opposed a b = (precedes (order Source p) a b ≡ true) × (precedes (order Source p) b a ≡ false)
      × (precedes (order Target p) b a ≡ true) × (precedes (order Target p) a b ≡ false)

  opposed-from : (a b : ℕ) → a < 32 → b < 32 → two_of p.types.reversible a b ≡ true → precedes (order Source p) a b ≡ true → Opposed a b
  unfolding target_sound reversible_opposed
  opposed-from a b la lb two ab =
      let test : ℕ → ℕ → Bool = λ a b. implies (two_of p.types.reversible a b) (same (precedes (order Source p) a b) (precedes (order Target p) b a)) in
      let turned : precedes (order Target p) b a ≡ true =
      same_true (precedes (order Source p) a b) (precedes (order Target p) b a)
      (imp-at (two_of p.types.reversible a b) (same (precedes (order Source p) a b) (precedes (order Target p) b a))
      (every-at 32 (test a) (every-at 32 (λ a. every 32 (test a))
      (and_right (order_sound (choice Target p.types) (order Target p)) (reversible_opposed p.types.reversible (order Source p) (order Target p)) target-kept) a la) b lb) two) ab in
      (ab, one_way Source a b la lb ab, turned, one_way Target b a lb la turned)

  -- any two reversible types are ordered one way in the source order and the other way in the target order
  pub reversible-opposed : (a b : ℕ) → a < 32 → b < 32 → has a p.types.reversible ≡ true → has b p.types.reversible ≡ true → ¬ (a ≡ b)
      → Opposed a b ⊎ Opposed b a
  unfolding source_sound reversible_ordered two_of
  reversible-opposed a b la lb ra rb ne =
      let test : ℕ → ℕ → Bool = λ a b. implies (two_of p.types.reversible a b) (precedes (order Source p) a b || precedes (order Source p) b a) in
      let two : two_of p.types.reversible a b ≡ true = and-make (and-make ra rb) (not_of_false (ne_eqb a b ne)) in
      let owt : two_of p.types.reversible b a ≡ true = and-make (and-make rb ra) (not_of_false (ne_eqb b a (λ e. ne (sym e)))) in
      ⊎_elim (λ ab. inl (opposed-from a b la lb two ab)) (λ ba. inr (opposed-from b a lb la owt ba))
      (or_cases (precedes (order Source p) a b) (precedes (order Source p) b a)
      (imp-at (two_of p.types.reversible a b) (precedes (order Source p) a b || precedes (order Source p) b a)
      (every-at 32 (test a) (every-at 32 (λ a. every 32 (test a))
      (and_right (order_sound (choice Source p.types) (order Source p)) (reversible_ordered p.types.reversible (order Source p)) source-kept) a la) b lb) two))

  -- ---- the subscribers (manual 3.5)

  module _ (i : ℕ) (h : i < p.count) where
    -- a subscriber's sets lie in the choices
    pub subscribed-chosen : (r : Region) (t : ℕ) → t < 32 → has t (subscribed r (at p.subscribers i)) ≡ true → has t (choice r p.types) ≡ true
    unfolding sets_in_choices
    subscribed-chosen Source t l e =
        within-below (at p.subscribers i).source (choice Source p.types)
        (and_left (within (at p.subscribers i).source (choice Source p.types)) (within (at p.subscribers i).target (choice Target p.types))
        (own-sets p.types (at p.subscribers i) (own_at p.types p.subscribers p.count subscribers-kept i h))) t l e
    subscribed-chosen Target t l e =
        within-below (at p.subscribers i).target (choice Target p.types)
        (and_right (within (at p.subscribers i).source (choice Source p.types)) (within (at p.subscribers i).target (choice Target p.types))
        (own-sets p.types (at p.subscribers i) (own_at p.types p.subscribers p.count subscribers-kept i h))) t l e

    -- a reversible type is in both sets or in neither
    pub reversible-twice : (t : ℕ) → t < 32 → has t p.types.reversible ≡ true
        → has t (subscribed Source (at p.subscribers i)) ≡ has t (subscribed Target (at p.subscribers i))
    unfolding reversible_twice
    reversible-twice t l e =
        same-is (has t (at p.subscribers i).source) (has t (at p.subscribers i).target)
        (imp-at (has t p.types.reversible) (same (has t (at p.subscribers i).source) (has t (at p.subscribers i).target))
        (every-at 32 (λ u. implies (has u p.types.reversible) (same (has u (at p.subscribers i).source) (has u (at p.subscribers i).target)))
        (own-reversible p.types (at p.subscribers i) (own_at p.types p.subscribers p.count subscribers-kept i h)) t l) e)

    -- its address is one that somebody can have: legal, and not 0
    pub address-given : given (at p.subscribers i).address ≡ true
    unfolding address_given
    address-given = own-address p.types (at p.subscribers i) (own_at p.types p.subscribers p.count subscribers-kept i h)

  -- addresses strictly ascend
  pub addresses-ascend : (i j : ℕ) → i < j → j < p.count → (at p.subscribers i).address < (at p.subscribers j).address
  addresses-ascend = ascending p.types p.subscribers p.count subscribers-kept

  -- and so are distinct
  pub addresses-distinct : (i j : ℕ) → i < p.count → j < p.count → (at p.subscribers i).address ≡ (at p.subscribers j).address → i ≡ j
  addresses-distinct i j hi hj e =
      let not-less : ¬ (i < j) = λ l. omega (arith, addresses-ascend i j l hj) in
      let not_more : ¬ (j < i) = λ l. omega (arith, addresses-ascend j i l hi) in
      omega arith

  -- ---- the look-up of a sound plan

  pub used_all : used p ≡ p.count
  unfolding used
  used_all = omega (arith, few)

  -- a subscriber's address is found at its place
  pub found-own : (i : ℕ) → i < p.count → lookup p (at p.subscribers i).address ≡ Some i
  found-own i h =
      lookup-at p (at p.subscribers i).address (address-given i h) i (rw used_all h)
      (λ k l. ne_eqb (at p.subscribers k).address (at p.subscribers i).address (λ e. omega (arith, addresses-ascend k i l h)))
      (eq-eqb (at p.subscribers i).address (at p.subscribers i).address refl)
