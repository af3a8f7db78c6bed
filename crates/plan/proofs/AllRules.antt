-- `sound`, which goes by the fields of the plan file, is the rules L1 to L20 and the limit of 256 subscribers, no more and no less. Assumes nothing.
use mathlib.Core.Path.{◌≡◌, refl}
use mathlib.Core.Bool.{Bool, true, ◌&&◌}
use mathlib.Core.List.{List, [], ◌∷◌}
use Prim.Native.Nat.{ℕ, ◌<◌}
use lib.Dec.{leb}
use borrow.Author.Tests.{le-leb}
use Rattle.typeset.specs.Sets.{every}
use Rattle.typeset.proofs.Bools.{both_ways, and_left, and_right, and-make}
use Rattle.typeset.proofs.Below.{every-at, every_of}
use Rattle.plan.specs.declared.Region.{Region}
use Rattle.plan.specs.declared.Region.TheVariants.{Source, Target}
use Rattle.plan.specs.declared.Subscriber.{Subscriber}
use Rattle.plan.specs.declared.Plan.{Plan}
use Rattle.order.specs.Rules.{rows_in_choice, empty_outside, irreflexive, transitive, order_sound}
use Rattle.plan.specs.Parts.{choice, order, at}
use Rattle.plan.specs.Rules.{types_exist, reversible_in_both, bound_in_both, kind_known, address_given, count_fits, numbers_given, sets_in_choices, reversible_twice, numbers_differ, boxes_blank, lines_apart, one_kind, ascends, rest_blank}
use Rattle.plan.specs.Sound.{types_sound, source_sound, target_sound, boxes_sound, own_sound, numbers_apart, subscriber_sound, in_both, each, each_two, sound, rules, all_of}
use Rattle.plan.proofs.Subscribers.{own_at, ascends-at, apart-at, own-kind, own-address, own-count, own-sets, own-reversible, own-boxes}
use Rattle.plan.proofs.Laws.{types-kept, source-kept, target-kept, order-kept, subscribers-kept, rest-kept, few}

-- the first of some tests, and the others
first : (b : Bool) (bs : List Bool) → all_of (b ∷ bs) ≡ true → b ≡ true
unfolding all_of
first b bs e = and_left b (all_of bs) e

others : (b : Bool) (bs : List Bool) → all_of (b ∷ bs) ≡ true → all_of bs ≡ true
unfolding all_of
others b bs e = and_right b (all_of bs) e

none : all_of [] ≡ true
unfolding all_of
none = refl

more : (b : Bool) (bs : List Bool) → b ≡ true → all_of bs ≡ true → all_of (b ∷ bs) ≡ true
unfolding all_of
more b bs p q = and-make p q

-- three, and four, tests in a row
one_of_three : (a b c : Bool) → (a && b && c) ≡ true → a ≡ true
one_of_three a b c e = and_left a b (and_left (a && b) c e)

two-of-three : (a b c : Bool) → (a && b && c) ≡ true → b ≡ true
two-of-three a b c e = and_right a b (and_left (a && b) c e)

three-of-three : (a b c : Bool) → (a && b && c) ≡ true → c ≡ true
three-of-three a b c e = and_right (a && b) c e

module _ (p : Plan) where
  -- ---- from the groups to the rules
  module _ (𝓢 : sound p ≡ true) where
    both_hold : (rule : ℕ → List ℕ → Bool) → ((r : Region) → rule (choice r p.types) (order r p) ≡ true) → in_both p rule ≡ true
    unfolding in_both
    both_hold rule f = and-make (f Source) (f Target)

    of-each : (rule : Subscriber → Bool) → ((s : Subscriber) → own_sound p.types s ≡ true → rule s ≡ true) → each p rule ≡ true
    unfolding each
    of-each rule f = every_of p.count (λ i. rule (at p.subscribers i))
        (λ i h. f (at p.subscribers i) (own_at p.types p.subscribers p.count (subscribers-kept p 𝓢) i h))

    of_two : (rule : Subscriber → Subscriber → Bool) → ((a b : Subscriber) → (lines_apart a b && one_kind a b) ≡ true → rule a b ≡ true) → each_two p rule ≡ true
    unfolding each_two numbers_apart
    of_two rule f = every_of p.count (λ i. every i (λ j. rule (at p.subscribers j) (at p.subscribers i)))
        (λ i h. every_of i (λ j. rule (at p.subscribers j) (at p.subscribers i))
        (λ j l. f (at p.subscribers j) (at p.subscribers i)
        (every-at i (λ j. lines_apart (at p.subscribers j) (at p.subscribers i) && one_kind (at p.subscribers j) (at p.subscribers i))
        (apart-at p.types p.subscribers p.count (subscribers-kept p 𝓢) i h) j l)))

    boxes-of : (s : Subscriber) → own_sound p.types s ≡ true → (numbers_given s && numbers_differ s && boxes_blank s) ≡ true
    unfolding boxes_sound
    boxes-of s e = own-boxes p.types s e

    pub rules-kept : all_of (rules p) ≡ true
    unfolding rules types_sound order_sound source_sound target_sound sound
    rules-kept =
        more _ _ (one_of_three _ (reversible_in_both p.types) (bound_in_both p.types) (types-kept p 𝓢))
        (more _ _ (both_hold rows_in_choice (λ r. one_of_three _ (empty_outside (choice r p.types) (order r p)) (irreflexive (order r p)) (and_left _ (transitive (order r p)) (order-kept p 𝓢 r))))
        (more _ _ (both_hold empty_outside (λ r. two-of-three (rows_in_choice (choice r p.types) (order r p)) _ (irreflexive (order r p)) (and_left _ (transitive (order r p)) (order-kept p 𝓢 r))))
        (more _ _ (both_hold (λ chosen. irreflexive) (λ r. three-of-three (rows_in_choice (choice r p.types) (order r p)) (empty_outside (choice r p.types) (order r p)) _ (and_left _ (transitive (order r p)) (order-kept p 𝓢 r))))
        (more _ _ (both_hold (λ chosen. transitive) (λ r. and_right (rows_in_choice (choice r p.types) (order r p) && empty_outside (choice r p.types) (order r p) && irreflexive (order r p)) _ (order-kept p 𝓢 r)))
        (more _ _ (two-of-three (types_exist p.types) _ (bound_in_both p.types) (types-kept p 𝓢))
        (more _ _ (three-of-three (types_exist p.types) (reversible_in_both p.types) _ (types-kept p 𝓢))
        (more _ _ (and_right (order_sound (choice Source p.types) (order Source p)) _ (source-kept p 𝓢))
        (more _ _ (and_right (order_sound (choice Target p.types) (order Target p)) _ (target-kept p 𝓢))
        (more _ _ (of-each kind_known (own-kind p.types))
        (more _ _ (of-each address_given (own-address p.types))
        (more _ _ (of-each count_fits (own-count p.types))
        (more _ _ (of-each numbers_given (λ s e. one_of_three _ (numbers_differ s) (boxes_blank s) (boxes-of s e)))
        (more _ _ (of-each (sets_in_choices p.types) (own-sets p.types))
        (more _ _ (of-each (reversible_twice p.types) (own-reversible p.types))
        (more _ _ (of-each numbers_differ (λ s e. two-of-three (numbers_given s) _ (boxes_blank s) (boxes-of s e)))
        (more _ _ (of_two lines_apart (λ a b e. and_left _ (one_kind a b) e))
        (more _ _ (of_two one_kind (λ a b e. and_right (lines_apart a b) _ e))
        (more _ _ (every_of p.count (ascends p.subscribers) (λ i h. ascends-at p.types p.subscribers p.count (subscribers-kept p 𝓢) i h))
        (more _ _ (and-make (of-each boxes_blank (λ s e. three-of-three (numbers_given s) (numbers_differ s) _ (boxes-of s e))) (rest-kept p 𝓢))
        none)))))))))))))))))))

  -- ---- and back

  in_both-at : (rule : ℕ → List ℕ → Bool) → in_both p rule ≡ true → (r : Region) → rule (choice r p.types) (order r p) ≡ true
  unfolding in_both
  in_both-at rule e Source = and_left _ (rule (choice Target p.types) (order Target p)) e
  in_both-at rule e Target = and_right (rule (choice Source p.types) (order Source p)) _ e

  each_at : (rule : Subscriber → Bool) → each p rule ≡ true → (i : ℕ) → i < p.count → rule (at p.subscribers i) ≡ true
  unfolding each
  each_at rule e i h = every-at p.count (λ i. rule (at p.subscribers i)) e i h

  each_two-at : (rule : Subscriber → Subscriber → Bool) → each_two p rule ≡ true → (i j : ℕ) → i < p.count → j < i
      → rule (at p.subscribers j) (at p.subscribers i) ≡ true
  unfolding each_two
  each_two-at rule e i j h l =
      every-at i (λ j. rule (at p.subscribers j) (at p.subscribers i))
      (every-at p.count (λ i. every i (λ j. rule (at p.subscribers j) (at p.subscribers i))) e i h) j l

  module _ (limit : leb p.count 256 ≡ true) (e1 : all_of (rules p) ≡ true) where
    pub groups-kept : sound p ≡ true
    unfolding rules sound types_sound order_sound source_sound target_sound subscriber_sound own_sound boxes_sound numbers_apart
    groups-kept =
        let e2 = others _ _ e1 in
        let e3 = others _ _ e2 in
        let e4 = others _ _ e3 in
        let e5 = others _ _ e4 in
        let e6 = others _ _ e5 in
        let e7 = others _ _ e6 in
        let e8 = others _ _ e7 in
        let e9 = others _ _ e8 in
        let e10 = others _ _ e9 in
        let e11 = others _ _ e10 in
        let e12 = others _ _ e11 in
        let e13 = others _ _ e12 in
        let e14 = others _ _ e13 in
        let e15 = others _ _ e14 in
        let e16 = others _ _ e15 in
        let e17 = others _ _ e16 in
        let e18 = others _ _ e17 in
        let e19 = others _ _ e18 in
        let e20 = others _ _ e19 in
        let l20 = first _ _ e20 in
        let order-rules : (r : Region) → order_sound (choice r p.types) (order r p) ≡ true = λ r.
        and-make (and-make (and-make (in_both-at rows_in_choice (first _ _ e2) r) (in_both-at empty_outside (first _ _ e3) r))
        (in_both-at (λ chosen. irreflexive) (first _ _ e4) r)) (in_both-at (λ chosen. transitive) (first _ _ e5) r) in
        and-make (and-make (and-make (and-make (and-make limit
        (and-make (and-make (first _ _ e1) (first _ _ e6)) (first _ _ e7)))
        (and-make (order-rules Source) (first _ _ e8)))
        (and-make (order-rules Target) (first _ _ e9)))
        (every_of p.count (subscriber_sound p.types p.subscribers) (λ i h.
        and-make (and-make
        (and-make (and-make (and-make (and-make (and-make
        (each_at kind_known (first _ _ e10) i h) (each_at address_given (first _ _ e11) i h)) (each_at count_fits (first _ _ e12) i h))
        (each_at (sets_in_choices p.types) (first _ _ e14) i h)) (each_at (reversible_twice p.types) (first _ _ e15) i h))
        (and-make (and-make (each_at numbers_given (first _ _ e13) i h) (each_at numbers_differ (first _ _ e16) i h))
        (each_at boxes_blank (and_left _ (rest_blank p.subscribers p.count) l20) i h)))
        (every-at p.count (ascends p.subscribers) (first _ _ e19) i h))
        (every_of i (λ j. lines_apart (at p.subscribers j) (at p.subscribers i) && one_kind (at p.subscribers j) (at p.subscribers i)) (λ j l.
        and-make (each_two-at lines_apart (first _ _ e17) i j h l) (each_two-at one_kind (first _ _ e18) i j h l))))))
        (and_right (each p boxes_blank) (rest_blank p.subscribers p.count) l20)

-- a plan is sound exactly when it has at most 256 subscribers and keeps L1 to L20
pub sound-is-all-rules : (p : Plan) → sound p ≡ (leb p.count 256 && all_of (rules p))
sound-is-all-rules p =
    both_ways (sound p) (leb p.count 256 && all_of (rules p))
    (λ 𝓢. and-make (le-leb p.count 256 (few p 𝓢)) (rules-kept p 𝓢))
    (λ e. groups-kept p (and_left (leb p.count 256) (all_of (rules p)) e) (and_right (leb p.count 256) (all_of (rules p)) e))
