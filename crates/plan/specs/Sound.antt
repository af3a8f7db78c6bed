-- A sound plan: one that keeps every rule. The rules are grouped by the last field of the plan file that they speak of. Assumes nothing.
use Rattle.std.specs.Prelude.{ℕ, Bool, true, false, ◌&&◌, List, [], ◌∷◌, leb, Result, Ok, Err, ⊤}
use Rattle.refusal.specs.declared.Refusal.TheVariants.{RuleBroken}
use Rattle.order.specs.Rules.{rows_in_choice, empty_outside, irreflexive, transitive, reversible_ordered, reversible_opposed, order_sound}
use Rattle.typeset.specs.Sets.{every}
use Rattle.plan.specs.declared.Region.TheVariants.{Source, Target}
use Rattle.plan.specs.declared.Types.{Types}
use Rattle.plan.specs.declared.Subscriber.{Subscriber}
use Rattle.plan.specs.declared.Plan.{Plan}
use Rattle.plan.specs.Parts.{choice, order, at}
use Rattle.plan.specs.Rules.{types_exist, reversible_in_both, bound_in_both, kind_known, address_given, count_fits, numbers_given, sets_in_choices, reversible_twice, numbers_differ, boxes_blank, lines_apart, one_kind, ascends, rest_blank}
use Rattle.refusal.specs.declared.Refusal.{Refusal}

-- tag 2, the five sets: L1, L6, L7
unfoldable pub types_sound : Types → Bool
types_sound t = types_exist t && reversible_in_both t && bound_in_both t

-- tag 3, the source order: L2 to L5, L8
unfoldable pub source_sound : Types → List ℕ → Bool
source_sound t source = order_sound (choice Source t) source && reversible_ordered t.reversible source

-- tag 4, the target order: L2 to L5, L9
unfoldable pub target_sound : Types → List ℕ → List ℕ → Bool
target_sound t source target = order_sound (choice Target t) target && reversible_opposed t.reversible source target

-- the box numbers of a subscriber: L13, L16, and L20 of its own places
unfoldable pub boxes_sound : Subscriber → Bool
boxes_sound s = numbers_given s && numbers_differ s && boxes_blank s

-- tag 5, a subscriber by itself: L10 to L16, and L20 of its own places
unfoldable pub own_sound : Types → Subscriber → Bool
own_sound t s = kind_known s && address_given s && count_fits s && sets_in_choices t s && reversible_twice t s && boxes_sound s

-- the same for a reader that has put the zeros past its count there itself: L10 to L16
unfoldable pub listed_sound : Types → Subscriber → Bool
listed_sound t s = kind_known s && address_given s && count_fits s && sets_in_choices t s && reversible_twice t s && (numbers_given s && numbers_differ s)

-- tag 5, the subscriber at place i beside each one before it: L17, L18
unfoldable pub numbers_apart : List Subscriber → ℕ → Bool
numbers_apart subs i = every i (λ j. lines_apart (at subs j) (at subs i) && one_kind (at subs j) (at subs i))

-- tag 5, the subscriber at place i: L10 to L19, and L20 of its own places
unfoldable pub subscriber_sound : Types → List Subscriber → ℕ → Bool
subscriber_sound t subs i = own_sound t (at subs i) && ascends subs i && numbers_apart subs i

-- a rule of an order holds in both regions, with the region's choice
unfoldable pub in_both : Plan → (ℕ → List ℕ → Bool) → Bool
in_both p rule = rule (choice Source p.types) (order Source p) && rule (choice Target p.types) (order Target p)

-- a rule of a subscriber holds for each one in use; and a rule of two, for each one beside each before it
unfoldable pub each : Plan → (Subscriber → Bool) → Bool
each p rule = every p.count (λ i. rule (at p.subscribers i))

unfoldable pub each_two : Plan → (Subscriber → Subscriber → Bool) → Bool
each_two p rule = every p.count (λ i. every i (λ j. rule (at p.subscribers j) (at p.subscribers i)))

-- every rule, with at most 256 subscribers
unfoldable pub sound : Plan → Bool
sound p =
    leb p.count 256 && types_sound p.types && source_sound p.types (order Source p)
    && target_sound p.types (order Source p) (order Target p)
    && every p.count (subscriber_sound p.types p.subscribers) && rest_blank p.subscribers p.count

-- the rules of the whole plan one by one, L1 to L20: `sound` is all of them
unfoldable pub rules : Plan → List Bool
rules p =
    types_exist p.types
    ∷ in_both p rows_in_choice
    ∷ in_both p empty_outside
    ∷ in_both p (λ chosen. irreflexive)
    ∷ in_both p (λ chosen. transitive)
    ∷ reversible_in_both p.types
    ∷ bound_in_both p.types
    ∷ reversible_ordered p.types.reversible (order Source p)
    ∷ reversible_opposed p.types.reversible (order Source p) (order Target p)
    ∷ each p kind_known
    ∷ each p address_given
    ∷ each p count_fits
    ∷ each p numbers_given
    ∷ each p (sets_in_choices p.types)
    ∷ each p (reversible_twice p.types)
    ∷ each p numbers_differ
    ∷ each_two p lines_apart
    ∷ each_two p one_kind
    ∷ every p.count (ascends p.subscribers)
    ∷ (each p boxes_blank && rest_blank p.subscribers p.count)
    ∷ []

-- all of some tests pass
unfoldable pub all_of : List Bool → Bool
all_of [] = true
all_of (b ∷ bs) = b && all_of bs

-- what a test of the plan answers: sound, or 23 at place 0
abbrev pub verdict_of : Bool → Result ⊤ Refusal
verdict_of true = Ok tt
verdict_of false = Err (RuleBroken 0)

unfoldable pub verdict : Plan → Result ⊤ Refusal
verdict p = verdict_of (sound p)
