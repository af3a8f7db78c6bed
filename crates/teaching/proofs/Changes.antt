-- The teaching plan is sound; and for each rule there is a small change of it that breaks that rule and no other. Assumes nothing.
use Prim.Native.Nat.{ℕ, suc}
use mathlib.Core.Path.{◌≡◌, refl, sym, ap, ◌∙◌}
use mathlib.Core.Bool.{Bool, true, false, ◌&&◌}
use mathlib.Core.List.{List, [], ◌∷◌, map}
use lib.Dec.{leb}
use lib.ListN.{set}
use Rattle.typeset.specs.Sets.{has, every, some, set_of, within, meet}
use Rattle.plan.specs.declared.Types.{Types}
use Rattle.plan.specs.declared.Subscriber.{Subscriber}
use Rattle.plan.specs.declared.Plan.{Plan}
use Rattle.order.specs.Rules.{precedes, rows_in_choice, empty_outside, irreflexive, transitive, two_of, reversible_ordered, reversible_opposed}
use Rattle.plan.specs.Parts.{legal, given, box_number}
use Rattle.plan.specs.Rules.{types_exist, reversible_in_both, bound_in_both, kind_known, address_given, count_fits, numbers_given, sets_in_choices, reversible_twice, numbers_differ, boxes_blank, holds, shares, lines_apart, one_kind, ascends, blank, rest_blank}
use Rattle.plan.specs.Sound.{in_both, each, each_two, sound, rules, all_of}
use Rattle.plan.proofs.AllRules.{sound-is-all-rules}
use Rattle.teaching.specs.Teaching.{subscriber, unused, types, source_rows, target_rows, subscribers, teaching}

-- the numbers, from n on, of the rules that fail
unfoldable pub failing : ℕ → List Bool → List ℕ
failing n [] = []
failing n (true ∷ rs) = failing (suc n) rs
failing n (false ∷ rs) = n ∷ failing (suc n) rs

-- the numbers of the rules that a plan breaks
unfoldable pub broken : Plan → List ℕ
broken p = failing 1 (rules p)

-- ---- changes of the teaching plan

unfoldable pub with_types : Types → Plan
with_types t = record { types = t; source_order = source_rows; target_order = target_rows; subscribers = subscribers; count = 6 }

unfoldable pub with_orders : List ℕ → List ℕ → Plan
with_orders source target = record { types = types; source_order = source; target_order = target; subscribers = subscribers; count = 6 }

-- another subscriber at place i
unfoldable pub with_subscriber : ℕ → Subscriber → Plan
with_subscriber i s =
    record { types = types; source_order = source_rows; target_order = target_rows; subscribers = set subscribers i s; count = 6 }

-- a plan, and the rules that it breaks
pub record Change : Type 0 where
  pub breaks : List ℕ
  pub plan : Plan

unfoldable pub change : List ℕ → Plan → Change
change rs p = record { breaks = rs; plan = p }

unfoldable pub changes : List Change
changes =
    -- the type 3 does not exist
    change (1 ∷ []) (with_types (record { existing = 0b110110; bound = 0b10100; reversible = 0b10100; source_choice = 0b10110; target_choice = 0b111100 }))
    -- 1 before 3, which is not in the source choice
    ∷ change (2 ∷ []) (with_orders (set source_rows 1 0b11100) target_rows)
    -- 3 before 4 in the source order
    ∷ change (3 ∷ []) (with_orders (set source_rows 3 0b10000) target_rows)
    -- 1 before 1
    ∷ change (4 ∷ []) (with_orders (set source_rows 1 0b10110) target_rows)
    -- 1 before 2 and 2 before 4, and 1 not before 4
    ∷ change (5 ∷ []) (with_orders (set source_rows 1 0b100) target_rows)
    -- the same in the target order: 5 before 4 and 4 before 2, and 5 not before 2
    ∷ change (5 ∷ []) (with_orders source_rows (set target_rows 5 0b10000))
    -- nothing is bound, and only the type 0 reversible, which is in no choice
    ∷ change (6 ∷ []) (with_types (record { existing = 0b111111; bound = 0; reversible = 0b1; source_choice = 0b10110; target_choice = 0b111100 }))
    -- 4 is bound and not reversible
    ∷ change (7 ∷ []) (with_types (record { existing = 0b111110; bound = 0b10100; reversible = 0b100; source_choice = 0b10110; target_choice = 0b111100 }))
    -- 2 and 4 not ordered at all
    ∷ change (8 ∷ []) (with_orders (set source_rows 2 0) (set target_rows 4 0))
    -- 2 before 4 in both orders
    ∷ change (9 ∷ []) (with_orders source_rows (set (set target_rows 4 0) 2 0b10000))
    -- a kind 5
    ∷ change (10 ∷ []) (with_subscriber 3 (subscriber 5 556 0 0 (0 ∷ 0 ∷ 0 ∷ 0 ∷ []) 0))
    -- an address of ten digits; the address 0
    ∷ change (11 ∷ []) (with_subscriber 5 (subscriber 3 1000000000 0 0 (60 ∷ 0 ∷ 0 ∷ 0 ∷ []) 1))
    ∷ change (11 ∷ []) (with_subscriber 0 (subscriber 1 0 0b10110 0b10100 (7 ∷ 0 ∷ 0 ∷ 0 ∷ []) 1))
    -- a line with two boxes, a trunk with five, a resource with none, a mobile with one
    ∷ change (12 ∷ []) (with_subscriber 0 (subscriber 1 200 0b10110 0b10100 (7 ∷ 9 ∷ 0 ∷ 0 ∷ []) 2))
    ∷ change (12 ∷ []) (with_subscriber 2 (subscriber 2 555 0 0 (40 ∷ 41 ∷ 42 ∷ 43 ∷ []) 5))
    ∷ change (12 ∷ []) (with_subscriber 5 (subscriber 3 900 0 0 (0 ∷ 0 ∷ 0 ∷ 0 ∷ []) 0))
    ∷ change (12 ∷ []) (with_subscriber 4 (subscriber 4 700 0b10 0b1000 (9 ∷ 0 ∷ 0 ∷ 0 ∷ []) 1))
    -- a box number 0
    ∷ change (13 ∷ []) (with_subscriber 0 (subscriber 1 200 0b10110 0b10100 (0 ∷ 0 ∷ 0 ∷ 0 ∷ []) 1))
    -- 3 in a source set
    ∷ change (14 ∷ []) (with_subscriber 4 (subscriber 4 700 0b1010 0b1000 (0 ∷ 0 ∷ 0 ∷ 0 ∷ []) 0))
    -- 4 in the source set alone
    ∷ change (15 ∷ []) (with_subscriber 0 (subscriber 1 200 0b10110 0b100 (7 ∷ 0 ∷ 0 ∷ 0 ∷ []) 1))
    -- the number 40 twice
    ∷ change (16 ∷ []) (with_subscriber 2 (subscriber 2 555 0 0 (40 ∷ 40 ∷ 0 ∷ 0 ∷ []) 2))
    -- two lines with the number 7
    ∷ change (17 ∷ []) (with_subscriber 1 (subscriber 1 300 0b10100 0b111100 (7 ∷ 0 ∷ 0 ∷ 0 ∷ []) 1))
    -- a trunk and a resource with the number 40
    ∷ change (18 ∷ []) (with_subscriber 5 (subscriber 3 900 0 0 (40 ∷ 0 ∷ 0 ∷ 0 ∷ []) 1))
    -- the address 555 twice
    ∷ change (19 ∷ []) (with_subscriber 3 (subscriber 2 555 0 0 (0 ∷ 0 ∷ 0 ∷ 0 ∷ []) 0))
    -- a box number past the count; a subscriber past the count
    ∷ change (20 ∷ []) (with_subscriber 3 (subscriber 2 556 0 0 (9 ∷ 0 ∷ 0 ∷ 0 ∷ []) 0))
    ∷ change (20 ∷ []) (with_subscriber 6 (subscriber 4 901 0 0 (0 ∷ 0 ∷ 0 ∷ 0 ∷ []) 0))
    -- two trunks may share a number
    ∷ change [] (with_subscriber 3 (subscriber 2 556 0 0 (40 ∷ 0 ∷ 0 ∷ 0 ∷ []) 1))
    ∷ []

-- The table: each change breaks the rule beside it and no other.
pub one-rule-each : map (λ (c : Change). broken c.plan) changes ≡ map (λ (c : Change). c.breaks) changes
unfolding changes change with_types with_orders with_subscriber failing broken rules in_both each each_two types source_rows target_rows subscribers subscriber unused has every some set_of within meet precedes legal given types_exist reversible_in_both bound_in_both rows_in_choice empty_outside irreflexive transitive two_of reversible_ordered reversible_opposed kind_known address_given count_fits numbers_given sets_in_choices reversible_twice numbers_differ boxes_blank box_number holds shares lines_apart one_kind ascends blank rest_blank
one-rule-each = refl

-- the teaching plan breaks no rule: it is sound
pub teaching-breaks-none : broken teaching ≡ []
unfolding teaching failing broken rules in_both each each_two types source_rows target_rows subscribers subscriber unused has every some set_of within meet precedes legal given types_exist reversible_in_both bound_in_both rows_in_choice empty_outside irreflexive transitive two_of reversible_ordered reversible_opposed kind_known address_given count_fits numbers_given sets_in_choices reversible_twice numbers_differ boxes_blank box_number holds shares lines_apart one_kind ascends blank rest_blank
teaching-breaks-none = refl

-- A plan with at most 256 subscribers is sound exactly when it breaks no rule.
unfoldable pub none : List ℕ → Bool
none [] = true
none (r ∷ rs) = false

none-failing : (n : ℕ) (rs : List Bool) → none (failing n rs) ≡ all_of rs
unfolding none failing all_of
none-failing n [] = refl
none-failing n (true ∷ rs) = none-failing (suc n) rs
none-failing n (false ∷ rs) = refl

pub sound-breaks-none : (p : Plan) → sound p ≡ (leb p.count 256 && none (broken p))
unfolding broken
sound-breaks-none p = sound-is-all-rules p ∙ ap (λ (b : Bool). leb p.count 256 && b) (sym (none-failing 1 (rules p)))

pub teaching-sound : sound teaching ≡ true
unfolding none teaching
teaching-sound = sound-breaks-none teaching ∙ ap none teaching-breaks-none
