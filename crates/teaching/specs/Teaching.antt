-- The teaching plan of document 01. Assumes nothing.
use Rattle.std.specs.Prelude.{ℕ, List, [], ◌∷◌, replicate}
use Rattle.plan.specs.declared.Types.{Types}
use Rattle.plan.specs.declared.Subscriber.{Subscriber}
use Rattle.plan.specs.declared.Plan.{Plan}

-- a subscriber with its four places for box numbers, of which count are in use; and a place that is not in use
unfoldable pub subscriber : ℕ → ℕ → ℕ → ℕ → List ℕ → ℕ → Subscriber
subscriber kind address source target boxes count =
    record { kind = kind; address = address; source = source; target = target; boxes = boxes; count = count }

unfoldable pub unused : Subscriber
unused = subscriber 0 0 0 0 (0 ∷ 0 ∷ 0 ∷ 0 ∷ []) 0

-- types 1 to 5: 2 and 4 bound and reversible, the others free; source choice {1, 2, 4}, target choice {2, 3, 4, 5}
unfoldable pub types : Types
types = record { existing = 0b111110; bound = 0b10100; reversible = 0b10100; source_choice = 0b10110; target_choice = 0b111100 }

-- source order: 1 before 2 and 4; 2 before 4
unfoldable pub source_rows : List ℕ
source_rows = 0 ∷ 0b10100 ∷ 0b10000 ∷ replicate 29 0

-- target order: 5 before 4 and 2; 4 before 2
unfoldable pub target_rows : List ℕ
target_rows = 0 ∷ 0 ∷ 0 ∷ 0 ∷ 0b100 ∷ 0b10100 ∷ replicate 26 0

-- 200 line, box 7, source {1, 2, 4}, target {2, 4}; 300 line, box 8, source {2, 4}, target {2, 3, 4, 5}; 555 trunk, boxes 40 and 41;
-- 556 trunk, none; 700 mobile, source {1}, target {3}; 900 resource, box 60
unfoldable pub subscribers : List Subscriber
subscribers =
    subscriber 1 200 0b10110 0b10100 (7 ∷ 0 ∷ 0 ∷ 0 ∷ []) 1
    ∷ subscriber 1 300 0b10100 0b111100 (8 ∷ 0 ∷ 0 ∷ 0 ∷ []) 1
    ∷ subscriber 2 555 0 0 (40 ∷ 41 ∷ 0 ∷ 0 ∷ []) 2
    ∷ subscriber 2 556 0 0 (0 ∷ 0 ∷ 0 ∷ 0 ∷ []) 0
    ∷ subscriber 4 700 0b10 0b1000 (0 ∷ 0 ∷ 0 ∷ 0 ∷ []) 0
    ∷ subscriber 3 900 0 0 (60 ∷ 0 ∷ 0 ∷ 0 ∷ []) 1
    ∷ replicate 250 unused

unfoldable pub teaching : Plan
teaching =
    record { types = types; source_order = source_rows; target_order = target_rows; subscribers = subscribers; count = 6 }
