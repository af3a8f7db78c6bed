-- The plan file: the bytes of a plan, field by field (document 01, 'File'). Assumes nothing.
use Rattle.std.specs.Prelude.{ℕ, List, [], ◌∷◌, ◌++◌, length, take}
use Rattle.plan.specs.declared.Types.{Types}
use Rattle.plan.specs.declared.Subscriber.{Subscriber}
use Rattle.plan.specs.declared.Plan.{Plan}
use Rattle.planbytes.specs.Numbers.{high, row}

-- F1: a tag of one byte, the body's length of two, the body
unfoldable pub field : ℕ → List ℕ → List ℕ
field tag body = high 1 tag ++ high 2 (length body) ++ body

-- F2: tag 1, value 1
unfoldable pub version_body : List ℕ
version_body = high 1 1

-- F3: tag 2, the five sets
abbrev pub sets_of : Types → List ℕ
sets_of t = t.existing ∷ t.bound ∷ t.reversible ∷ t.source_choice ∷ t.target_choice ∷ []

unfoldable pub types_body : Types → List ℕ
types_body t = row 4 (sets_of t)

-- F4: tags 3 and 4, the rows of an order
unfoldable pub order_body : List ℕ → List ℕ
order_body rows = row 4 rows

-- F5: tag 5, a subscriber: kind, address, source set, target set, box numbers
abbrev pub fixed_of : Subscriber → List ℕ
fixed_of s = s.address ∷ s.source ∷ s.target ∷ []

unfoldable pub subscriber_body : Subscriber → List ℕ
subscriber_body s = high 1 s.kind ++ row 4 (fixed_of s) ++ row 2 (take s.count s.boxes)

-- a field for each subscriber
unfoldable pub subscriber_fields : List Subscriber → List ℕ
subscriber_fields [] = []
subscriber_fields (s ∷ ss) = field 5 (subscriber_body s) ++ subscriber_fields ss

-- the four fields that every file begins with
unfoldable pub head_fields : Types → List ℕ → List ℕ → List ℕ
head_fields t source target = field 1 version_body ++ field 2 (types_body t) ++ field 3 (order_body source) ++ field 4 (order_body target)

-- F6: tag 127, no body
unfoldable pub end_field : List ℕ
end_field = field 127 []

-- the file
unfoldable pub bytes_of : Plan → List ℕ
bytes_of p =
    head_fields p.types p.source_order p.target_order ++ subscriber_fields (take p.count p.subscribers) ++ end_field
