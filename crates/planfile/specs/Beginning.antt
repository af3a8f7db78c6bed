-- How far some bytes are the beginning of a sound plan's file. Assumes nothing.
use Rattle.std.specs.Prelude.{◌≡◌, true, List, [], ◌∷◌, ◌++◌, map, ℕ, length, take}
use Rattle.plan.specs.declared.Plan.{Plan}
use Rattle.plan.specs.Sound.{sound}
use Rattle.planbytes.specs.Format.{field, version_body, types_body, order_body, subscriber_body, end_field}
use Rattle.planfile.specs.Typed.{Typed}

-- the fields of a plan's file, one by one
unfoldable pub fields_of : Plan → List (List ℕ)
fields_of p =
    field 1 version_body ∷ field 2 (types_body p.types) ∷ field 3 (order_body p.source_order) ∷ field 4 (order_body p.target_order)
    ∷ (map (λ s. field 5 (subscriber_body s)) (take p.count p.subscribers) ++ (end_field ∷ []))

-- fields one after the other
unfoldable pub joined : List (List ℕ) → List ℕ
joined [] = []
joined (f ∷ fs) = f ++ joined fs

-- up to a place, some bytes are the first fields of a sound plan's file, whole
pub record Follows (bytes : List ℕ) (place : ℕ) : Type 0 where
  pub plan : Plan
  pub plan_typed : Typed plan
  pub plan_sound : sound plan ≡ true
  pub fields : ℕ
  pub rest : List ℕ
  pub begins : bytes ≡ joined (take fields (fields_of plan)) ++ rest
  pub here : length (joined (take fields (fields_of plan))) ≡ place
