-- What the types of its fields say of a plan in memory: each number fits its field, and each array has its length. Every plan that a program holds has it: `planback::held`
-- is proved to leave it of any plan that it is given. What `read` accepts has it too. In the laws it is a hypothesis, since a number of the logic has no width.
-- Assumes nothing.
use Rattle.std.specs.Prelude.{◌≡◌, List, [], ◌∷◌, ◌^◌, ◌<◌, length}
use Rattle.plan.specs.declared.Subscriber.{Subscriber}
use Rattle.plan.specs.declared.Plan.{Plan}
use Rattle.planbytes.specs.Numbers.{Below}
use Rattle.planbytes.specs.Format.{sets_of, fixed_of}

pub record TypedSubscriber (s : Subscriber) : Type 0 where
  pub kind_fits : s.kind < 2 ^ 8
  pub fixed_fit : Below (2 ^ 32) (fixed_of s)
  pub boxes_fit : Below (2 ^ 16) s.boxes
  pub four_boxes : length s.boxes ≡ 4

unfoldable pub AllTyped : List Subscriber → Type 0
AllTyped [] = Unit
AllTyped (s ∷ ss) = TypedSubscriber s × AllTyped ss

pub record Typed (p : Plan) : Type 0 where
  pub sets_fit : Below (2 ^ 32) (sets_of p.types)
  pub source_fits : Below (2 ^ 32) p.source_order
  pub source_rows : length p.source_order ≡ 32
  pub target_fits : Below (2 ^ 32) p.target_order
  pub target_rows : length p.target_order ≡ 32
  pub each_fits : AllTyped p.subscribers
  pub places : length p.subscribers ≡ 256
