-- What comes of a plan that is written and read again: the plan, or the writer's refusal; and of a file that is read and written again. Assumes nothing.
use Rattle.std.specs.Prelude.{ℕ, List, Result, Ok, Err}
use Rattle.refusal.specs.Numbers.{◌>>=◌}
use Rattle.refusal.specs.declared.Refusal.{Refusal}
use Rattle.plan.specs.declared.Plan.{Plan}
use Rattle.planwrite.specs.Writing.{written, room_after}

abbrev pub comes_back : Result ℕ Refusal → Plan → Result Plan Refusal
comes_back w p = w >>= λ n. Ok p

-- the reader's refusal, or what the writer says of the plan
unfoldable pub rewrites : Result Plan Refusal → List ℕ → Result ℕ Refusal
rewrites r room = r >>= λ p. written p room

-- the room afterwards: as the writer leaves it; as it was beside a refusal
abbrev pub room_rewritten : Result Plan Refusal → List ℕ → List ℕ
room_rewritten (Ok p) room = room_after p room
room_rewritten (Err r) room = room
