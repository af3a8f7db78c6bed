-- Calls for a C program: what a placing is told by numbers, and what it answers and leaves in lent memory. (Commands by numbers are in recordbytes/specs/Numbers.) Assumes nothing.
use Rattle.std.specs.Prelude.{ℕ, List, [], ◌∷◌, Result, Ok, Err}
use Rattle.refusal.specs.declared.Refusal.{Refusal}
use Rattle.refusal.specs.Numbers.{◌>>=◌}
use Rattle.setup.specs.declared.Setup.{Setup}
use Rattle.planread.specs.Reading.{read_of}
use Rattle.setupbytes.specs.Codec.{setup_bytes}
use Rattle.routing.specs.Routing.{source_list_after, target_list_after}
use Rattle.call.specs.declared.Call.{Call}
use Rattle.placing.specs.declared.Placed.{Placed as Placing}
use Rattle.placing.specs.Rows.{outcome_in, turned, placed_in}
use Rattle.recordbytes.specs.Records.{call_at}
use Rattle.rowbytes.specs.Rows.{row_in, placed_by}
use Rattle.dfc.specs.declared.Routed.{Routed}
use Rattle.dfc.specs.declared.Placed.{Placed}
use Rattle.dfc.specs.Said.{lent_over}
use Rattle.dfc.specs.Routes.{routed_to, not_routed}

-- ---- a call placed, over a plan file

-- what routing says, and record and use number
abbrev pub placed_as : Routed → ℕ → ℕ → Placed
placed_as q r n = record { number = q.number; value = q.value; kind = q.kind; box_number = q.box_number; address = q.address; record_number = r; use_number = n }

abbrev pub placed_said : Result Placing Refusal → Placed
placed_said (Ok z) = placed_as (routed_to z.routed.callee z.routed.left) z.record_number z.use_number
placed_said (Err r) = placed_as (not_routed r) 0 0

-- the setup that the box receives, in the room that was lent
abbrev pub placed_room : Result Placing Refusal → List ℕ → List ℕ
placed_room z room = lent_over z (λ q. setup_bytes q.routed.setup) room

-- a call placed in these records over a file, for a setup and lists of n and m places: the file's refusal comes first
unfoldable pub place_over : List ℕ → Setup → List Call → ℕ → ℕ → Result Placing Refusal
place_over file s row n m = read_of file >>= λ p. placed_in row p s n m

-- the row's bytes, a port's bytes
unfoldable pub row_placed : List ℕ → Setup → List ℕ → ℕ → ℕ → List ℕ
row_placed file s b n m = lent_over (read_of file) (λ p. placed_by (turned (row_in b) (outcome_in (row_in b) p s n m)).reply b) b

unfoldable pub port_placed : List ℕ → Setup → List ℕ → ℕ → ℕ → List ℕ
port_placed file s b n m = lent_over (read_of file) (λ p. placed_by (turned (call_at b 0 ∷ []) (outcome_in (call_at b 0 ∷ []) p s n m)).reply b) b

-- the two lists
unfoldable pub source_placed : List ℕ → Setup → List Call → ℕ → ℕ → List ℕ → List ℕ
source_placed file s row n m l = lent_over (read_of file) (λ p. source_list_after p s (outcome_in row p s n m) l) l

unfoldable pub target_placed : List ℕ → Setup → List Call → ℕ → ℕ → List ℕ → List ℕ
target_placed file s row n m l = lent_over (read_of file) (λ p. target_list_after p s (outcome_in row p s n m) l) l
