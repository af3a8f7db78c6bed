-- What each operation over a plan file answers, and what it leaves in lent memory. Assumes nothing.
use Rattle.std.specs.Prelude.{ℕ, List, length, Result}
use Rattle.refusal.specs.declared.Refusal.{Refusal}
use Rattle.refusal.specs.Numbers.{◌>>=◌}
use Rattle.zone.specs.Order.{held}
use Rattle.zone.specs.Answer.{zone_at}
use Rattle.planread.specs.Reading.{read_of}
use Rattle.planwrite.specs.Writing.{written, room_after}
use Rattle.setup.specs.declared.Setup.{Setup}
use Rattle.making.specs.declared.Maker.{Maker}
use Rattle.making.specs.Making.{new_answer, continued_answer, reversed_answer}
use Rattle.setupbytes.specs.Codec.{setup_bytes}
use Rattle.answers.specs.declared.Answer.{Answer}
use Rattle.answers.specs.Said.{accepted}
use Rattle.dfc.specs.Said.{answer_over, lent_over, region_of}

-- ---- the file itself

unfoldable pub checked : List ℕ → Answer
checked file = answer_over (read_of file) (λ p. accepted 0)

-- the plan written again: how many bytes, or the writer's refusal
abbrev pub written_said : Result ℕ Refusal → Answer
written_said w = answer_over w accepted

unfoldable pub rewritten : List ℕ → List ℕ → Answer
rewritten file room = written_said (read_of file >>= λ p. written p room)

unfoldable pub room_rewritten : List ℕ → List ℕ → List ℕ
room_rewritten file room = lent_over (read_of file) (λ p. room_after p room) room

-- ---- zones

-- how many types the zone has; its 32 places
unfoldable pub zoned : List ℕ → ℕ → ℕ → Answer
zoned file region address = answer_over (read_of file) (λ p. accepted (length (zone_at p (region_of region) address)))

unfoldable pub types_zoned : List ℕ → ℕ → ℕ → List ℕ → List ℕ
types_zoned file region address types = lent_over (read_of file) (λ p. (held (zone_at p (region_of region) address)).types) types

-- ---- setups

-- a setup made: its 110 bytes in the room that was lent, and their number; a refusal leaves the room as it was
abbrev pub made_said : Result Setup Refusal → Answer
made_said m = answer_over m (λ s. accepted 110)

abbrev pub made_room : Result Setup Refusal → List ℕ → List ℕ
made_room m room = lent_over m setup_bytes room

-- what is made over a file: the file's refusal comes first
unfoldable pub new_over : List ℕ → Maker → List ℕ → ℕ → Result Setup Refusal
new_over file m string target = read_of file >>= λ p. new_answer p m string target

unfoldable pub continued_over : List ℕ → Maker → Setup → ℕ → List ℕ → ℕ → Result Setup Refusal
continued_over file m s source string target = read_of file >>= λ p. continued_answer p m s source string target

unfoldable pub reversed_over : List ℕ → Maker → Setup → ℕ → List ℕ → ℕ → Result Setup Refusal
reversed_over file m s source string target = read_of file >>= λ p. reversed_answer p m s source string target
