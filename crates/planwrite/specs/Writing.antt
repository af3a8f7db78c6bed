-- What writing a plan answers, and what it leaves in the room (document 01, 'File', and the refusals 23 and 25). Assumes nothing.
use Rattle.std.specs.Prelude.{ℕ, Bool, true, false, List, ◌++◌, leb, length, drop, Result, Ok, Err}
use Rattle.refusal.specs.declared.Refusal.TheVariants.{RuleBroken, RoomTooShort}
use Rattle.plan.specs.declared.Plan.{Plan}
use Rattle.plan.specs.Sound.{sound}
use Rattle.planbytes.specs.Format.{bytes_of}
use Rattle.refusal.specs.declared.Refusal.{Refusal}

-- by whether the plan is sound, and whether its n bytes fit in: 23, then 25, both at place 0; else the number of bytes
abbrev pub answer_of : Bool → Bool → ℕ → Result ℕ Refusal
answer_of false fits n = Err (RuleBroken 0)
answer_of true false n = Err (RoomTooShort 0)
answer_of true true n = Ok n

-- the room afterwards: the file, and the bytes past it as they were; on a refusal all as it was
abbrev pub room_of : Bool → Bool → List ℕ → List ℕ → List ℕ
room_of false fits file room = room
room_of true false file room = room
room_of true true file room = file ++ drop (length file) room

-- by the verdict on the plan: whether it is sound
unfoldable pub written_by : Bool → Plan → List ℕ → Result ℕ Refusal
written_by kept p room = answer_of kept (leb (length (bytes_of p)) (length room)) (length (bytes_of p))

unfoldable pub room_after_by : Bool → Plan → List ℕ → List ℕ
room_after_by kept p room = room_of kept (leb (length (bytes_of p)) (length room)) (bytes_of p) room

abbrev pub written : Plan → List ℕ → Result ℕ Refusal
written p room = written_by (sound p) p room

abbrev pub room_after : Plan → List ℕ → List ℕ
room_after p room = room_after_by (sound p) p room
