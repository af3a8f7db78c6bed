-- What each operation over a plan file answers, and what it leaves in the lent index and in the room. A file that is no plan file has its own refusal first, and then nothing is changed. Assumes nothing.
use Rattle.std.specs.Prelude.{ℕ, Bool, cond, List, ◌++◌, eqb, ltb, length, drop, Result, Ok, Err, ⊤}
use Rattle.refusal.specs.declared.Refusal.TheVariants.{RoomTooShort}
use Rattle.plan.specs.declared.Plan.{Plan}
use Rattle.plan.specs.declared.Region.{Region}
use Rattle.plan.specs.declared.Region.TheVariants.{Source, Target}
use Rattle.planbytes.specs.Format.{bytes_of}
use Rattle.planread.specs.Reading.{read_of}
use Rattle.index.specs.Index.{index_of, row_or, looked_up}
use Rattle.index.specs.Said.{is_done, updated, plan_after, index_after}
use Rattle.answers.specs.declared.Answer.{Answer}
use Rattle.answers.specs.Said.{accepted, refusal}
use Rattle.dfc_index.specs.declared.Listed.{Listed}
use Rattle.refusal.specs.declared.Refusal.{Refusal}

-- the file's refusal, or the operation's answer over its plan; and what is lent is as it was where the file is refused
abbrev pub answer_over : Result Plan Refusal → (Plan → Answer) → Answer
answer_over (Ok p) f = f p
answer_over (Err r) f = refusal r

abbrev pub lent_over : {A : Type 0} → Result Plan Refusal → (Plan → A) → A → A
lent_over (Ok p) after before = after p
lent_over (Err r) after before = before

abbrev pub indexed_said : Result ⊤ Refusal → ℕ → Answer
indexed_said (Ok _) n = accepted n
indexed_said (Err r) n = refusal r

-- ---- building

unfoldable pub file_built : List ℕ → Answer
file_built file = answer_over (read_of file) (λ p. accepted 0)

unfoldable pub index_built : List ℕ → List (List ℕ) → List (List ℕ)
index_built file index = lent_over (read_of file) (λ p. index_of p) index

-- ---- looking up

-- 0 is the source region, any other number the target region
abbrev pub region_of : ℕ → Region
region_of n = cond (eqb n 0) Source Target

-- the row of the type, and how many places of it
unfoldable pub listed : List (List ℕ) → ℕ → ℕ → Listed
listed index region t =
    record {
      row = row_or (region_of region) t;
      count = length (looked_up index (region_of region) t);
    }

-- ---- a change of one subscriber's sets. The changed file is as long as the file. After the file's own refusals 25 where the room is shorter than that; then 45, 46, 47

abbrev pub short : List ℕ → List ℕ → Bool
short file room = ltb (length room) (length file)

unfoldable pub file_updated : List ℕ → List (List ℕ) → ℕ → ℕ → ℕ → List ℕ → Answer
file_updated file index a source target room =
    answer_over (read_of file) (λ p.
    cond (short file room) (refusal (RoomTooShort 0))
    (indexed_said (updated p a source target index) (length file)))

unfoldable pub index_updated : List ℕ → List (List ℕ) → ℕ → ℕ → ℕ → List ℕ → List (List ℕ)
index_updated file index a source target room =
    lent_over (read_of file) (λ p. cond (short file room) index (index_after p a source target index)) index

-- the file of the changed plan, and the bytes past it as they were
unfoldable pub room_updated : List ℕ → List (List ℕ) → ℕ → ℕ → ℕ → List ℕ → List ℕ
room_updated file index a source target room =
    lent_over (read_of file) (λ p.
    cond (short file room) room
    (cond (is_done (updated p a source target index)) (bytes_of (plan_after p a source target index) ++ drop (length file) room) room))
    room
