-- What was seen of a file is what its plan shows, and the plan is sound. Assumes nothing.
use Rattle.std.specs.Prelude.{List, ℕ, Result, Ok, Err, IfOk, ◌≡◌, true}
use Rattle.std.proofs.lemmas.Result.{IfOk-at_ok, IfErr-at_err}
use Rattle.std.proofs.Common.{refl, sym, ◌∙◌}
use Rattle.plan.specs.declared.Plan.{Plan}
use Rattle.plan.specs.declared.Seen.{Seen}
use Rattle.plan.specs.Find.{seen}
use Rattle.plan.specs.Sound.{sound}
use Rattle.planread.specs.Reading.{read_of}
use Rattle.planread.specs.Scanning.{scanned}
use Rattle.planread.specs.Scanning.{judged}
use Rattle.planwrite.specs.Writing.{room_after}
use Rattle.planback.specs.Back.{room_rewritten as roomAgain}
use Rattle.answers.specs.declared.Answer.{Answer}
use Rattle.dfc.specs.Said.{answer_over, lent_over}
use Rattle.refusal.specs.declared.Refusal.{Refusal}

-- the plan of a file that was accepted, and what is seen of it
pub record Shown (file : List ℕ) (first second : ℕ) (v : Seen) : Type 0 where
  pub plan : Plan
  pub is : read_of file ≡ Ok plan
  pub shows : seen plan first second ≡ v
  pub kept : sound plan ≡ true

pub shown : {file : List ℕ} {first second : ℕ} {z : Result Seen Refusal} (v : Seen) → z ≡ scanned first second (read_of file) → IfOk (read_of file) (λ p. sound p ≡ true) → z ≡ Ok v → Shown file first second v
unfolding scanned
shown {file} {first} {second} {z} v q kept e = by (read_of file) refl (sym q ∙ e) kept
  where
    by : (r : Result Plan Refusal) → read_of file ≡ r → scanned first second r ≡ Ok v → IfOk r (λ p. sound p ≡ true) → Shown file first second v
    by (Ok p) is w k = record { plan = p; is = is; shows = IfOk-at_ok (λ s. seen p first second ≡ s) w refl; kept = k }
    by (Err x) is w k = absurd (IfOk-at_ok (λ y. ⊥) w tt)

pub not_shown : (file : List ℕ) (first second : ℕ) {z : Result Seen Refusal} (x : Refusal) → z ≡ scanned first second (read_of file) → z ≡ Err x → read_of file ≡ Err x
unfolding scanned
not_shown file first second {z} x q e = by (read_of file) (sym q ∙ e)
  where
    by : (r : Result Plan Refusal) → scanned first second r ≡ Err x → r ≡ Err x
    by (Ok p) w = absurd (IfErr-at_err (λ y. ⊥) w tt)
    by (Err y) w = IfErr-at_err (λ z. ◌≡◌ {A = Result Plan Refusal} (Err y) (Err z)) w refl

-- a verdict tells of the file what reading it tells, and a file written again leaves the room as the writer does
pub judged-told : (r : Result Plan Refusal) (a : Answer) → answer_over (judged r) (λ k. a) ≡ answer_over r (λ p. a)
judged-told (Ok p) a = refl
judged-told (Err x) a = refl

pub room-over : (r : Result Plan Refusal) (room : List ℕ) → roomAgain r room ≡ lent_over r (λ p. room_after p room) room
room-over (Ok p) room = refl
room-over (Err x) room = refl
