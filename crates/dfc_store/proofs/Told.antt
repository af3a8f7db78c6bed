-- Who a box is by what was seen of a plan file; what is told of a write and a delete, which answer no number. Assumes nothing.
use Rattle.std.specs.Prelude.{Result, Ok, Err, Option, Some, None, ⊤}
use Rattle.std.proofs.Common.{◌≡◌, ℕ, ◌+◌, List, ltb, refl, ap, ◌∙◌, arith, ⊎_elim}
use Rattle.typeset.proofs.Bools.{yes_or_no}
use Rattle.refusal.specs.declared.Refusal.{Refusal}
use Rattle.refusal.specs.Numbers.{◌>>=◌}
use Rattle.plan.specs.declared.Plan.{Plan}
use Rattle.plan.specs.declared.Seen.{Seen}
use Rattle.plan.specs.Find.{seen}
use Rattle.planread.specs.Reading.{read_of}
use Rattle.planread.specs.Scanning.{scanned}
use Rattle.store.specs.declared.Who.{Who}
use Rattle.store.specs.Words.{first_for, first_free}
use Rattle.store.specs.Access.{access_in}
use Rattle.store.specs.Operations.{write, delete, done, added_at, effect_at, effect_by, effect}
use Rattle.owners.specs.Who.{who_by, who_of}
use Rattle.owners.proofs.Owners.{by-shown}
use Rattle.answers.specs.declared.Answer.{Answer}
use Rattle.answers.specs.Said.{accepted, refusal}
use Rattle.dfc_store.specs.Said.{data_said, known_in}

-- ---- who a box is

module _ (features owners : List ℕ) (t a : ℕ) where
  abbrev shown : Result Plan Refusal → Result Seen Refusal
  shown r = r >>= λ p. Ok (seen p a 0)

  abbrev known : Result Plan Refusal → Result Who Refusal
  known r = r >>= λ p. Ok (who_of p features owners t a)

  none : (r : Result Plan Refusal) (e : Refusal) → Err e ≡ shown r → Err e ≡ known r
  none (Ok p) e q = let z : ◌≡◌ {A = ℕ} 0 1 = cc in absurd (omega arith)
  none (Err x) e q = let same : e ≡ x = cc in ap Err same

  one : (r : Result Plan Refusal) (z : Seen) (w : Who) → Ok z ≡ shown r → w ≡ who_by z.types.existing z.first.kind features owners t a → Ok w ≡ known r
  one (Ok p) z w q e = let same : z ≡ seen p a 0 = cc in ap Ok (e ∙ by-shown p features owners t a z same)
  one (Err x) z w q e = let n : ◌≡◌ {A = ℕ} 0 1 = cc in absurd (omega arith)

pub known-none : (file features owners : List ℕ) (t a : ℕ) (e : Refusal) → Err e ≡ scanned a 0 (read_of file) → Err e ≡ known_in file features owners t a
unfolding scanned known_in
known-none file features owners t a e q = none features owners t a (read_of file) e q

pub known-shown : (file features owners : List ℕ) (t a : ℕ) (z : Seen) (w : Who) → Ok z ≡ scanned a 0 (read_of file)
    → w ≡ who_by z.types.existing z.first.kind features owners t a → Ok w ≡ known_in file features owners t a
unfolding scanned known_in
known-shown file features owners t a z w q e = one features owners t a (read_of file) z w q e

-- ---- an operation that answers no number

abbrev pub told_done : Result ⊤ Refusal → Answer
told_done (Ok _) = accepted 0
told_done (Err r) = refusal r

write-told : (b : List ℕ) (i o r k n : ℕ) → told_done (done (effect_at b i o (write r k n)).answer) ≡ data_said (effect_at b i o (write r k n)).answer
unfolding effect_at added_at
write-told b i o r k n =
    ⊎_elim (λ e. rw e refl) (λ e. rw e (⊎_elim (λ f. rw f refl) (λ f. rw f refl) (yes_or_no (ltb (first_free b) 1024)))) (yes_or_no (ltb i 1024))

delete-told : (b : List ℕ) (i o r k : ℕ) → told_done (done (effect_at b i o (delete r k)).answer) ≡ data_said (effect_at b i o (delete r k)).answer
unfolding effect_at
delete-told b i o r k = ⊎_elim (λ e. rw e refl) (λ e. rw e refl) (yes_or_no (ltb i 1024))

module _ (relations b : List ℕ) (w : Who) (r k : ℕ) where
  pub told-write : (n : ℕ) → told_done (done (effect relations b w (write r k n)).answer) ≡ data_said (effect relations b w (write r k n)).answer
  unfolding effect effect_by
  told-write n = by (access_in relations w r)
    where
      by : (a : Option ℕ) → told_done (done (effect_by b a (write r k n)).answer) ≡ data_said (effect_by b a (write r k n)).answer
      by None = refl
      by (Some o) = write-told b (first_for b (r + 1) o k) o r k n

  pub told-delete : told_done (done (effect relations b w (delete r k)).answer) ≡ data_said (effect relations b w (delete r k)).answer
  unfolding effect effect_by
  told-delete = by (access_in relations w r)
    where
      by : (a : Option ℕ) → told_done (done (effect_by b a (delete r k)).answer) ≡ data_said (effect_by b a (delete r k)).answer
      by None = refl
      by (Some o) = delete-told b (first_for b (r + 1) o k) o r k
