-- What the operations answer and leave, case by case. Assumes nothing.
use Rattle.std.specs.Prelude.{Option, Some, None, Result, Ok, Err, ⊤}
use mathlib.Core.Path.{◌≡◌, refl, sym, ap, ◌∙◌}
use mathlib.Core.Bool.{true}
use mathlib.Core.List.{List, [], ◌∷◌, ◌++◌}
use Prim.Native.Nat.{ℕ, suc, ◌+◌, ◌≤◌, ◌<◌}
use native.Mathlib.Omega.{arith}
use lib.ListN.{length, get_or, drop}
use borrow.Author.Tests.{lt-ltb, le-ltb}
use Rattle.refusal.specs.declared.Refusal.{Refusal}
use Rattle.refusal.specs.declared.Refusal.TheVariants.{RoomTooShort}
use Rattle.plan.specs.declared.Plan.{Plan}
use Rattle.plan.specs.Sound.{sound}
use Rattle.plan.specs.Find.{lookup}
use Rattle.plan.proofs.Lookup.{found-used}
use Rattle.plan.proofs.Laws.{few, used_all}
use Rattle.planbytes.specs.Numbers.{Below}
use Rattle.planbytes.specs.Format.{bytes_of}
use Rattle.planread.specs.Reading.{read_of}
use Rattle.planfile.proofs.Back.{File, back-and-there}
use Rattle.index.specs.Index.{changed}
use Rattle.index.specs.Said.{said_with, sets_fit, matches, said_found, updated_by, plan_by, index_by, updated, plan_after, index_after}
use Rattle.answers.specs.declared.Answer.{Answer}
use Rattle.answers.specs.Said.{refusal, accepted as accept}
use Rattle.dfc_index.specs.Files.{file_updated, index_updated, room_updated}
use Rattle.dfc_index.specs.Steps.{sets_at, reset_bytes}
use Rattle.dfc_index.proofs.Bytes.{reset-is, sets-inside}

-- any bytes that a program holds
pub all-bytes : (xs : List ℕ) → ((i : ℕ) → get_or xs i 0 < 256) → Below 256 xs
unfolding Below
all-bytes [] f = tt
all-bytes (x ∷ xs) f = (f 0, all-bytes xs (λ i. f (suc i)))

-- ---- updating

module _ (file : List ℕ) (index : List (List ℕ)) (a source target : ℕ) (room : List ℕ) where
  -- the answer, the index and the room are these
  abbrev pub Leaves : Answer → List (List ℕ) → List ℕ → Type 0
  Leaves r rows bytes = (r ≡ file_updated file index a source target room) × (rows ≡ index_updated file index a source target room) × (bytes ≡ room_updated file index a source target room)

  pub update-file : (r : Refusal) → read_of file ≡ Err r → Leaves (refusal r) index room
  unfolding file_updated index_updated room_updated
  update-file r e = rw e (refl, refl, refl)

  module _ (p : Plan) (e : read_of file ≡ Ok p) where
    pub update-short : length room < length file → Leaves (refusal (RoomTooShort 0)) index room
    unfolding file_updated index_updated room_updated
    update-short h = rw (e, lt-ltb (length room) (length file) h) (refl, refl, refl)

    module _ (fits : length file ≤ length room) (kept : sound p ≡ true) where
      -- what the index operation answered is the answer
      pub update-refused : (r : Refusal) → updated_by true p a source target index ≡ Err r
          → Leaves (refusal r) (index_by true p a source target index) room
      unfolding file_updated index_updated room_updated updated plan_after index_after
      update-refused r s = rw (e, le-ltb (length room) (length file) fits, kept, s) (refl, refl, refl)

      pub update-done : updated_by true p a source target index ≡ Ok tt
          → Leaves (accept (length file)) (index_by true p a source target index) (bytes_of (plan_by true p a source target index) ++ drop (length file) room)
      unfolding file_updated index_updated room_updated updated plan_after index_after
      update-done s = rw (e, le-ltb (length room) (length file) fits, kept, s) (refl, refl, refl)

-- ---- an update that is done has found the address

module _ (p : Plan) (a source target : ℕ) (index : List (List ℕ)) (s : updated_by true p a source target index ≡ Ok tt) where
  pub done-found : (i : ℕ) × (lookup p a ≡ Some i)
  unfolding updated_by
  done-found = found (lookup p a) s
    where
      found : (f : (Option ℕ)) → said_found true f (sets_fit p.types source target) (matches p index) ≡ Ok tt → (i : ℕ) × (f ≡ Some i)
      found (Some i) e = (i, refl)
      found None e = let z : ◌≡◌ {A = ℕ} 0 1 = cc in absurd (omega arith)

  -- and answers the changed plan
  pub done-plan : (i : ℕ) → lookup p a ≡ Some i → plan_by true p a source target index ≡ changed p i source target
  unfolding plan_by
  done-plan i f = rw (s, f) refl

-- ---- a file that is accepted

module _ (file : List ℕ) (small : Below 256 file) (p : Plan) (e : read_of file ≡ Ok p) where
  pub is-file : File file p
  is-file = back-and-there file small p e

  module _ (a i source target : ℕ) (f : lookup p a ≡ Some i) where
    low : i < p.count
    low = rw (used_all p is-file.kept-all) at (found-used p a i f)

    pub inside : sets_at p.subscribers i + 8 ≤ length file
    inside =
        let size : length (bytes_of p) ≡ length file = ap length is-file.bytes in
        omega (arith, sets-inside p i low is-file.typed.places (few p is-file.kept-all) is-file.typed.source_rows is-file.typed.target_rows)

    pub reset-file : reset_bytes (sets_at p.subscribers i) source target file ≡ bytes_of (changed p i source target)
    reset-file =
        ap (reset_bytes (sets_at p.subscribers i) source target) (sym is-file.bytes)
        ∙ reset-is p i low is-file.typed.places (few p is-file.kept-all) is-file.typed.source_rows is-file.typed.target_rows source target

-- what updating answered, by its plan or its refusal
pub with-plan : (s : Result ⊤ Refusal) (p q : Plan) → Ok q ≡ said_with s p → s ≡ Ok tt
with-plan (Ok _) p q e = refl
with-plan (Err r) p q e = let z : ◌≡◌ {A = ℕ} 0 1 = cc in absurd (omega arith)

pub with-refusal : (s : Result ⊤ Refusal) (p : Plan) (r : Refusal) → Err r ≡ said_with s p → s ≡ Err r
with-refusal (Ok _) p r e = let z : ◌≡◌ {A = ℕ} 0 1 = cc in absurd (omega arith)
with-refusal (Err x) p r e = let same : r ≡ x = cc in ap Err (sym same)
