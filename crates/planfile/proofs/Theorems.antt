-- Both round trips, and which bytes are accepted, of the definitions that the contracts of `planread::read` and `planwrite::write` equate their results with. Assumes nothing.
use Rattle.std.specs.Prelude.{Ok, Result}
use mathlib.Core.Path.{◌≡◌, sym, ap, ◌∙◌}
use mathlib.Core.Bool.{true}
use mathlib.Core.List.{List, [], ◌∷◌}
use Prim.Native.Nat.{ℕ, ◌*◌, ◌≤◌, ◌<◌}
use native.Mathlib.Omega.{arith}
use lib.ListN.{length, take, drop, length-append, length-take}
use lib.Seq.{take-append_seam}
use borrow.Author.Tests.{le-leb}
use Rattle.plan.specs.declared.Subscriber.{Subscriber}
use Rattle.plan.specs.declared.Plan.{Plan}
use Rattle.plan.specs.Sound.{sound}
use Rattle.planbytes.specs.Numbers.{Below}
use Rattle.plan.proofs.Laws.{few}
use Rattle.planbytes.specs.Format.{field, subscriber_body, subscriber_fields, bytes_of}
use Rattle.planbytes.proofs.Lengths.{subscriber-size}
use Rattle.planread.specs.Reading.{read_of}
use Rattle.planwrite.specs.Writing.{written, written_by, room_after, room_after_by}
use Rattle.planwrite.proofs.Files.{file-length}
use Rattle.planfile.specs.Typed.{AllTyped, Typed}
use Rattle.planfile.proofs.States.{typed-take, used-length}
use Rattle.planfile.proofs.There.{there_and_back}
use Rattle.planfile.proofs.Back.{back-and-there}
use Rattle.refusal.specs.declared.Refusal.{Refusal}

-- F13: reading the file of a sound plan gives that plan
pub read-written : (p : Plan) → Typed p → sound p ≡ true → read_of (bytes_of p) ≡ Ok p
read-written p 𝓣 𝓢 = there_and_back p 𝓣 𝓢

-- F14: the file of a plan that was read is the bytes that were read; and that plan is sound
pub written_read : (bs : List ℕ) → Below 256 bs → (p : Plan) → read_of bs ≡ Ok p → bytes_of p ≡ bs
written_read bs b p e = (back-and-there bs b p e).bytes

pub read-sound : (bs : List ℕ) → Below 256 bs → (p : Plan) → read_of bs ≡ Ok p → sound p ≡ true
read-sound bs b p e = (back-and-there bs b p e).kept-all

-- bytes are accepted exactly when they are the file of some sound plan
pub accepted-only : (bs : List ℕ) → Below 256 bs → (p : Plan) × (read_of bs ≡ Ok p) → (p : Plan) × (Typed p) × (sound p ≡ true) × (bytes_of p ≡ bs)
accepted-only bs b r = let f = back-and-there bs b r.0 r.1 in (r.0, f.typed, f.kept-all, f.bytes)

pub accepted-all : (bs : List ℕ) → (p : Plan) × (Typed p) × (sound p ≡ true) × (bytes_of p ≡ bs) → (p : Plan) × (read_of bs ≡ Ok p)
accepted-all bs r = (r.0, ap read_of (sym r.3) ∙ there_and_back r.0 r.1 r.2)

-- two sound plans with one file are one plan
pub one-plan : (p q : Plan) → Typed p → Typed q → sound p ≡ true → sound q ≡ true → bytes_of p ≡ bytes_of q → p ≡ q
one-plan p q 𝓣 𝓤 𝓢 𝓡 e =
    let same : ◌≡◌ {A = Result Plan Refusal} (Ok p) (Ok q) = sym (there_and_back p 𝓣 𝓢) ∙ ap read_of e ∙ there_and_back q 𝓤 𝓡 in
    cc

-- ---- of what the functions leave: what writing leaves in the room is read as the plan that was written; and what was read is written as the bytes that were read
module _ (p : Plan) (𝓢 : sound p ≡ true) (room : List ℕ) (fits : length (bytes_of p) ≤ length room) where
  pub write-answers : written p room ≡ Ok (length (bytes_of p))
  unfolding written_by
  write-answers = rw (𝓢, le-leb (length (bytes_of p)) (length room) fits)

  pub write-leaves : take (length (bytes_of p)) (room_after p room) ≡ bytes_of p
  unfolding room_after_by
  write-leaves = rw (𝓢, le-leb (length (bytes_of p)) (length room) fits) (take-append_seam (bytes_of p) (drop (length (bytes_of p)) room))

  pub write-then-read : Typed p → read_of (take (length (bytes_of p)) (room_after p room)) ≡ Ok p
  write-then-read 𝓣 = ap read_of write-leaves ∙ there_and_back p 𝓣 𝓢

pub read-then-write : (bs : List ℕ) → Below 256 bs → (p : Plan) → read_of bs ≡ Ok p → (room : List ℕ) → length bs ≤ length room
    → (written p room ≡ Ok (length bs)) × (take (length bs) (room_after p room) ≡ bs)
read-then-write bs b p e room fits =
    let f = back-and-there bs b p e in
    let inside : length (bytes_of p) ≤ length room = rw f.bytes fits in (
      write-answers p f.kept-all room inside ∙ ap (λ (l : List ℕ). Ok (length l)) f.bytes,
      ap (λ (l : List ℕ). take (length l) (room_after p room)) (sym f.bytes) ∙ write-leaves p f.kept-all room inside ∙ f.bytes,
    )

-- ---- the longest file has 6,436 bytes: a longer input is never accepted

fields-short : (xs : List Subscriber) → AllTyped xs → length (subscriber_fields xs) ≤ 24 * length xs
unfolding AllTyped subscriber_fields
fields-short [] p = omega arith
fields-short (s ∷ xs) p =
    let boxes : length (take s.count s.boxes) ≤ 4 = rw (length-take s.count s.boxes) (omega (arith, p.0.four_boxes)) in
    let one = subscriber-size s in
    rw (length-append (field 5 (subscriber_body s)) (subscriber_fields xs)) (omega (arith, fields-short xs p.1))

pub longest : (p : Plan) → Typed p → sound p ≡ true → length (bytes_of p) ≤ 6436
longest p 𝓣 𝓢 =
    let short = fields-short (take p.count p.subscribers) (typed-take p.count p.subscribers 𝓣.each_fits) in
    omega (arith, file-length p 𝓣.source_rows 𝓣.target_rows, used-length p 𝓣 𝓢, few p 𝓢)

pub too_long : (bs : List ℕ) → Below 256 bs → 6436 < length bs → (p : Plan) → read_of bs ≡ Ok p → ⊥
too_long bs b h p e =
    let f = back-and-there bs b p e in
    omega (arith, longest p f.typed f.kept-all, ap length f.bytes)
