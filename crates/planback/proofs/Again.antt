-- A plan that is written and read again: what the two functions' answers say together. Assumes nothing.
use Rattle.std.specs.Prelude.{Result, Ok, Err, ⊤, IfOk}
use mathlib.Core.Path.{◌≡◌, refl, sym, ap, ◌∙◌}
use mathlib.Core.Bool.{Bool, true, false, false≢true}
use mathlib.Core.List.{List, ◌++◌}
use Prim.Native.Nat.{ℕ, ◌≤◌, ◌<◌}
use native.Mathlib.Omega.{arith}
use lib.Dec.{leb}
use lib.ListN.{length, take, drop, length-append}
use borrow.Author.Tests.{leb-true, le-leb, lt-leb}
use Rattle.refusal.specs.declared.Refusal.{Refusal}
use Rattle.refusal.specs.declared.Refusal.TheVariants.{RoomTooShort}
use Rattle.plan.specs.declared.Plan.{Plan}
use Rattle.plan.specs.Sound.{sound}
use Rattle.planbytes.specs.Format.{bytes_of}
use Rattle.planread.specs.Reading.{read_of}
use Rattle.planread.specs.Scanning.{judged}
use Rattle.planwrite.specs.Writing.{answer_of, written, written_by, room_after, room_after_by}
use Rattle.planfile.specs.Typed.{Typed}
use Rattle.planbytes.specs.Numbers.{Below}
use Rattle.planback.specs.Back.{comes_back, rewrites, room_rewritten}
use Rattle.planfile.proofs.Theorems.{write-then-read, written_read, read-sound}

abbrev is_bytes : Result ℕ Refusal → Bool
is_bytes (Ok n) = true
is_bytes (Err r) = false

abbrev bytes_in : Result ℕ Refusal → ℕ
bytes_in (Ok n) = n
bytes_in (Err r) = 0

answer-bytes : (kept fits : Bool) (m n : ℕ) → answer_of kept fits m ≡ Ok n → (kept ≡ true) × (fits ≡ true) × (m ≡ n)
answer-bytes false fits m n e = absurd (false≢true (ap is_bytes e))
answer-bytes true false m n e = absurd (false≢true (ap is_bytes e))
answer-bytes true true m n e = (refl, refl, ap bytes_in e)

-- a plan of which n bytes were written is sound, and they are its file
wrote : (p : Plan) (room : List ℕ) (n : ℕ) → written p room ≡ Ok n → (sound p ≡ true) × (leb (length (bytes_of p)) (length room) ≡ true) × (length (bytes_of p) ≡ n)
unfolding written_by
wrote p room n e = answer-bytes (sound p) (leb (length (bytes_of p)) (length room)) (length (bytes_of p)) n e

module _ (p : Plan) (room : List ℕ) {w : (Result ℕ Refusal)} (e : w ≡ written p room) where
  pub back-room : {n : ℕ} {a : List ℕ} → w ≡ Ok n → a ≡ room_after p room → n ≤ length a
  unfolding room_after_by
  back-room {n} f g =
      let is = wrote p room n (sym e ∙ f) in
      rw (g, is.0, is.1, length-append (bytes_of p) (drop (length (bytes_of p)) room)) (omega (arith, is.2))

  pub back_read : {n : ℕ} {a : List ℕ} {r : Result Plan Refusal} → w ≡ Ok n → a ≡ room_after p room → Typed p → r ≡ read_of (take n a) → r ≡ comes_back (written p room) p
  back_read {n} f g 𝓣 h =
      let is = wrote p room n (sym e ∙ f) in
      h ∙ rw (g, ← is.2) (write-then-read p is.0 room (leb-true _ _ is.1) 𝓣) ∙ ap (λ (x : (Result ℕ Refusal)). comes_back x p) (sym f ∙ e)

  pub back-refused : {r : Refusal} {x : Result Plan Refusal} → w ≡ Err r → x ≡ Err r → x ≡ comes_back (written p room) p
  back-refused f h = h ∙ ap (λ (x : (Result ℕ Refusal)). comes_back x p) (sym f ∙ e)

-- ---- what is accepted is sound

pub accepted-sound : (file : List ℕ) → Below 256 file → (r : Result Plan Refusal) → r ≡ read_of file → IfOk r (λ p. sound p ≡ true)
accepted-sound file b (Ok p) e = read-sound file b p (sym e)
accepted-sound file b (Err r) e = tt

-- ---- a file that is read and written again: its own bytes

module _ (file room : List ℕ) {v : Result ⊤ Refusal} (q : v ≡ judged (read_of file)) where
  pub again-refused : {r : Refusal} → v ≡ Err r → (rewrites (read_of file) room ≡ Err r) × (room_rewritten (read_of file) room ≡ room)
  unfolding rewrites
  again-refused {r} e = by (read_of file) (sym q ∙ e)
    where
      by : (x : Result Plan Refusal) → judged x ≡ Err r → (rewrites x room ≡ Err r) × (room_rewritten x room ≡ room)
      by (Ok p) f = let never : ◌≡◌ {A = ℕ} 0 1 = cc in absurd (omega (arith, never))
      by (Err s) f = let same : s ≡ r = cc in (ap Err same, refl)

  module _ (b : Below 256 file) (e : v ≡ Ok tt) where
    read-plan : (p : Plan) × (read_of file ≡ Ok p)
    read-plan = by (read_of file) refl
      where
        by : (x : Result Plan Refusal) → read_of file ≡ x → (p : Plan) × (read_of file ≡ Ok p)
        by (Ok p) f = (p, f)
        by (Err s) f = let no : judged (Err s) ≡ Ok tt = ap judged (sym f) ∙ sym q ∙ e in let never : ◌≡◌ {A = ℕ} 0 1 = cc in absurd (omega (arith, never))

    kept-all : sound read-plan.0 ≡ true
    kept-all = read-sound file b read-plan.0 read-plan.1

    own-bytes : bytes_of read-plan.0 ≡ file
    own-bytes = written_read file b read-plan.0 read-plan.1

    pub again-short : length room < length file → (rewrites (read_of file) room ≡ Err (RoomTooShort 0)) × (room_rewritten (read_of file) room ≡ room)
    unfolding rewrites written_by room_after_by
    again-short h = (rw (read-plan.1, kept-all, own-bytes, lt-leb (length file) (length room) h), rw (read-plan.1, kept-all, own-bytes, lt-leb (length file) (length room) h))

    pub again-fits : length file ≤ length room → (rewrites (read_of file) room ≡ Ok (length file)) × (room_rewritten (read_of file) room ≡ file ++ drop (length file) room)
    unfolding rewrites written_by room_after_by
    again-fits h = (rw (read-plan.1, kept-all, own-bytes, le-leb (length file) (length room) h), rw (read-plan.1, kept-all, own-bytes, le-leb (length file) (length room) h))
