-- The records of some bytes: how many, which, the lowest free one, and what a command, a call placed or clearing make of them. Assumes nothing.
use Rattle.std.proofs.Common.{◌≡◌, ℕ, zero, suc, ◌+◌, ◌-◌, ◌*◌, ◌/◌, ◌%◌, ◌<◌, ◌≤◌, Bool, true, false, cond, ◌&&◌, eqb, List, [], ◌∷◌, ◌++◌, length, get_or, drop, set, replicate, sym, refl, ap, ◌∙◌, subst, ap₂, append_assoc, le_of_suc-le-suc, not-suc-le-zero, arith, lit≤, length-append, length-drop, set-set, le-ltb, lt-ltb}
use lib.ListN.{length-replicate, get_or-replicate, get_or-eq_default, get_or-append}
use borrow.Rule.Slice.PartMut.{put_mid}
use Rattle.std.proofs.lemmas.Slice.{put_mid-paste}
use Rattle.std.proofs.lemmas.List.Edits.{paste_all}
use Rattle.std.proofs.lemmas.List.{length-take-le}
use lib.ListN.{take}
use lib.Seq.{sets, sets-eq, length-sets, set_comm}
use Rattle.ends.specs.declared.State.TheVariants.{Idle, Requesting, Waiting, Linked, Unlinking}
use Rattle.signalbytes.specs.Numbers.{state_said}
use Rattle.call.specs.declared.Call.{Call}
use Rattle.call.specs.Protocol.{cleared, is_idle, is_free, quiet}
use Rattle.call.specs.Row.{record_at, lowest_free}
use Rattle.recordbytes.specs.Records.{slots_from, bytes_from, call_at}
use Rattle.recordbytes.specs.Steps.{Outside, in_front, behind}
use Rattle.recordbytes.proofs.Places as stores
use Rattle.recordbytes.proofs.AsStep.{call_same}
use Rattle.rowbytes.specs.Rows.{records_in, records, row_in, cleared_in, placed_bytes}
use Rattle.rowbytes.specs.Parts.{put_placed}

-- ---- how many, and which

pub records-length : (n : ℕ) (b : List ℕ) (at : ℕ) → length (records n b at) ≡ n
unfolding records
records-length zero b at = refl
records-length (suc n) b at = ap suc (records-length n b (at + 614))

pub row-length : (b : List ℕ) → length (row_in b) ≡ records_in b
unfolding row_in
row-length b = records-length (records_in b) b 0

records-at : (n : ℕ) (b : List ℕ) (at r : ℕ) → r < n → get_or (records n b at) r cleared ≡ call_at b (at + 614 * r)
unfolding records
records-at zero b at r h = absurd (not-suc-le-zero h)
records-at (suc n) b at zero h = let e : at + 614 * 0 ≡ at = omega arith in rw e refl
records-at (suc n) b at (suc r) h =
    let e : at + 614 * suc r ≡ at + 614 + 614 * r = omega arith in
    rw e (records-at n b (at + 614) r (le_of_suc-le-suc h))

-- a whole record's bytes
pub inside : (b : List ℕ) (r : ℕ) → r < records_in b → 614 * r + 614 ≤ length b
inside b r h = omega arith

pub record-in : (b : List ℕ) (r : ℕ) → r < records_in b → call_at b (614 * r) ≡ record_at (row_in b) r
unfolding row_in
record-in b r h = let e : 0 + 614 * r ≡ 614 * r = omega arith in sym (records-at (records_in b) b 0 r h ∙ ap (call_at b) e)

pub record-past : (b : List ℕ) (r : ℕ) → records_in b ≤ r → cleared ≡ record_at (row_in b) r
record-past b r h =
    let past : length (row_in b) ≤ r = rw (row-length b) h in
    sym (get_or-eq_default (row_in b) cleared past)

-- free or not, by two bytes
idle-by : (a b c d : Bool) → is_idle (cond a Idle (cond b Requesting (cond c Waiting (cond d Linked Unlinking)))) ≡ a
idle-by true b c d = refl
idle-by false true c d = refl
idle-by false false true d = refl
idle-by false false false true = refl
idle-by false false false false = refl

idle-said : (n : ℕ) → is_idle (state_said n) ≡ eqb n 0
idle-said n = idle-by (eqb n 0) (eqb n 1) (eqb n 2) (eqb n 3)

pub free-states : (b : List ℕ) (at : ℕ) → is_free (call_at b at) ≡ (eqb (get_or b at 0) 0 && eqb (get_or b (at + 1) 0) 0)
unfolding call_at
free-states b at =
    let here : at + 0 ≡ at = omega arith in
    rw (idle-said (get_or b (at + 0) 0), idle-said (get_or b (at + 1) 0), here) refl

-- the use number of a record, by its two bytes; a row that has no such record has 0 there
pub use-in : (b : List ℕ) (r : ℕ) → r < records_in b → get_or b (614 * r + 2) 0 * 256 + get_or b (614 * r + 3) 0 ≡ (record_at (row_in b) r).use_number
unfolding call_at
use-in b r h = ap (λ (c : Call). c.use_number) (record-in b r h)

pub use-past : (b : List ℕ) (r : ℕ) → records_in b ≤ r → 0 ≡ (record_at (row_in b) r).use_number
use-past b r h = ap (λ (c : Call). c.use_number) (record-past b r h)

-- ---- the lowest free one

split : (n i : ℕ) → i < n → n - i ≡ suc (n - (i + 1))
split n i h = omega arith

next_place : (i : ℕ) → 614 * i + 614 ≡ 614 * (i + 1)
next_place i = omega arith

free-here : (free : Bool) (m : ℕ) → free ≡ true → cond free 0 (suc m) ≡ 0
free-here true m e = refl
free-here false m e = let z : ◌≡◌ {A = ℕ} 0 1 = cc in absurd (omega arith)

free-later : (free : Bool) (m : ℕ) → free ≡ false → cond free 0 (suc m) ≡ suc m
free-later false m e = refl
free-later true m e = let z : ◌≡◌ {A = ℕ} 0 1 = cc in absurd (omega arith)

module _ (b : List ℕ) (i : ℕ) (h : i < records_in b) where
  pub free-found : is_free (call_at b (614 * i)) ≡ true → i + lowest_free (records (records_in b - i) b (614 * i)) ≡ i
  unfolding records
  free-found e =
      let none : i + 0 ≡ i = omega arith in
      rw (split (records_in b) i h) (ap (λ (k : ℕ). i + k) (free-here (is_free (call_at b (614 * i))) _ e) ∙ none)

  pub free-next : is_free (call_at b (614 * i)) ≡ false
      → i + lowest_free (records (records_in b - i) b (614 * i)) ≡ i + 1 + lowest_free (records (records_in b - (i + 1)) b (614 * (i + 1)))
  unfolding records
  free-next e =
      let m : ℕ = lowest_free (records (records_in b - (i + 1)) b (614 * (i + 1))) in
      let one : i + suc m ≡ i + 1 + m = omega arith in
      rw (split (records_in b) i h, next_place i) (ap (λ (k : ℕ). i + k) (free-later (is_free (call_at b (614 * i))) m e) ∙ one)

pub free-start : (b : List ℕ) → 0 + lowest_free (records (records_in b - 0) b (614 * 0)) ≡ lowest_free (row_in b)
unfolding row_in
free-start b =
    let whole : records_in b - 0 ≡ records_in b = omega arith in
    let none : 0 + lowest_free (records (records_in b) b 0) ≡ lowest_free (records (records_in b) b 0) = omega arith in
    rw whole none

pub free-end : (b : List ℕ) (i : ℕ) → records_in b ≤ i → i + lowest_free (records (records_in b - i) b (614 * i)) ≡ i
unfolding records
free-end b i h =
    let done : records_in b - i ≡ 0 = omega arith in
    let none : i + 0 ≡ i = omega arith in
    rw done none

-- ---- one record changed

records-same : (n : ℕ) (b d : List ℕ) (at : ℕ) → ((j : ℕ) → at ≤ j → get_or d j 0 ≡ get_or b j 0) → records n d at ≡ records n b at
unfolding records
records-same zero b d at h = refl
records-same (suc n) b d at h =
    ap₂ ◌∷◌ (call_same d b at at (λ j l. h (at + j) (omega arith))) (records-same n b d (at + 614) (λ j l. h j (omega (arith, l))))

records-set : (n : ℕ) (b d : List ℕ) (at r : ℕ) → r < n → ((j : ℕ) → Outside (at + 614 * r) j → get_or d j 0 ≡ get_or b j 0) → records n d at ≡ set (records n b at) r (call_at d (at + 614 * r))
unfolding records
records-set zero b d at r h same = absurd (not-suc-le-zero h)
records-set (suc n) b d at zero h same =
    let e : at + 614 * 0 ≡ at = omega arith in
    rw e (ap (λ (z : List Call). call_at d at ∷ z) (records-same n b d (at + 614) (λ j l. same j (behind (omega (arith, l))))))
records-set (suc n) b d at (suc r) h same =
    let e : at + 614 * suc r ≡ at + 614 + 614 * r = omega arith in
    rw e (ap₂ ◌∷◌ (call_same d b at at (λ j l. same (at + j) (in_front (omega (arith, l)))))
    (records-set n b d (at + 614) r (le_of_suc-le-suc h) (λ j o. same j (subst (λ (k : ℕ). Outside k j) (sym e) o))))

-- the row of bytes that differ in one record
pub row-changed : (b d : List ℕ) (r : ℕ) → r < records_in b → length d ≡ length b → ((j : ℕ) → Outside (614 * r) j → get_or d j 0 ≡ get_or b j 0) → row_in d ≡ set (row_in b) r (call_at d (614 * r))
unfolding row_in
row-changed b d r h long same =
    let e : 0 + 614 * r ≡ 614 * r = omega arith in
    rw long (records-set (records_in b) b d 0 r h (λ j o. same j (subst (λ (k : ℕ). Outside k j) e o)) ∙ ap (λ (k : ℕ). set (records (records_in b) b 0) r (call_at d k)) e)

pub from-0 : (b : List ℕ) (j : ℕ) → get_or b j 0 ≡ get_or b (0 + j) 0
from-0 b j = let e : 0 + j ≡ j = omega arith in rw e refl

-- ---- a call placed

-- n bytes set to 0
pub blanked : (n : ℕ) (row : List ℕ) (at : ℕ) (ys : List ℕ) → at + n ≤ length row → ys ≡ replicate (length (take (at + n - at) (drop at row))) 0
    → put_mid at (at + n - at) row ys ≡ sets row at (replicate n 0)
blanked n row at ys h e =
    let k : at + n - at ≡ n = omega arith in
    let l : length (take n (drop at row)) ≡ n = length-take-le n (drop at row) (simp length-drop (omega arith)) in
    let zeros : List ℕ = replicate n 0 in
    let m : n ≡ length zeros = sym (length-replicate n 0) in
    let room : at + length zeros ≤ length row = omega arith in
    rw k (put_mid-paste at n row ys zeros n (rw (k, l) at e) refl m ∙ paste_all row at zeros n m ∙ sym (rw append_assoc at (rw (length-replicate {A = ℕ} n 0) at (sets-eq zeros row at room))))

-- what is set below a run of stores may be set before it
set_below : (ys l : List ℕ) (i j v : ℕ) → i < j → set (sets l j ys) i v ≡ sets (set l i v) j ys
set_below [] l i j v h = refl
set_below (y ∷ ys) l i j v h =
    set_below ys (set l j y) i (suc j) v (omega arith) ∙ ap (λ (x : List ℕ). sets x (suc j) ys) (set_comm l j i y v (λ e. absurd (omega (arith, e, h))))

-- a run of stores over the front of another
stores-over : (ys xs l : List ℕ) (at : ℕ) → length ys ≤ length xs → sets (sets l at xs) at ys ≡ sets l at (ys ++ drop (length ys) xs)
stores-over [] xs l at h = refl
stores-over (y ∷ ys) [] l at h = absurd (omega (arith, h))
stores-over (y ∷ ys) (x ∷ xs) l at h =
    ap (λ (z : List ℕ). sets z (suc at) ys) (set_below xs (set l at x) at (suc at) y (omega arith) ∙ ap (λ (z : List ℕ). sets z (suc at) xs) (set-set l at x y))
    ∙ stores-over ys xs (set l at y) (suc at) (le_of_suc-le-suc h)

-- 614 bytes set to 0, and the first four of them written
pub placed-stored : (b : List ℕ) (at n : ℕ) → set (set (set (set (sets b at (replicate 614 0)) at 1) (at + 1) 2) (at + 2) (n / 256 % 256)) (at + 3) (n % 256) ≡ sets b at (placed_bytes n)
placed-stored b at n =
    let one : at + 1 ≡ suc at = omega arith in
    let two : at + 2 ≡ suc (suc at) = omega arith in
    let three : at + 3 ≡ suc (suc (suc at)) = omega arith in
    rw (one, two, three) (stores-over (1 ∷ 2 ∷ n / 256 % 256 ∷ n % 256 ∷ []) (replicate 614 0) b at (lit≤ tt))

pub put_in : (b : List ℕ) (r n : ℕ) → r < records_in b → sets b (614 * r) (placed_bytes n) ≡ put_placed b r n
put_in b r n h = rw (lt-ltb r (records_in b) h) refl

pub put-past : (b : List ℕ) (r n : ℕ) → records_in b ≤ r → b ≡ put_placed b r n
put-past b r n h = rw (le-ltb r (records_in b) h) refl

placed-call : (n : ℕ) → n < 65536 → call_at (placed_bytes n) 0 ≡ quiet Requesting Waiting n
unfolding call_at slots_from bytes_from
placed-call n h =
    let e : n / 256 % 256 * 256 + n % 256 ≡ n = omega arith in
    rw e refl

-- the row in which a call is placed
pub row-placed-in : (b : List ℕ) (r n : ℕ) → r < records_in b → n < 65536 → row_in (sets b (614 * r) (placed_bytes n)) ≡ set (row_in b) r (quiet Requesting Waiting n)
row-placed-in b r n h u =
    let room : 614 * r + 614 ≤ length b = inside b r h in
    let d : List ℕ = sets b (614 * r) (placed_bytes n) in
    let read : call_at d (614 * r) ≡ quiet Requesting Waiting n = call_same d (placed_bytes n) (614 * r) 0 (λ j l. stores.within (placed_bytes n) b (614 * r) j l room ∙ from-0 (placed_bytes n) j) ∙ placed-call n u in
    row-changed b d r h (length-sets b (614 * r) (placed_bytes n)) (λ j o. same j o) ∙ ap (set (row_in b) r) read
  where
    same : (j : ℕ) → Outside (614 * r) j → get_or (sets b (614 * r) (placed_bytes n)) j 0 ≡ get_or b j 0
    same j (in_front l) = stores.before (placed_bytes n) b (614 * r) j l
    same j (behind l) = stores.past (placed_bytes n) b (614 * r) j l

-- ---- all cleared

pub zeros-all : (b : List ℕ) → replicate (records_in b * 614) 0 ++ drop (records_in b * 614) b ≡ cleared_in b
unfolding cleared_in
zeros-all b = let e : records_in b * 614 ≡ 614 * records_in b = omega arith in rw e refl

pub cleared-length : (b : List ℕ) → length (cleared_in b) ≡ length b
unfolding cleared_in
cleared-length b =
    let n : ℕ = records_in b in
    length-append (replicate (614 * n) 0) (drop (614 * n) b) ∙ rw (length-replicate {A = ℕ} (614 * n) 0, length-drop (614 * n) b) (omega arith)

zeros-call : call_at (replicate 614 0) 0 ≡ cleared
unfolding call_at slots_from bytes_from
zeros-call = refl

records-cleared : (n : ℕ) (b : List ℕ) (at : ℕ) → ((j : ℕ) → j < 614 * n → get_or b (at + j) 0 ≡ 0) → records n b at ≡ replicate n cleared
unfolding records
records-cleared zero b at h = refl
records-cleared (suc n) b at h =
    ap₂ ◌∷◌ (call_same b (replicate 614 0) at 0 (λ j l. h j (omega (arith, l)) ∙ sym (get_or-replicate {A = ℕ} 614 j 0 0 l) ∙ from-0 (replicate 614 0) j) ∙ zeros-call) (records-cleared n b (at + 614) (λ j l. later j (omega (arith, l))))
  where
    later : (j : ℕ) → 614 + j < 614 * suc n → get_or b (at + 614 + j) 0 ≡ 0
    later j l = let e : at + 614 + j ≡ at + (614 + j) = omega arith in rw e (h (614 + j) l)

zero-at : (b : List ℕ) (j : ℕ) → j < 614 * records_in b → get_or (cleared_in b) (0 + j) 0 ≡ 0
unfolding cleared_in
zero-at b j l =
    let e : 0 + j ≡ j = omega arith in
    let long : length (replicate {A = ℕ} (614 * records_in b) 0) ≡ 614 * records_in b = length-replicate {A = ℕ} (614 * records_in b) 0 in
    rw e (get_or-append (replicate (614 * records_in b) 0) (drop (614 * records_in b) b) 0 j (omega (arith, l, long)) ∙ get_or-replicate {A = ℕ} (614 * records_in b) j 0 0 l)

pub row-cleared : (b : List ℕ) → row_in (cleared_in b) ≡ replicate (records_in b) cleared
unfolding row_in
row-cleared b = rw (cleared-length b) (records-cleared (records_in b) (cleared_in b) 0 (λ j l. zero-at b j l))
