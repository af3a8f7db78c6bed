-- Bytes stored one by one: into a room from a place on, and out of it into 32 places. Assumes nothing.
use mathlib.Core.Path.{◌≡◌, refl, ◌∙◌}
use mathlib.Core.List.{List, [], ◌∷◌, ◌++◌, append-nil}
use Prim.Native.Nat.{ℕ, ◌+◌, ◌-◌, ◌%◌, ◌≤◌, ◌<◌}
use native.Mathlib.Numerals.{add-one}
use native.Mathlib.Omega.{arith}
use lib.ListN.{length, get_or, set, take, drop, replicate, length-take, length-drop, length-append, drop_of_length-le}
use lib.Seq.{sets, drop-cons, get_or-take, get_or-drop}
use Rattle.zone.proofs.Held.{stores-pad}
use Rattle.planbytes.specs.Numbers.{high}
use Rattle.planbytes.specs.Format.{field}
use Rattle.planbytes.proofs.Lengths.{field-length}
use Rattle.planwrite.proofs.Puts.{puts_then}

-- ---- a part put into a room

pub put_all : (room part : List ℕ) (at : ℕ) → sets room (at + 0) (drop 0 part) ≡ sets room at part
put_all room part at = let e : at + 0 ≡ at = omega arith in rw e

pub put_next : (room part : List ℕ) (at i : ℕ) → i < length part
    → sets room (at + i) (drop i part) ≡ sets (set room (at + i) (get_or part i 0)) (at + (i + 1)) (drop (i + 1) part)
put_next room part at i h =
    let e : at + (i + 1) ≡ at + i + 1 = omega arith in
    rw (drop-cons part i 0 h, e, add-one i, add-one (at + i))

pub put-done : (room part : List ℕ) (at i : ℕ) → length part ≤ i → sets room at (drop i part) ≡ room
put-done room part at i h = rw (drop_of_length-le part h)

-- ---- 32 places taken from a place on

thirty_two : (b : List ℕ) (at : ℕ) → at + 32 ≤ length b → length (take 32 (drop at b)) ≡ 32
thirty_two b at h = simp (length-take, length-drop) (omega arith)

pub taken-all : (b : List ℕ) (at : ℕ) → at + 32 ≤ length b → sets (replicate 32 0) 0 (drop 0 (take 32 (drop at b))) ≡ take 32 (drop at b)
taken-all b at h =
    let long : length (take 32 (drop at b)) ≡ 32 = thirty_two b at h in
    let short : length (take 32 (drop at b)) ≤ 32 = omega arith in
    let none : 32 - length (take 32 (drop at b)) ≡ 0 = omega arith in
    stores-pad 32 (take 32 (drop at b)) short ∙ rw none (append-nil (take 32 (drop at b)))

pub taken_next : (b places : List ℕ) (at i : ℕ) → at + 32 ≤ length b → i < 32
    → sets places i (drop i (take 32 (drop at b))) ≡ sets (set places i (get_or b (at + i) 0)) (i + 1) (drop (i + 1) (take 32 (drop at b)))
taken_next b places at i h low =
    let inside : i < length (take 32 (drop at b)) = rw (thirty_two b at h) low in
    rw (drop-cons (take 32 (drop at b)) i 0 inside, get_or-take 32 (drop at b) i 0 low, get_or-drop at b i 0, add-one i)

pub taken-done : (b places : List ℕ) (at : ℕ) → sets places 32 (drop 32 (take 32 (drop at b))) ≡ places
taken-done b places at =
    let short : length (take 32 (drop at b)) ≤ 32 = simp length-take (omega arith) in
    rw (drop_of_length-le (take 32 (drop at b)) short)

-- ---- the parts of a setup put one after the other

pub with-header : (tag m : ℕ) (places : List ℕ) → tag < 256 → length places ≡ 32 → field tag (m ∷ places) ≡ tag ∷ 0 ∷ 33 ∷ m ∷ places
unfolding field high
with-header tag m places h long =
    let low : tag % 256 ≡ tag = omega arith in
    rw (long, low)

pub places-put : (room places : List ℕ) (at tag m : ℕ) {a b : List ℕ} → tag < 256 → length places ≡ 32
    → a ≡ sets room at (tag ∷ 0 ∷ 33 ∷ m ∷ []) → b ≡ sets a (at + 4) places → b ≡ sets room at (field tag (m ∷ places))
places-put room places at tag m low long p q =
    rw (with-header tag m places low long) (puts_then room (tag ∷ 0 ∷ 33 ∷ m ∷ []) places at 4 (at + 4) p q refl refl)

places-length : (tag m : ℕ) (places : List ℕ) → length places ≡ 32 → length (field tag (m ∷ places)) ≡ 36
places-length tag m places long = field-length tag (m ∷ places) ∙ rw long

pub built : (front symbols types : List ℕ) (m n : ℕ) {a b c d : List ℕ} → length front ≡ 35 → length symbols ≡ 32 → length types ≡ 32
    → a ≡ sets (replicate 110 0) 0 front → b ≡ sets a 35 (field 7 (m ∷ symbols)) → c ≡ sets b 71 (field 8 (n ∷ types)) → d ≡ sets c 107 (127 ∷ 0 ∷ 0 ∷ [])
    → d ≡ front ++ field 7 (m ∷ symbols) ++ field 8 (n ∷ types) ++ field 127 []
unfolding field high
built front symbols types m n {a} {b} {c} {d} lf ls lt pa pb pc pd =
    let x1 : List ℕ = front ++ field 7 (m ∷ symbols) in
    let x2 : List ℕ = x1 ++ field 8 (n ∷ types) in
    let x3 : List ℕ = x2 ++ (127 ∷ 0 ∷ 0 ∷ []) in
    let l1 : length x1 ≡ 71 = length-append front (field 7 (m ∷ symbols)) ∙ rw (lf, places-length 7 m symbols ls) in
    let l2 : length x2 ≡ 107 = length-append x1 (field 8 (n ∷ types)) ∙ rw (l1, places-length 8 n types lt) in
    let l3 : length x3 ≡ 110 = length-append x2 (127 ∷ 0 ∷ 0 ∷ []) ∙ rw l2 in
    let q1 : b ≡ sets (replicate 110 0) 0 x1 = puts_then (replicate 110 0) front (field 7 (m ∷ symbols)) 0 35 35 pa pb lf refl in
    let q2 : c ≡ sets (replicate 110 0) 0 x2 = puts_then (replicate 110 0) x1 (field 8 (n ∷ types)) 0 71 71 q1 pc l1 refl in
    let q3 : d ≡ sets (replicate 110 0) 0 x3 = puts_then (replicate 110 0) x2 (127 ∷ 0 ∷ 0 ∷ []) 0 107 107 q2 pd l2 refl in
    let short : length x3 ≤ 110 = omega arith in
    let none : 110 - length x3 ≡ 0 = omega arith in
    q3 ∙ stores-pad 110 x3 short ∙ rw none (append-nil x3)
