-- A list of bytes in 32 places, and what a string or a list is when it is held so. Assumes nothing.
use native.Mathlib.Nat.{le_refl}
use mathlib.Core.Bool.{Bool, ◌&&◌}
use mathlib.Core.Path.{◌≡◌, refl, ◌∙◌, ∙_refl, ap}
use mathlib.Core.List.{List, [], ◌∷◌, ◌++◌, ◌∷◌}
use Prim.Native.Nat.{ℕ, ◌+◌, ◌-◌, ◌≤◌, ◌<◌, min}
use native.Mathlib.Numerals.{add-one}
use native.Mathlib.Omega.{arith}
use lib.ListN.{length, get_or, set, take, drop, replicate, length-take, drop_of_length-le}
use lib.Seq.{sets, drop-cons, get_or-take, take_at, take_all}
use mathlib.Core.Logic.{⊎_elim}
use Rattle.typeset.proofs.Laws.{split}
use Rattle.zone.proofs.Held.{stores-pad, cut, drop-replicate}
use Rattle.setup.specs.Dialling.{padded, dialled, string_of}

pub first-32 : (s : List ℕ) → length (take 32 s) ≡ min (length s) 32
first-32 s = simp length-take (omega arith)

-- the first of the bytes, as many as there are below 32, and 0 in the places that are left
take-min : (s : List ℕ) → take (min (length s) 32) s ≡ take 32 s
take-min s =
    ⊎_elim
    (λ (h : length s < 32).
    let e : min (length s) 32 ≡ length s = omega arith in
    let all : length s ≤ 32 = omega arith in
    rw (e, take_all (length s) s (le_refl (length s)), take_all 32 s all))
    (λ (h : 32 ≤ length s).
    let e : min (length s) 32 ≡ 32 = omega arith in
    rw e)
    (split (length s) 32)

pub filled-up : (s : List ℕ) → take (min (length s) 32) s ++ drop (min (length s) 32) (replicate 32 0) ≡ padded (take 32 s)
unfolding padded
filled-up s =
    let same : take (min (length s) 32) s ≡ take 32 s = take-min s in
    rw (same, drop-replicate (min (length s) 32) 32 0, first-32 s)

-- ---- what is held is read back

pub string-of-dialled : (l : List ℕ) → string_of (dialled l) ≡ l
unfolding string_of dialled padded
string-of-dialled l = take_at l (replicate (32 - length l) 0) (length l) refl

-- the first n of 32 places are 32 at most
pub cut-again : (n : ℕ) (l : List ℕ) → length l ≡ 32 → take 32 (take n l) ≡ take n l
cut-again n l long =
    let short : length (take n l) ≤ 32 = simp length-take (omega arith) in
    take_all 32 (take n l) short

pub cut-length : (n : ℕ) (l : List ℕ) → length l ≡ 32 → length (take n l) ≡ min n 32
cut-length n l long = simp (length-take, long)

-- a string of at most 32 bytes is all of its first 32
pub all-32 : (s : List ℕ) → length s ≤ 32 → take 32 s ≡ s
all-32 s h = take_all 32 s h
