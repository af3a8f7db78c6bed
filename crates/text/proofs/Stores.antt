-- Bytes stored in a room from a place on, as many as fit. Assumes nothing.
use mathlib.Core.Path.{◌≡◌, refl, sym, ap, ◌∙◌}
use mathlib.Core.Logic.{⊎_elim}
use mathlib.Core.List.{List, [], ◌∷◌, ◌++◌, append_assoc}
use Prim.Native.Nat.{ℕ, zero, suc, ◌+◌, ◌-◌, ◌≤◌, ◌<◌, min}
use native.Mathlib.Nat.{not-suc-le-zero}
use native.Mathlib.Omega.{arith}
use lib.ListN.{length, set, drop, take, length-set}
use lib.Seq.{sets, sets-eq}
use borrow.Rule.Slice.PartMut.{post_of, Post-is}
use Rattle.std.proofs.lemmas.List.{length-take-le}
use Rattle.typeset.proofs.Laws.{split}

-- past the end nothing is stored
set_past : (l : List ℕ) (i x : ℕ) → length l ≤ i → set l i x ≡ l
set_past [] i x h = refl
set_past (y ∷ l) zero x h = absurd (not-suc-le-zero h)
set_past (y ∷ l) (suc i) x h = ap (λ (r : List ℕ). y ∷ r) (set_past l i x (omega arith))

pub sets-past : (l : List ℕ) (i : ℕ) (xs : List ℕ) → length l ≤ i → sets l i xs ≡ l
sets-past l i [] h = refl
sets-past l i (x ∷ xs) h = rw (set_past l i x h) (sets-past l (suc i) xs (omega arith))

-- stored where they fit, and cut where they do not
pub sets-cut : (l : List ℕ) (i n : ℕ) (xs : List ℕ) → n ≡ min (length xs) (length l - i) → sets l i xs ≡ sets l i (take n xs)
sets-cut l i zero [] e = refl
sets-cut l i (suc n) [] e = refl
sets-cut l i zero (x ∷ xs) e = sets-past l i (x ∷ xs) (omega (arith, e))
sets-cut l i (suc n) (x ∷ xs) e = sets-cut (set l i x) (suc i) n xs (let same = length-set l i x in omega (arith, e, same))

-- as the store of a slice leaves the room: with its place and its length brought within the room
pub put-is : (room bytes : List ℕ) (at from n : ℕ) → from ≡ min at (length room) → n ≡ min (length bytes) (length room - from)
    → take from room ++ (take n bytes ++ post_of from (from + n - from) room) ≡ sets room at bytes
put-is room bytes at from n f e =
    let size : length (take n bytes) ≡ n = length-take-le n bytes (omega (arith, e)) in
    let fits : from + length (take n bytes) ≤ length room = omega (arith, f, e, size) in
    let rest : post_of from (from + n - from) room ≡ drop (from + n) room = Post-is from (from + n) room (omega arith) in
    let stored : sets room from (take n bytes) ≡ take from room ++ (take n bytes ++ drop (from + n) room) = (let e = sets-eq {A = ℕ} (take n bytes) room from fits in rw size at e) ∙ append_assoc (take from room) (take n bytes) (drop (from + n) room) in
    rw rest (sym stored) ∙ ⊎_elim
    (λ (h : at < length room). let same : from ≡ at = omega (arith, f, h) in rw same (sym (sets-cut room at n bytes (rw same at e))))
    (λ (h : length room ≤ at). sets-past room from (take n bytes) (omega (arith, f, h)) ∙ sym (sets-past room at bytes h))
    (split at (length room))

-- one text after the other is both
pub sets-both : (l : List ℕ) (i : ℕ) (xs ys : List ℕ) → sets (sets l i xs) (i + length xs) ys ≡ sets l i (xs ++ ys)
sets-both l i [] ys = let same : i + 0 ≡ i = omega arith in rw same
sets-both l i (x ∷ xs) ys =
    let next : i + suc (length xs) ≡ suc i + length xs = omega arith in
    rw next (sets-both (set l i x) (suc i) xs ys)
