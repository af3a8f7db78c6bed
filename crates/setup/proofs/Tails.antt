-- End parts of a list (`end_part`, Setups.antt): what is left of it after some of its first types, and nothing else. Assumes nothing.
use mathlib.Core.Path.{◌≡◌, sym, ap, ◌∙◌}
use mathlib.Core.Bool.{true}
use mathlib.Core.List.{List}
use Prim.Native.Nat.{ℕ, ◌+◌, ◌-◌, ◌≤◌}
use native.Mathlib.Omega.{arith}
use lib.Dec.{eqb, leb}
use lib.ListN.{length, get_or, drop, length-drop}
use lib.Seq.{ext_get_or, get_or-drop}
use borrow.Author.Tests.{leb-true, le-leb, eqb-true, eq-eqb}
use Rattle.typeset.specs.Sets.{every}
use Rattle.typeset.proofs.Bools.{and_left, and_right, and-make}
use Rattle.typeset.proofs.Below.{every-at, every_of}
use Rattle.setup.specs.Setups.{end_part}

pub end-part-short : (l z : List ℕ) → end_part l z ≡ true → length l ≤ length z
unfolding end_part
end-part-short l z e = leb-true (length l) (length z) (and_left (leb (length l) (length z)) (every (length l) (λ i. eqb (get_or l i 0) (get_or z (length z - length l + i) 0))) e)

-- an end part is what is left after the types before it
pub end-part-is : (l z : List ℕ) → end_part l z ≡ true → drop (length z - length l) z ≡ l
unfolding end_part
end-part-is l z e =
    let short : length l ≤ length z = end-part-short l z e in
    let same_length : length (drop (length z - length l) z) ≡ length l = simp length-drop (omega arith) in
    ext_get_or 0 (drop (length z - length l) z) l same_length
    (λ i h. get_or-drop (length z - length l) z i 0
    ∙ sym (eqb-true (get_or l i 0) (get_or z (length z - length l + i) 0)
    (every-at (length l) (λ i. eqb (get_or l i 0) (get_or z (length z - length l + i) 0))
    (and_right (leb (length l) (length z)) (every (length l) (λ i. eqb (get_or l i 0) (get_or z (length z - length l + i) 0))) e) i (rw (← same_length) h))))

-- and what is left after k types is one
pub end-part-of : (k : ℕ) (z : List ℕ) → k ≤ length z → end_part (drop k z) z ≡ true
unfolding end_part
end-part-of k z h =
    let long : length (drop k z) ≡ length z - k = simp length-drop in
    and-make (le-leb (length (drop k z)) (length z) (omega arith))
    (every_of (length (drop k z)) _ (λ i l.
    let from : length z - length (drop k z) + i ≡ k + i = omega arith in
    eq-eqb (get_or (drop k z) i 0) (get_or z (length z - length (drop k z) + i) 0) (get_or-drop k z i 0 ∙ ap (λ (j : ℕ). get_or z j 0) (sym from))))
