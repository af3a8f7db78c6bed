-- An end part of a zone is what `ends_with` finds. Assumes nothing.
use mathlib.Core.Path.{◌≡◌, refl, sym, ap, ◌∙◌}
use mathlib.Core.Bool.{Bool, true, false, ◌&&◌, and-false}
use mathlib.Core.List.{List, [], ◌∷◌}
use mathlib.Core.Logic.{⊎_elim}
use Prim.Native.Nat.{ℕ, ◌+◌, ◌-◌, ◌≤◌, ◌<◌}
use native.Mathlib.Omega.{arith}
use lib.Dec.{eqb, leb}
use lib.ListN.{length, get_or, drop, length-drop}
use borrow.Author.Tests.{le-leb, lt-leb}
use Rattle.std.proofs.lemmas.List.{get_or-drop}
use Rattle.std.specs.Prelude.{nat_eq}
use Rattle.std.specs.List.{ends_with}
use Rattle.std.specs.Cmp.Lexicographic.{pointwise}
use Rattle.typeset.specs.Sets.{every}
use Rattle.typeset.proofs.Below.{every-ext}
use Rattle.typeset.proofs.Laws.{split}
use Rattle.setup.specs.Setups.{end_part}

-- two lists of one length, place by place
pointwise-every : (l m : List ℕ) → length l ≡ length m → pointwise nat_eq l m ≡ every (length l) (λ i. eqb (get_or l i 0) (get_or m i 0))
unfolding every
pointwise-every [] [] e = refl
pointwise-every (x ∷ l) (y ∷ m) e = ap (λ (b : Bool). nat_eq x y && b) (pointwise-every l m (omega (arith, e)))
pointwise-every [] (y ∷ m) e = absurd (omega (arith, e))
pointwise-every (x ∷ l) [] e = absurd (omega (arith, e))

-- a longer list is no part of a shorter one
pointwise-short : (l m : List ℕ) → length m < length l → pointwise nat_eq l m ≡ false
pointwise-short [] m h = absurd (omega (arith, h))
pointwise-short (x ∷ l) [] h = refl
pointwise-short (x ∷ l) (y ∷ m) h = ap (λ (b : Bool). nat_eq x y && b) (pointwise-short l m (omega (arith, h))) ∙ and-false (nat_eq x y)

pub ends-with-part : (l z : List ℕ) → ends_with nat_eq z l ≡ end_part l z
unfolding end_part
ends-with-part l z =
    ⊎_elim
    (λ (h : length z < length l).
    let none : length z - length l ≡ 0 = omega (arith, h) in
    rw (lt-leb (length l) (length z) h, none) (pointwise-short l z h))
    (λ (h : length l ≤ length z).
    let size : length l ≡ length (drop (length z - length l) z) = simp length-drop (omega arith) in
    rw (le-leb (length l) (length z) h) (pointwise-every l (drop (length z - length l) z) size ∙ every-ext (length l) _ _ (λ i k. rw (get_or-drop (length z - length l) z i 0))))
    (split (length z) (length l))
