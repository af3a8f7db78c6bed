-- What stands after a type in a zone is what routing leaves of it for a suffix route (manual 6.3). So a reversed setup without a new routing address meets, of the reversible
-- boxes, those that stood before its box on the way there, the last of them first. Assumes nothing.
use mathlib.Core.Path.{◌≡◌, refl, sym}
use mathlib.Core.Logic.{⊎_elim}
use mathlib.Core.Bool.{true, false, false≢true}
use mathlib.Core.List.{List, [], ◌∷◌}
use Prim.Native.Nat.{ℕ, suc, ◌+◌, ◌<◌}
use native.Mathlib.Omega.{arith}
use lib.Dec.{eqb}
use lib.ListN.{length, get_or, drop}
use borrow.Author.Tests.{eqb-true, eq-eqb, eqb-false, ne_eqb, lt-ltb}
use Rattle.typeset.specs.Sets.{least}
use Rattle.typeset.proofs.Bools.{yes_or_no}
use Rattle.zone.proofs.Members.{elem}
use Rattle.routing.specs.Steps.{place_of, stands, before as passed, suffix_after}
use Rattle.reversal.specs.Reversal.{types_after}

-- the place of t, and what stands behind it
place_after : (t : ℕ) (l : List ℕ) → elem t l ≡ true → (place_of t l < length l) × (drop (place_of t l + 1) l ≡ types_after t l)
unfolding place_of least elem types_after
place_after t [] i = absurd (false≢true i)
place_after t (x ∷ xs) i =
    ⊎_elim
    (λ (e : eqb t x ≡ true). let d : eqb x t ≡ true = eq-eqb x t (sym (eqb-true t x e)) in rw (d, e) (omega arith, refl))
    (λ (e : eqb t x ≡ false).
    let d : eqb x t ≡ false = ne_eqb x t (λ q. eqb-false t x e (sym q)) in
    let h = place_after t xs (rw e at i) in
    let one : suc (least (length xs) (λ j. eqb (get_or xs j 0) t)) + 1 ≡ suc (least (length xs) (λ j. eqb (get_or xs j 0) t) + 1) = omega arith in
    rw (d, e, one) (omega (arith, h.0), h.1))
    (yes_or_no (eqb t x))

pub suffix-after : (t : ℕ) (l : List ℕ) → elem t l ≡ true → suffix_after t l ≡ types_after t l
unfolding suffix_after passed stands
suffix-after t l i = let h = place_after t l i in rw (lt-ltb (place_of t l) (length l) h.0) h.1
