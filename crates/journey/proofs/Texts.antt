-- One text stored after the other. Assumes nothing.
use mathlib.Core.Path.{◌≡◌, ◌∙◌}
use mathlib.Core.List.{List, [], ◌∷◌, ◌++◌}
use Prim.Native.Nat.{ℕ, ◌+◌, ◌≤◌}
use native.Mathlib.Omega.{arith}
use lib.ListN.{length, length-append}
use lib.Seq.{sets}
use Rattle.text.proofs.Stores.{sets-both}
use Rattle.text.specs.Decimal.{decimal}
use Rattle.text.proofs.Tens.{decimal-some}
use Rattle.routing.specs.declared.Callee.{Callee}
use Rattle.routing.specs.declared.Callee.TheVariants.{Feature, Line, Trunk, Resource, Error}
use Rattle.journey.specs.Listing.{kind_word, spaced}

-- a text stored in the room `l` at a place: the place after it, and the room then
abbrev pub Stored : List ℕ → ℕ → List ℕ → ℕ → List ℕ → Type 0
Stored l at text next after = (next ≡ at + length text) × (after ≡ sets l at text)

pub and_then : (l : List ℕ) (at : ℕ) (xs : List ℕ) (next : ℕ) (m ys : List ℕ) (last : ℕ) (n : List ℕ)
    → Stored l at xs next m → Stored m next ys last n → Stored l at (xs ++ ys) last n
and_then l at xs next m ys last n first second = (
  omega (arith, first.0, second.0, length-append xs ys),
  second.1 ∙ rw (first.0, first.1) (sets-both l at xs ys),
)

pub spaced-short : (n : ℕ) → length (spaced (decimal n)) ≤ 11
spaced-short n = omega (arith, length-append (decimal n) (32 ∷ []), (decimal-some n).1)

pub kind-short : (c : Callee) → length (spaced (kind_word c)) ≤ 9
kind-short (Feature t a) = omega arith
kind-short (Line n a) = omega arith
kind-short (Trunk n a) = omega arith
kind-short (Resource n a) = omega arith
kind-short (Error a) = omega arith

-- from the first place on
pub from_start : (l text : List ℕ) (next : ℕ) (after : List ℕ) → Stored l 0 text next after → (next ≡ length text) × (after ≡ sets l 0 text)
from_start l text next after s = (omega (arith, s.0), s.1)
