-- The desk's listing (document 01, 'The teaching plan'): a head line, then a line for each hop: hop from 1, box kind, type or box number (0 for error), address, types left.
-- Text is bytes, as ASCII codes. Assumes nothing.
use Rattle.std.specs.Prelude.{ℕ, ◌+◌, List, [], ◌∷◌, ◌++◌}
use Rattle.routing.specs.declared.Callee.{Callee}
use Rattle.routing.specs.declared.Callee.TheVariants.{Feature, Line, Trunk, Resource, Error}
use Rattle.routing.specs.Interface.{address_of}
use Rattle.text.specs.Decimal.{decimal}
use Rattle.journey.specs.Hops.{Hop}

-- feature, line, trunk, resource, error
abbrev pub kind_word : Callee → List ℕ
kind_word (Feature t a) = 102 ∷ 101 ∷ 97 ∷ 116 ∷ 117 ∷ 114 ∷ 101 ∷ []
kind_word (Line n a) = 108 ∷ 105 ∷ 110 ∷ 101 ∷ []
kind_word (Trunk n a) = 116 ∷ 114 ∷ 117 ∷ 110 ∷ 107 ∷ []
kind_word (Resource n a) = 114 ∷ 101 ∷ 115 ∷ 111 ∷ 117 ∷ 114 ∷ 99 ∷ 101 ∷ []
kind_word (Error a) = 101 ∷ 114 ∷ 114 ∷ 111 ∷ 114 ∷ []

-- the type of a feature box, the number of an interface box, 0 for the error box
abbrev pub number_in : Callee → ℕ
number_in (Feature t a) = t
number_in (Line n a) = n
number_in (Trunk n a) = n
number_in (Resource n a) = n
number_in (Error a) = 0

-- "hop box number address left" and a newline
unfoldable pub head_line : List ℕ
head_line =
    104 ∷ 111 ∷ 112 ∷ 32 ∷ 98 ∷ 111 ∷ 120 ∷ 32 ∷ 110 ∷ 117 ∷ 109 ∷ 98 ∷ 101 ∷ 114 ∷ 32 ∷ 97 ∷ 100 ∷ 100 ∷ 114 ∷ 101 ∷ 115 ∷ 115 ∷ 32 ∷ 108 ∷ 101 ∷ 102 ∷ 116 ∷ 10 ∷ []

-- a field and a space; the last one and a newline
abbrev pub spaced : List ℕ → List ℕ
spaced l = l ++ 32 ∷ []

unfoldable pub line : ℕ → Callee → ℕ → List ℕ
line k c left = spaced (decimal k) ++ spaced (kind_word c) ++ spaced (decimal (number_in c)) ++ spaced (decimal (address_of c)) ++ decimal left ++ 10 ∷ []

-- the lines of hops, counted from k
unfoldable pub lines : ℕ → List Hop → List ℕ
lines k [] = []
lines k (h ∷ hs) = line k h.callee h.left ++ lines (k + 1) hs

unfoldable pub listing : List Hop → List ℕ
listing hs = head_line ++ lines 1 hs
