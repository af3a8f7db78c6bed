-- The listing that document 01 shows for the input `200 300`, byte for byte. Computed from the definitions in proofs/Example.antt. Assumes nothing.
use Rattle.std.specs.Prelude.{ℕ, ◌≡◌, List, [], ◌∷◌, ◌++◌}
use Rattle.teaching.specs.Teaching.{teaching}
use Rattle.journey.specs.Desk.{desk_text}

-- "200 300"
unfoldable pub input : List ℕ
input = 50 ∷ 48 ∷ 48 ∷ 32 ∷ 51 ∷ 48 ∷ 48 ∷ []

unfoldable pub shown : List ℕ
shown =
    -- hop box number address left
    (104 ∷ 111 ∷ 112 ∷ 32 ∷ 98 ∷ 111 ∷ 120 ∷ 32 ∷ 110 ∷ 117 ∷ 109 ∷ 98 ∷ 101 ∷ 114 ∷ 32 ∷ 97 ∷ 100 ∷ 100 ∷ 114 ∷ 101 ∷ 115 ∷ 115 ∷ 32 ∷ 108 ∷ 101 ∷ 102 ∷ 116 ∷ 10 ∷ [])
    -- 1 feature 1 200 2
    ++ (49 ∷ 32 ∷ 102 ∷ 101 ∷ 97 ∷ 116 ∷ 117 ∷ 114 ∷ 101 ∷ 32 ∷ 49 ∷ 32 ∷ 50 ∷ 48 ∷ 48 ∷ 32 ∷ 50 ∷ 10 ∷ [])
    -- 2 feature 2 200 1
    ++ (50 ∷ 32 ∷ 102 ∷ 101 ∷ 97 ∷ 116 ∷ 117 ∷ 114 ∷ 101 ∷ 32 ∷ 50 ∷ 32 ∷ 50 ∷ 48 ∷ 48 ∷ 32 ∷ 49 ∷ 10 ∷ [])
    -- 3 feature 4 200 0
    ++ (51 ∷ 32 ∷ 102 ∷ 101 ∷ 97 ∷ 116 ∷ 117 ∷ 114 ∷ 101 ∷ 32 ∷ 52 ∷ 32 ∷ 50 ∷ 48 ∷ 48 ∷ 32 ∷ 48 ∷ 10 ∷ [])
    -- 4 feature 3 300 3
    ++ (52 ∷ 32 ∷ 102 ∷ 101 ∷ 97 ∷ 116 ∷ 117 ∷ 114 ∷ 101 ∷ 32 ∷ 51 ∷ 32 ∷ 51 ∷ 48 ∷ 48 ∷ 32 ∷ 51 ∷ 10 ∷ [])
    -- 5 feature 5 300 2
    ++ (53 ∷ 32 ∷ 102 ∷ 101 ∷ 97 ∷ 116 ∷ 117 ∷ 114 ∷ 101 ∷ 32 ∷ 53 ∷ 32 ∷ 51 ∷ 48 ∷ 48 ∷ 32 ∷ 50 ∷ 10 ∷ [])
    -- 6 feature 4 300 1
    ++ (54 ∷ 32 ∷ 102 ∷ 101 ∷ 97 ∷ 116 ∷ 117 ∷ 114 ∷ 101 ∷ 32 ∷ 52 ∷ 32 ∷ 51 ∷ 48 ∷ 48 ∷ 32 ∷ 49 ∷ 10 ∷ [])
    -- 7 feature 2 300 0
    ++ (55 ∷ 32 ∷ 102 ∷ 101 ∷ 97 ∷ 116 ∷ 117 ∷ 114 ∷ 101 ∷ 32 ∷ 50 ∷ 32 ∷ 51 ∷ 48 ∷ 48 ∷ 32 ∷ 48 ∷ 10 ∷ [])
    -- 8 line 8 300 0
    ++ (56 ∷ 32 ∷ 108 ∷ 105 ∷ 110 ∷ 101 ∷ 32 ∷ 56 ∷ 32 ∷ 51 ∷ 48 ∷ 48 ∷ 32 ∷ 48 ∷ 10 ∷ [])

abbrev pub Example : Type 0
Example = desk_text teaching input ≡ shown
