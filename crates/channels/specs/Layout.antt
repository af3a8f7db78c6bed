-- How the code lays the two programs out: a line of digits for each state. That these digits are the programs of Channels is computed in proofs/Table.antt; so no reader has to believe them. Assumes nothing.
use Rattle.std.specs.Prelude.{ℕ, ◌-◌, ◌^◌, Bool, true, false, List, [], ◌∷◌}

-- A line for each state, with a hexadecimal digit for each kind, open first: the next state, or 9 where there is no step.
unfoldable pub table : List ℕ
table =
    -- the opener sends
    0x1999999  -- unused
    ∷ 0x9999499  -- opening
    ∷ 0x9993499  -- oacked
    ∷ 0x9999493  -- readying
    ∷ 0x9999999  -- closing
    ∷ 0x9999969  -- closing2
    ∷ 0x9999999  -- closing3
    ∷ 0x9999989  -- closed
    ∷ 0x9999999  -- end_chan
    -- the opener takes
    ∷ 0x9999999  -- unused
    ∷ 0x9289999  -- opening
    ∷ 0x9999799  -- oacked
    ∷ 0x9999793  -- readying
    ∷ 0x9449584  -- closing
    ∷ 0x9999989  -- closing2
    ∷ 0x9999989  -- closing3
    ∷ 0x9999999  -- closed
    ∷ 0x9999999  -- end_chan
    -- the answerer sends
    ∷ 0x9999999  -- unused
    ∷ 0x9289999  -- opened
    ∷ 0x9999499  -- oacking
    ∷ 0x9999493  -- readied
    ∷ 0x9999999  -- closing
    ∷ 0x9999969  -- closing2
    ∷ 0x9999999  -- closing3
    ∷ 0x9999989  -- closed
    ∷ 0x9999999  -- end_chan
    -- the answerer takes
    ∷ 0x1999999  -- unused
    ∷ 0x9999799  -- opened
    ∷ 0x9993799  -- oacking
    ∷ 0x9999793  -- readied
    ∷ 0x9994584  -- closing
    ∷ 0x9999989  -- closing2
    ∷ 0x9999989  -- closing3
    ∷ 0x9999999  -- closed
    ∷ 0x9999799  -- end_chan
    ∷ []

-- where the lines of a program begin, by whether it opens and whether it sends
abbrev pub part : Bool → Bool → ℕ
part true true = 0
part true false = 9
part false true = 18
part false false = 27

-- the place of a kind's digit in a line
unfoldable pub column : ℕ → ℕ
column k = 16 ^ (6 - k)
