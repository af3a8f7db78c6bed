-- Dialled strings: 0 to 32 symbols of 0-9, * and #, as their ASCII codes. Assumes nothing.
use Rattle.std.specs.Prelude.{ℕ, ◌-◌, Bool, ◌&&◌, ◌||◌, List, ◌++◌, eqb, leb, length, get_or, take, replicate}
use Rattle.typeset.specs.Sets.{every}
use Rattle.setup.specs.declared.Dialled.{Dialled}

-- a digit, * or #
unfoldable pub symbol : ℕ → Bool
symbol c = eqb c 42 || eqb c 35 || (leb 48 c && leb c 57)

-- a legal string: at most 32, each of them a symbol
unfoldable pub legal_string : List ℕ → Bool
legal_string l = leb (length l) 32 && every (length l) (λ i. symbol (get_or l i 0))

-- 32 places: a list, then 0 in each place that is left
unfoldable pub padded : List ℕ → List ℕ
padded l = l ++ replicate (32 - length l) 0

-- a string as a setup holds it, and how many symbols there are
unfoldable pub dialled : List ℕ → Dialled
dialled l = record { symbols = padded l; len = length l }

-- what a setup holds: the first len places
unfoldable pub string_of : Dialled → List ℕ
string_of d = take d.len d.symbols

-- it is legal; what stands past its length does not count
unfoldable pub legal_dialled : Dialled → Bool
legal_dialled d = leb d.len 32 && every d.len (λ i. symbol (get_or d.symbols i 0))
