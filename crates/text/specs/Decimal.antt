-- Numbers as text: their decimal digits, high digit first, as ASCII codes, without zeros in front. Assumes nothing.
use Rattle.std.specs.Prelude.{ℕ, zero, suc, ◌+◌, ◌/◌, ◌%◌, List, [], ◌∷◌, ltb, length, get_or, replicate}
use Rattle.std.proofs.lemmas.List.Edits.{sets}
use Rattle.typeset.specs.Sets.{least}
use Rattle.text.specs.declared.Digits.{Digits}

-- what the digits count, from the last: 1, 10, 100 and on
unfoldable pub tens : List ℕ
tens = 1 ∷ 10 ∷ 100 ∷ 1000 ∷ 10000 ∷ 100000 ∷ 1000000 ∷ 10000000 ∷ 100000000 ∷ 1000000000 ∷ []

-- how many digits a number below 10,000,000,000 has: one, and one more for each of 10, 100, 1000 .. that it reaches
unfoldable pub size : ℕ → ℕ
size n = least 9 (λ k. ltb n (get_or tens (k + 1) 0)) + 1

-- its last k digits
unfoldable pub last_digits : ℕ → ℕ → List ℕ
last_digits zero n = []
last_digits (suc k) n = (48 + n / get_or tens k 0 % 10) ∷ last_digits k n

unfoldable pub decimal : ℕ → List ℕ
decimal n = last_digits (size n) n

-- as the program holds them: stored from place 0 on in ten places that were 0, and how many there are
unfoldable pub digits : ℕ → Digits
digits n = record { bytes = sets (replicate 10 0) 0 (decimal n); len = length (decimal n) }
