-- Numbers as bytes, high byte first. Assumes nothing.
use Rattle.std.specs.Prelude.{ℕ, zero, suc, ◌+◌, ◌*◌, ◌/◌, ◌%◌, ◌<◌, List, [], ◌∷◌, ◌++◌, take, drop}

-- the w low bytes of a number, the highest of them first
unfoldable pub high : ℕ → ℕ → List ℕ
high zero n = []
high (suc w) n = high w (n / 256) ++ (n % 256 ∷ [])

-- the number that some bytes are, the highest first; n stands before them
unfoldable pub number_after : ℕ → List ℕ → ℕ
number_after n [] = n
number_after n (b ∷ bs) = number_after (n * 256 + b) bs

unfoldable pub number : List ℕ → ℕ
number bs = number_after 0 bs

-- some numbers of w bytes one after the other
unfoldable pub row : ℕ → List ℕ → List ℕ
row w [] = []
row w (n ∷ ns) = high w n ++ row w ns

-- the k numbers of w bytes each that some bytes begin with
unfoldable pub numbers : ℕ → ℕ → List ℕ → List ℕ
numbers w zero bs = []
numbers w (suc k) bs = number (take w bs) ∷ numbers w k (drop w bs)

-- each number of a list is below n
unfoldable pub Below : ℕ → List ℕ → Type 0
Below n [] = Unit
Below n (x ∷ xs) = (x < n) × Below n xs
