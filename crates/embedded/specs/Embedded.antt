-- The address that a dialled string embeds (manual 6.2). House rule: a leading * with two digits after it is skipped; the rest must be 1 to 9 digits whose number is not 0.
-- Anything else embeds none. Assumes nothing.
use Rattle.std.specs.Prelude.{ℕ, ◌+◌, ◌-◌, ◌*◌, Bool, true, false, not, ◌&&◌, cond, List, [], ◌∷◌, eqb, leb, length, get_or, drop, Option, Some, None}
use Rattle.typeset.specs.Sets.{every}

-- a digit, as its ASCII code
unfoldable pub digit : ℕ → Bool
digit c = leb 48 c && leb c 57

unfoldable pub all_digits : List ℕ → Bool
all_digits l = every (length l) (λ i. digit (get_or l i 0))

-- the number that digits write, after those that wrote n
unfoldable pub number_from : ℕ → List ℕ → ℕ
number_from n [] = n
number_from n (c ∷ cs) = number_from (n * 10 + (c - 48)) cs

-- a string begins with a feature code: * and two digits
unfoldable pub coded : List ℕ → Bool
coded l = eqb (get_or l 0 0) 42 && digit (get_or l 1 0) && digit (get_or l 2 0)

-- how much of it is skipped, and what is left
unfoldable pub skipped : List ℕ → ℕ
skipped l = cond (coded l) 3 0

unfoldable pub after_code : List ℕ → List ℕ
after_code l = drop (skipped l) l

-- 1 to 9 digits whose number is not 0
unfoldable pub writes_address : List ℕ → Bool
writes_address l = leb 1 (length l) && leb (length l) 9 && all_digits l && not (eqb (number_from 0 l) 0)

abbrev pub dialled : Bool → ℕ → Option ℕ
dialled true a = Some a
dialled false a = None

unfoldable pub embedded : List ℕ → Option ℕ
embedded l = dialled (writes_address (after_code l)) (number_from 0 (after_code l))
