-- Sets of box types: a number below 2 ^ 32, whose bit t says whether the type t is in. The one basic notion is `has`.
-- Every other definition takes a test p on numbers, and goes through the numbers below n, 0 first:
-- `every n p`, all pass; `some n p`, one passes; `least n p`, the first that passes (n where none does);
-- `count n p`, how many pass; `set_of n p`, the set of those that pass; `listed n p`, the list of them.
-- Assumes nothing.
use Rattle.std.specs.Prelude.{ℕ, zero, suc, ◌+◌, ◌*◌, ◌/◌, ◌%◌, ◌^◌, Bool, true, false, not, ◌&&◌, ◌||◌, List, [], ◌∷◌, map, eqb}

-- the type t is in the set s: bit t of s is 1
unfoldable pub has : ℕ → ℕ → Bool
has t s = eqb (s / 2 ^ t % 2) 1

-- 1 for a test that passed, 0 for one that failed
abbrev pub digit : Bool → ℕ
digit true = 1
digit false = 0

unfoldable pub every : ℕ → (ℕ → Bool) → Bool
every zero p = true
every (suc n) p = p 0 && every n (λ t. p (suc t))

unfoldable pub some : ℕ → (ℕ → Bool) → Bool
some zero p = false
some (suc n) p = p 0 || some n (λ t. p (suc t))

-- 0 where the first test passed, else one more than what follows
abbrev pub first_of : Bool → ℕ → ℕ
first_of true k = 0
first_of false k = suc k

unfoldable pub least : ℕ → (ℕ → Bool) → ℕ
least zero p = 0
least (suc n) p = first_of (p 0) (least n (λ t. p (suc t)))

unfoldable pub count : ℕ → (ℕ → Bool) → ℕ
count zero p = 0
count (suc n) p = digit (p 0) + count n (λ t. p (suc t))

unfoldable pub set_of : ℕ → (ℕ → Bool) → ℕ
set_of zero p = 0
set_of (suc n) p = set_of n (λ t. p (suc t)) * 2 + digit (p 0)

-- 0 where it passed, before what follows
abbrev pub put_first : Bool → List ℕ → List ℕ
put_first true ts = 0 ∷ ts
put_first false ts = ts

unfoldable pub listed : ℕ → (ℕ → Bool) → List ℕ
listed zero p = []
listed (suc n) p = put_first (p 0) (map suc (listed n (λ t. p (suc t))))

-- s without t
unfoldable pub without : ℕ → ℕ → ℕ
without s t = set_of 32 (λ u. has u s && not (eqb u t))

-- each type of a is in b
unfoldable pub within : ℕ → ℕ → Bool
within a b = every 32 (λ t. not (has t a) || has t b)

-- the lowest type of s, 32 where s has none
unfoldable pub lowest : ℕ → ℕ
lowest s = least 32 (λ t. has t s)

-- how many types s has
unfoldable pub size : ℕ → ℕ
size s = count 32 (λ t. has t s)

-- the types of a and those of b
unfoldable pub join : ℕ → ℕ → ℕ
join a b = set_of 32 (λ t. has t a || has t b)

-- the types of a that are not in b
unfoldable pub minus : ℕ → ℕ → ℕ
minus a b = set_of 32 (λ t. has t a && not (has t b))

-- the types that are in both a and b
unfoldable pub meet : ℕ → ℕ → ℕ
meet a b = set_of 32 (λ t. has t a && has t b)

-- the types of s, the lowest first
unfoldable pub members : ℕ → List ℕ
members s = listed 32 (λ t. has t s)

-- ---- tests

-- b holds wherever a does
abbrev pub implies : Bool → Bool → Bool
implies a b = not a || b

-- both hold or neither does
abbrev pub same : Bool → Bool → Bool
same true b = b
same false b = not b
