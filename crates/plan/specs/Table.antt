-- A table of the box numbers that are taken, for L17 and L18: two bits for each number, sixteen numbers to a word: the kind of the subscribers that have the number, 0 where nobody has it.
-- (Two bits are enough: a subscriber that keeps L10 and L12 and has a number is of the kind 1, 2 or 3.)
-- Assumes nothing.
use Rattle.std.specs.Prelude.{ℕ, ◌*◌, ◌/◌, ◌%◌, ◌^◌, Bool, not, ◌&&◌, ◌||◌, List, [], ◌∷◌, eqb, ltb, get_or, set, take}
use Rattle.typeset.specs.Sets.{every, implies, join}
use Rattle.plan.specs.declared.Subscriber.{Subscriber}
use Rattle.plan.specs.Parts.{box}

-- the kind that has the number n
unfoldable pub holder : List ℕ → ℕ → ℕ
holder taken n = get_or taken (n / 16) 0 / 2 ^ (n % 16 * 2) % 4

-- the table after a kind enters itself at the number n, where nobody was, or only its own kind
unfoldable pub entered : List ℕ → ℕ → ℕ → List ℕ
entered taken n kind = set taken (n / 16) (join (get_or taken (n / 16) 0) (kind * 2 ^ (n % 16 * 2) % 2 ^ 32))

-- a subscriber of this kind may have the number n: nobody has it, or only others of its kind, which are no lines
unfoldable pub may_take : List ℕ → ℕ → ℕ → Bool
may_take taken kind n = eqb (holder taken n) 0 || (eqb (holder taken n) kind && not (eqb kind 1))

-- so for each of its numbers
unfoldable pub fits : List ℕ → Subscriber → Bool
fits taken s = every 4 (λ x. implies (ltb x s.count) (may_take taken s.kind (box s x)))

-- the table after a kind takes some numbers
unfoldable pub takes : List ℕ → ℕ → List ℕ → List ℕ
takes taken kind [] = taken
takes taken kind (n ∷ ns) = takes (entered taken n kind) kind ns

-- the table after a subscriber takes its numbers
unfoldable pub claimed : List ℕ → Subscriber → List ℕ
claimed taken s = takes taken s.kind (take s.count s.boxes)
