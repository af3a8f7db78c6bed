-- What parts of the program promise each other. Assumes nothing.
use Rattle.std.specs.Prelude.{ℕ, suc, ◌+◌, ◌-◌, Bool, ◌&&◌, cond, List, [], ◌∷◌, map, eqb, ltb, leb, get_or, set}
use Rattle.typeset.specs.Sets.{has, every, join, minus}
use Rattle.lists.specs.Lists.{keep}
use Rattle.plan.specs.declared.Subscriber.{Subscriber}
use Rattle.index.specs.Index.{address_of}

-- the subscriber is in row k
unfoldable pub wants : ℕ → Subscriber → Bool
wants k s = cond (ltb k 32) (has k s.source) (has (k - 32) s.target)

-- those of some subscribers that are in row k
unfoldable pub members : ℕ → List Subscriber → List ℕ
members k subs = map address_of (keep (wants k) subs)

-- ---- the rows of the types of a set: the types 0 to 31 have the rows from `first` on

unfoldable pub touched : ℕ → ℕ → ℕ → Bool
touched first types k = leb first k && (ltb (k - first) 32 && has (k - first) types)

-- each row as f makes it
unfoldable pub each : (ℕ → List ℕ → List ℕ) → List (List ℕ) → List (List ℕ)
each f [] = []
each f (r ∷ rs) = f 0 r ∷ each (λ k. f (suc k)) rs

-- the rows of the types of a set as f makes them, the others as they are
unfoldable pub upon : ℕ → ℕ → (ℕ → List ℕ → List ℕ) → List (List ℕ) → List (List ℕ)
upon first types f rows = each (λ k r. cond (touched first types k) (f k r) r) rows

-- a row with one address more, if it has room
unfoldable pub with_one_more : ℕ → List ℕ → List ℕ
with_one_more a r = cond (ltb (get_or r 256 0) 256) (set (set r (get_or r 256 0) a) 256 (get_or r 256 0 + 1)) r

-- ---- a row beside a list

-- from the place n on the row has 0, and n in its last place
unfoldable pub ends_at : ℕ → List ℕ → Bool
ends_at n r = every (256 - n) (λ j. eqb (get_or r (n + j) 0) 0) && eqb (get_or r 256 0) n

-- from the place n on the row has this list, then it ends
unfoldable pub goes_on : ℕ → List ℕ → List ℕ → Bool
goes_on n r [] = ends_at n r
goes_on n r (a ∷ l) = ltb n 256 && (eqb (get_or r n 0) a && goes_on (n + 1) r l)

-- so each row, with its own place and its own list
unfoldable pub all_go_on : List ℕ → List (List ℕ) → (ℕ → List ℕ) → Bool
all_go_on met index rest = every 64 (λ k. goes_on (get_or met k 0) (get_or index k []) (rest k))

-- the lists with one address more in the rows of the types of a set
unfoldable pub owing : ℕ → ℕ → ℕ → (ℕ → List ℕ) → ℕ → List ℕ
owing first types a rest k = cond (touched first types k) (a ∷ rest k) (rest k)

-- ---- a change

-- the types that are in one of two sets only
unfoldable pub differing : ℕ → ℕ → ℕ
differing a b = join (minus a b) (minus b a)
