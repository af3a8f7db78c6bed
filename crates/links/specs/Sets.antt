-- Sets of links as lists of numbers, and as the 64 places of lent memory that hold one. Assumes nothing.
use Rattle.std.specs.Prelude.{ℕ, ◌-◌, Bool, true, not, ◌&&◌, cond, List, [], ◌∷◌, ◌++◌, map, eqb, ltb, length, replicate}
use Rattle.lists.specs.Lists.{elem, keep}
use Rattle.links.specs.Links.{sink_of, source_of, apart, touches}

-- ---- what the operations make of a set

-- x put before the first that is greater
unfoldable pub insert : ℕ → List ℕ → List ℕ
insert x [] = x ∷ []
insert x (y ∷ ys) = cond (ltb x y) (x ∷ y ∷ ys) (y ∷ insert x ys)

-- with x; as it was, where it has x
unfoldable pub added : ℕ → List ℕ → List ℕ
added x xs = cond (elem x xs) xs (insert x xs)

-- without x
unfoldable pub removed : ℕ → List ℕ → List ℕ
removed x xs = keep (λ l. not (eqb l x)) xs

-- without every link that touches the port
unfoldable pub dropped : ℕ → List ℕ → List ℕ
dropped p xs = keep (λ l. not (touches p l)) xs

-- the sources of the links whose sink is t
unfoldable pub sources : ℕ → List ℕ → List ℕ
sources t xs = map source_of (keep (λ l. eqb (sink_of l) t) xs)

-- ---- in memory: the links one after the other, and 0 in every place that is left

-- a place that has a link: any number but 0
abbrev pub taken : ℕ → Bool
taken l = not (eqb l 0)

-- the links that memory holds
unfoldable pub links : List ℕ → List ℕ
links m = keep taken m

-- all of them are 0
unfoldable pub blank : List ℕ → Bool
blank [] = true
blank (x ∷ xs) = eqb x 0 && blank xs

-- each link is greater than the one before it, first than b, and its ports differ; from the first 0 on all is 0
unfoldable pub formed_from : ℕ → List ℕ → Bool
formed_from b [] = true
formed_from b (x ∷ xs) = cond (eqb x 0) (blank xs) (ltb b x && apart x && formed_from x xs)

unfoldable pub formed : List ℕ → Bool
formed m = formed_from 0 m

-- a list of at most 64 numbers in 64 places
unfoldable pub places_of : List ℕ → List ℕ
places_of xs = xs ++ replicate (64 - length xs) 0
