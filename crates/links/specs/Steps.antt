-- What parts of the program promise each other: the place of a link, a link put in or taken out, and the tests of a place. Assumes nothing.
use Rattle.std.specs.Prelude.{ℕ, suc, Bool, not, ◌&&◌, cond, List, [], ◌∷◌, map, eqb, ltb}
use Rattle.lists.specs.Lists.{keep}
use Rattle.links.specs.Links.{sink_of, source_of, touches}
use Rattle.links.specs.Sets.{taken}

-- how many links below x stand at the front
unfoldable pub place_of : ℕ → List ℕ → ℕ
place_of x [] = 0
place_of x (l ∷ ls) = cond (taken l && ltb l x) (suc (place_of x ls)) 0

-- x, and then what stands there, up to the first free place
unfoldable pub pushed : ℕ → List ℕ → List ℕ
pushed x [] = []
pushed x (l ∷ ls) = x ∷ cond (taken l) (pushed l ls) []

-- what follows, up to the first 0 and with it; at the end a 0 as well
unfoldable pub pulled : List ℕ → List ℕ
pulled [] = 0 ∷ []
pulled (l ∷ ls) = l ∷ cond (taken l) (pulled ls) []

-- a place whose link stays when the port is dropped
unfoldable pub stays : ℕ → ℕ → Bool
stays p l = taken l && not (touches p l)

unfoldable pub remaining : ℕ → List ℕ → List ℕ
remaining p m = keep (stays p) m

-- a place whose link is heard at the sink
unfoldable pub audible : ℕ → ℕ → Bool
audible t l = taken l && eqb (sink_of l) t

unfoldable pub heard_at : ℕ → List ℕ → List ℕ
heard_at t m = map source_of (keep (audible t) m)
