-- Lists of numbers: what stands in one, what of it passes a test, and whether it ascends. Assumes nothing.
use Rattle.std.specs.Prelude.{ℕ, Bool, true, false, ◌&&◌, ◌||◌, cond, List, [], ◌∷◌, eqb, ltb}

-- x stands in the list
unfoldable pub elem : ℕ → List ℕ → Bool
elem x [] = false
elem x (y ∷ ys) = eqb x y || elem x ys

-- those that pass the test, in their order
unfoldable pub keep : {A : Type 0} → (A → Bool) → List A → List A
keep p [] = []
keep p (x ∷ xs) = cond (p x) (x ∷ keep p xs) (keep p xs)

-- each number is greater than the one before it, the first than b; so none stands there twice
unfoldable pub ascend : ℕ → List ℕ → Bool
ascend b [] = true
ascend b (x ∷ xs) = ltb b x && ascend x xs
