-- What the desk answers to a line (document 01, 'The teaching plan'): a line address of 1 to 9 digits, a space and a string. The route from that line box when no box changes anything, or
-- `refused N` alone; 3 for an unreadable address or no space. (An address whose number is 0 is no line's, so it is 3 as well.) Assumes nothing.
use Rattle.std.specs.Prelude.{ℕ, ◌+◌, Bool, ◌&&◌, cond, List, [], ◌∷◌, ◌++◌, eqb, ltb, length, get_or, take, drop, Result, Ok, Err}
use Rattle.typeset.specs.Sets.{least}
use Rattle.refusal.specs.Numbers.{number_of}
use Rattle.plan.specs.declared.Plan.{Plan}
use Rattle.setup.specs.declared.Setup.{Setup}
use Rattle.embedded.specs.Embedded.{writes_address, number_from}
use Rattle.making.specs.declared.Maker.TheVariants.{Line}
use Rattle.making.specs.Making.{new_answer}
use Rattle.text.specs.Decimal.{decimal}
use Rattle.journey.specs.Hops.{journey}
use Rattle.journey.specs.Listing.{listing}
use Rattle.refusal.specs.declared.Refusal.{Refusal}

-- the place of the first space; the line's length where there is none
unfoldable pub space_in : List ℕ → ℕ
space_in l = least (length l) (λ i. eqb (get_or l i 0) 32)

-- what stands before it, and what stands after it
unfoldable pub address_text : List ℕ → List ℕ
address_text l = take (space_in l) l

unfoldable pub string_text : List ℕ → List ℕ
string_text l = drop (space_in l + 1) l

unfoldable pub readable : List ℕ → Bool
readable l = ltb (space_in l) (length l) && writes_address (address_text l)

-- "refused ", the number and a newline
unfoldable pub refused_text : ℕ → List ℕ
refused_text n = (114 ∷ 101 ∷ 102 ∷ 117 ∷ 115 ∷ 101 ∷ 100 ∷ 32 ∷ []) ++ decimal n ++ 10 ∷ []

abbrev pub told : Plan → Result Setup Refusal → List ℕ
told p (Ok s) = listing (journey p s)
told p (Err r) = refused_text (number_of r)

unfoldable pub desk_text : Plan → List ℕ → List ℕ
desk_text p l = cond (readable l) (told p (new_answer p (Line (number_from 0 (address_text l))) (string_text l) 0)) (refused_text 3)
