-- What the operations on a lent set of links answer, and what they leave in it: 82, then 80, then 81; a refusal changes nothing. Assumes nothing.
use Rattle.std.specs.Prelude.{ℕ, Bool, true, false, ◌||◌, cond, List, ltb, length, Result, Ok, Err, ⊤}
use Rattle.refusal.specs.declared.Refusal.{Refusal}
use Rattle.refusal.specs.declared.Refusal.TheVariants.{OnePort, LinksFull, NotLinks}
use Rattle.refusal.specs.Numbers.{number_of}
use Rattle.lists.specs.Lists.{elem}
use Rattle.links.specs.Links.{apart}
use Rattle.links.specs.Sets.{added, removed, dropped, sources, links, formed, places_of}

abbrev pub is_done : Result ⊤ Refusal → Bool
is_done (Ok _) = true
is_done (Err _) = false

-- an answer as a number: 0, or the refusal's
abbrev pub number_said : Result ⊤ Refusal → ℕ
number_said (Ok _) = 0
number_said (Err r) = number_of r

-- by whether the memory holds a set
abbrev pub said_formed : Bool → Result ⊤ Refusal
said_formed true = Ok tt
said_formed false = Err NotLinks

-- adding: by whether the memory holds a set, the link's ports differ, and it is there or there is room
abbrev pub said_adding : Bool → Bool → Bool → Result ⊤ Refusal
said_adding false a r = Err NotLinks
said_adding true false r = Err OnePort
said_adding true true false = Err LinksFull
said_adding true true true = Ok tt

-- room for the link: it is there already, or fewer than 64 are
unfoldable pub room_for : ℕ → List ℕ → Bool
room_for x m = elem x (links m) || ltb (length (links m)) 64

unfoldable pub add_said : ℕ → List ℕ → Result ⊤ Refusal
add_said x m = said_adding (formed m) (apart x) (room_for x m)

unfoldable pub add_after : ℕ → List ℕ → List ℕ
add_after x m = cond (is_done (add_said x m)) (places_of (added x (links m))) m

unfoldable pub remove_after : ℕ → List ℕ → List ℕ
remove_after x m = cond (formed m) (places_of (removed x (links m))) m

unfoldable pub drop_after : ℕ → List ℕ → List ℕ
drop_after p m = cond (formed m) (places_of (dropped p (links m))) m

-- how many, where the memory holds a set
abbrev pub said_listing : Bool → ℕ → Result ℕ Refusal
said_listing true n = Ok n
said_listing false n = Err NotLinks

-- listing the sources of t: how many they are, and the room with them
unfoldable pub listed : ℕ → List ℕ → Result ℕ Refusal
listed t m = said_listing (formed m) (length (sources t (links m)))

unfoldable pub listed_after : ℕ → List ℕ → List ℕ → List ℕ
listed_after t m room = cond (formed m) (places_of (sources t (links m))) room
