-- What routing over a plan file answers, and what it leaves in lent memory. Assumes nothing.
use Rattle.std.specs.Prelude.{ℕ, List, Result, Ok, Err}
use Rattle.refusal.specs.declared.Refusal.{Refusal}
use Rattle.refusal.specs.Numbers.{◌>>=◌, number_of, place_of}
use Rattle.setup.specs.declared.Setup.{Setup}
use Rattle.planread.specs.Reading.{read_of}
use Rattle.setupbytes.specs.Codec.{setup_bytes}
use Rattle.routing.specs.declared.Callee.{Callee}
use Rattle.routing.specs.declared.Callee.TheVariants.{Feature, Line, Trunk, Resource, Error}
use Rattle.routing.specs.declared.Routed.{Routed as Route}
use Rattle.routing.specs.Routing.{answer, outcome, source_list_after, target_list_after}
use Rattle.dfc.specs.declared.Routed.{Routed}
use Rattle.answers.specs.Said.{place_number}
use Rattle.dfc.specs.Said.{lent_over}

-- the box that a call is routed to: 0 a feature box, 1 a line, 2 a trunk, 3 a resource box, 4 the error box
abbrev pub box_kind : Callee → ℕ
box_kind (Feature t a) = 0
box_kind (Line n a) = 1
box_kind (Trunk n a) = 2
box_kind (Resource n a) = 3
box_kind (Error a) = 4

-- a feature box's type, an interface box's number, 0 for the error box
abbrev pub box_number : Callee → ℕ
box_number (Feature t a) = t
box_number (Line n a) = n
box_number (Trunk n a) = n
box_number (Resource n a) = n
box_number (Error a) = 0

abbrev pub box_address : Callee → ℕ
box_address (Feature t a) = a
box_address (Line n a) = a
box_address (Trunk n a) = a
box_address (Resource n a) = a
box_address (Error a) = a

-- number 0, how many types are left, and the box; or the refusal's number and place, and zeros
abbrev pub routed_to : Callee → ℕ → Routed
routed_to c left = record { number = 0; value = left; kind = box_kind c; box_number = box_number c; address = box_address c }

abbrev pub not_routed : Refusal → Routed
not_routed r = record { number = number_of r; value = place_number (place_of r); kind = 0; box_number = 0; address = 0 }

abbrev pub routed_said : Result Route Refusal → Routed
routed_said (Ok a) = routed_to a.callee a.left
routed_said (Err r) = not_routed r

-- the setup that the box receives, in the room that was lent; a refusal leaves the room as it was
abbrev pub routed_room : Result Route Refusal → List ℕ → List ℕ
routed_room a room = lent_over a (λ r. setup_bytes r.setup) room

-- a setup routed over a file, where the two lists have room for n and m types: the file's refusal comes first
unfoldable pub route_over : List ℕ → Setup → ℕ → ℕ → Result Route Refusal
route_over file s n m = read_of file >>= λ p. answer p s (Ok tt) n m

unfoldable pub source_routed : List ℕ → Setup → ℕ → ℕ → List ℕ → List ℕ
source_routed file s n m l = lent_over (read_of file) (λ p. source_list_after p s (outcome p s (Ok tt) n m) l) l

unfoldable pub target_routed : List ℕ → Setup → ℕ → ℕ → List ℕ → List ℕ
target_routed file s n m l = lent_over (read_of file) (λ p. target_list_after p s (outcome p s (Ok tt) n m) l) l
