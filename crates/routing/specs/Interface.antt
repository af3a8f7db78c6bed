-- The interface box of an address (manual 6.5): the target's line box; its first listed trunk or resource box (house choice); else the error box. Assumes nothing.
use Rattle.std.specs.Prelude.{ℕ, Bool, true, false, cond, eqb, Option, Some, None}
use Rattle.plan.specs.declared.Subscriber.{Subscriber}
use Rattle.plan.specs.declared.Plan.{Plan}
use Rattle.plan.specs.Parts.{at, box}
use Rattle.plan.specs.Find.{lookup}
use Rattle.routing.specs.declared.Callee.{Callee}
use Rattle.routing.specs.declared.Callee.TheVariants.{Feature, Line, Trunk, Resource, Error}

-- whether a box is a feature box, and its address
abbrev pub is_feature : Callee → Bool
is_feature (Feature t a) = true
is_feature (Line n a) = false
is_feature (Trunk n a) = false
is_feature (Resource n a) = false
is_feature (Error a) = false

abbrev pub address_of : Callee → ℕ
address_of (Feature t a) = a
address_of (Line n a) = a
address_of (Trunk n a) = a
address_of (Resource n a) = a
address_of (Error a) = a

-- box number n at address a, by the kind of the subscriber: 1 line, 2 trunk, 3 resource; a mobile has no box of its own
unfoldable pub box_of : ℕ → ℕ → ℕ → Callee
box_of kind n a = cond (eqb kind 1) (Line n a) (cond (eqb kind 2) (Trunk n a) (cond (eqb kind 3) (Resource n a) (Error a)))

-- the first listed box of a subscriber; the error box for one that lists none
unfoldable pub first_box : Subscriber → ℕ → Callee
first_box s a = cond (eqb s.count 0) (Error a) (box_of s.kind (box s 0) a)

-- a look-up that finds no subscriber leads to the error box
unfoldable pub found_box : Plan → Option ℕ → ℕ → Callee
found_box p (Some i) a = first_box (at p.subscribers i) a
found_box p None a = Error a

unfoldable pub interface_at : Plan → ℕ → Callee
interface_at p a = found_box p (lookup p a) a
