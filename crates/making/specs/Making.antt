-- The three ways to make a setup (manual 5.4 to 5.6), with what is refused: 23, then 1 to 9 in ascending order. Assumes nothing.
use Rattle.std.specs.Prelude.{ℕ, Bool, true, false, not, ◌&&◌, ◌||◌, List, eqb, Option, Some, None, Result, Ok, ⊤}
use Rattle.typeset.specs.Sets.{has}
use Rattle.refusal.specs.Numbers.{◌>>=◌, unless}
use Rattle.refusal.specs.declared.Refusal.{Refusal}
use Rattle.refusal.specs.declared.Refusal.TheVariants.{RuleBroken, NoSuchType, NotForThisBox, WrongAddress, NotReversible, Malformed, NotRoutedHere, BadString, OwnAddress, AddressTooLarge}
use Rattle.plan.specs.declared.Region.{Region}
use Rattle.plan.specs.declared.Plan.{Plan}
use Rattle.plan.specs.Parts.{legal, at}
use Rattle.plan.specs.Sound.{sound}
use Rattle.plan.specs.Find.{lookup}
use Rattle.setup.specs.declared.Route.{Route}
use Rattle.setup.specs.declared.Route.TheVariants.{Whole, Suffix, Listed}
use Rattle.setup.specs.declared.Setup.{Setup}
use Rattle.making.specs.declared.Maker.{Maker}
use Rattle.making.specs.declared.Maker.TheVariants.{Feature, Line, Trunk, Resource, Error}
use Rattle.setup.specs.Dialling.{legal_string}
use Rattle.setup.specs.Setups.{routing, routing_address, well_formed}
pub use Rattle.made.specs.Made.{or_kept, string_or, outer_for, source_in, target_in, turned}
unfoldable pub use Rattle.setup.specs.Setups.{blank as blank_setup}
unfoldable pub use Rattle.made.specs.Made.{new_setup, further, continued_setup, reversed_setup}

-- ---- the box that makes a setup (a resource or error box makes none, and an interface box has no type: the 0 beside them is never used)

abbrev pub box_address : Maker → ℕ
box_address (Feature t a) = a
box_address (Line a) = a
box_address (Trunk a) = a
box_address Resource = 0
box_address Error = 0

abbrev pub box_type : Maker → ℕ
box_type (Feature t a) = t
box_type (Line a) = 0
box_type (Trunk a) = 0
box_type Resource = 0
box_type Error = 0

-- the kind of the subscriber at an address; 0 where there is none
abbrev pub kind_of : Plan → Option ℕ → ℕ
kind_of p (Some i) = (at p.subscribers i).kind
kind_of p None = 0

abbrev pub somebody : Option ℕ → Bool
somebody (Some i) = true
somebody None = false

-- 1: a feature box whose type exists
abbrev pub type_exists : Plan → Maker → Bool
type_exists p (Feature t a) = has t p.types.existing
type_exists p (Line a) = true
type_exists p (Trunk a) = true
type_exists p Resource = true
type_exists p Error = true

-- 2: a new setup is made by a feature, line or trunk box; a continued or reversed one by a feature box
abbrev pub makes_new : Maker → Bool
makes_new (Feature t a) = true
makes_new (Line a) = true
makes_new (Trunk a) = true
makes_new Resource = false
makes_new Error = false

abbrev pub makes_more : Maker → Bool
makes_more (Feature t a) = true
makes_more (Line a) = false
makes_more (Trunk a) = false
makes_more Resource = false
makes_more Error = false

-- 3: a feature box's address is in the plan; a line's or trunk's source is of that kind
abbrev pub address_held : Plan → Maker → Bool
address_held p (Feature t a) = somebody (lookup p a)
address_held p (Line a) = eqb (kind_of p (lookup p a)) 1
address_held p (Trunk a) = eqb (kind_of p (lookup p a)) 2
address_held p Resource = true
address_held p Error = true

-- ---- what is refused, by the verdict on the plan: whether it keeps its rules

-- 5: a route that is a list
abbrev pub is_list : Route → Bool
is_list Whole = false
is_list Suffix = false
is_list Listed = true

-- 8: an argument for the routing address of region r is not the box's own address
unfoldable pub not_own : Region → ℕ → ℕ → ℕ → Bool
not_own r box sourceArg targetArg = eqb (routing r sourceArg targetArg) 0 || not (eqb (routing r sourceArg targetArg) box)

-- 23, 1, 2, 3, 7, 9
unfoldable pub new_outcome_by : Bool → Plan → Maker → List ℕ → ℕ → Result ⊤ Refusal
new_outcome_by kept p m string targetArg =
    unless kept (RuleBroken 0)
    (unless (type_exists p m) NoSuchType
    (unless (makes_new m) NotForThisBox
    (unless (address_held p m) WrongAddress
    (unless (legal_string string) BadString
    (unless (legal targetArg) AddressTooLarge (Ok tt))))))

abbrev pub new_outcome : Plan → Maker → List ℕ → ℕ → Result ⊤ Refusal
new_outcome p m string targetArg = new_outcome_by (sound p) p m string targetArg

-- 23, 1, 2, 3, 5, 6, 7, 8, 9
unfoldable pub continued_outcome_by : Bool → Plan → Maker → Setup → ℕ → List ℕ → ℕ → Result ⊤ Refusal
continued_outcome_by kept p m s sourceArg string targetArg =
    unless kept (RuleBroken 0)
    (unless (type_exists p m) NoSuchType
    (unless (makes_more m) NotForThisBox
    (unless (address_held p m) WrongAddress
    (unless (well_formed p s && is_list s.route) Malformed
    (unless (eqb (routing_address s) (box_address m)) NotRoutedHere
    (unless (legal_string string) BadString
    (unless (not_own s.region (box_address m) sourceArg targetArg) OwnAddress
    (unless (legal sourceArg && legal targetArg) AddressTooLarge (Ok tt)))))))))

abbrev pub continued_outcome : Plan → Maker → Setup → ℕ → List ℕ → ℕ → Result ⊤ Refusal
continued_outcome p m s sourceArg string targetArg = continued_outcome_by (sound p) p m s sourceArg string targetArg

-- 23, 1, 2, 3, 4, 5, 7, 8, 9
unfoldable pub reversed_outcome_by : Bool → Plan → Maker → Setup → ℕ → List ℕ → ℕ → Result ⊤ Refusal
reversed_outcome_by kept p m s sourceArg string targetArg =
    unless kept (RuleBroken 0)
    (unless (type_exists p m) NoSuchType
    (unless (makes_more m) NotForThisBox
    (unless (address_held p m) WrongAddress
    (unless (has (box_type m) p.types.reversible) NotReversible
    (unless (well_formed p s) Malformed
    (unless (legal_string string) BadString
    (unless (not_own (turned s.region) (box_address m) sourceArg targetArg) OwnAddress
    (unless (legal sourceArg && legal targetArg) AddressTooLarge (Ok tt)))))))))

abbrev pub reversed_outcome : Plan → Maker → Setup → ℕ → List ℕ → ℕ → Result ⊤ Refusal
reversed_outcome p m s sourceArg string targetArg = reversed_outcome_by (sound p) p m s sourceArg string targetArg

-- ---- what is answered: the setup, or the refusal

abbrev pub answered : Result ⊤ Refusal → Setup → Result Setup Refusal
answered outcome s = outcome >>= λ made. Ok s

-- what the three ways answer
abbrev pub new_answer_by : Bool → Plan → Maker → List ℕ → ℕ → Result Setup Refusal
new_answer_by kept p m string targetArg = answered (new_outcome_by kept p m string targetArg) (new_setup (box_address m) string targetArg)

abbrev pub new_answer : Plan → Maker → List ℕ → ℕ → Result Setup Refusal
new_answer p m string targetArg = new_answer_by (sound p) p m string targetArg

abbrev pub continued_answer_by : Bool → Plan → Maker → Setup → ℕ → List ℕ → ℕ → Result Setup Refusal
continued_answer_by kept p m s sourceArg string targetArg =
    answered (continued_outcome_by kept p m s sourceArg string targetArg) (continued_setup (box_address m) s sourceArg string targetArg)

abbrev pub continued_answer : Plan → Maker → Setup → ℕ → List ℕ → ℕ → Result Setup Refusal
continued_answer p m s sourceArg string targetArg = continued_answer_by (sound p) p m s sourceArg string targetArg

abbrev pub reversed_answer_by : Bool → Plan → Maker → Setup → ℕ → List ℕ → ℕ → Result Setup Refusal
reversed_answer_by kept p m s sourceArg string targetArg =
    answered (reversed_outcome_by kept p m s sourceArg string targetArg) (reversed_setup (box_type m) (box_address m) s sourceArg string targetArg)

abbrev pub reversed_answer : Plan → Maker → Setup → ℕ → List ℕ → ℕ → Result Setup Refusal
reversed_answer p m s sourceArg string targetArg = reversed_answer_by (sound p) p m s sourceArg string targetArg
