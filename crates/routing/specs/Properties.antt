-- What the manual says of routing as a whole (6.6), of a well-formed setup `out` sent and the setup received. Proved in proofs/Properties.antt. Assumes nothing.
use Rattle.std.specs.Prelude.{ℕ, ◌-◌, ◌≡◌, ◌⊎◌, true, false, List, ◌∷◌, length, take, drop, None, Ok}
use Rattle.plan.specs.declared.Region.TheVariants.{Source, Target}
use Rattle.plan.specs.declared.Plan.{Plan}
use Rattle.zone.specs.Answer.{zone_at}
use Rattle.setup.specs.declared.Route.TheVariants.{Listed}
use Rattle.setup.specs.declared.Setup.{Setup}
use Rattle.setup.specs.Dialling.{string_of}
use Rattle.zone.specs.Order.{list_of}
use Rattle.setup.specs.Setups.{routing_address, end_part, well_formed}
use Rattle.routing.specs.declared.Callee.{Callee}
use Rattle.routing.specs.declared.Callee.TheVariants.{Feature}
use Rattle.routing.specs.Interface.{is_feature, address_of, interface_at}
use Rattle.routing.specs.Steps.{target1, stands, callee_of, received_of, left_of}
use Rattle.routing.specs.Routing.{source_list_after, target_list_after}
use Rattle.plan.specs.Parts.{of_region}

-- the callee box is a feature box at address a, of a type of the zone; after that type the zone goes on with what is left
pub record FeatureBox (callee : Callee) (zone : List ℕ) (a : ℕ) (left : List ℕ) : Type 0 where
  pub type : ℕ
  pub in_zone : stands type zone ≡ true
  pub before_left : end_part (type ∷ left) zone ≡ true
  pub is : callee ≡ Feature type a

pub record Properties (p : Plan) (out : Setup) : Type 0 where
  -- the region never turns back
  pub never_back : out.region ≡ Target → (received_of p out).region ≡ Target
  -- source and string unchanged, the target as after step 1
  pub source : (received_of p out).source ≡ out.source
  pub string : string_of (received_of p out).dialled ≡ string_of out.dialled
  pub target : (received_of p out).target ≡ target1 out
  -- the route is a list: an end part of the routing address's zone; as many types are left as it has
  pub listed : (received_of p out).route ≡ Listed
  pub end_part : end_part (list_of (received_of p out).list) (zone_at p (received_of p out).region (routing_address (received_of p out))) ≡ true
  pub left : left_of p out ≡ length (list_of (received_of p out).list)
  -- no placing type; no outer in the target region
  pub unplaced : (received_of p out).placing ≡ None
  pub no_outer : (received_of p out).region ≡ Target → (received_of p out).outer ≡ None
  -- in the source region a feature box at the source's address, of a type of its source zone; in the target region one at the target's, of a type of its target zone, or the target's interface box
  pub in_source : (received_of p out).region ≡ Source → FeatureBox (callee_of p out) (zone_at p Source (received_of p out).source) (received_of p out).source (list_of (received_of p out).list)
  pub in_target : (received_of p out).region ≡ Target
      → FeatureBox (callee_of p out) (zone_at p Target (received_of p out).target) (received_of p out).target (list_of (received_of p out).list) ⊎ (callee_of p out ≡ interface_at p (received_of p out).target)
  -- the box's address is the routing address
  pub address : address_of (callee_of p out) ≡ routing_address (received_of p out)
  -- a box that is no feature box is the target's interface box, in the target region, and nothing is left (6.4, 6.5)
  pub interface : is_feature (callee_of p out) ≡ false → ((received_of p out).region ≡ Target) × (left_of p out ≡ 0) × (callee_of p out ≡ interface_at p (received_of p out).target)

abbrev pub Manual66 : Type 0
Manual66 = (p : Plan) (out : Setup) → well_formed p out ≡ true → Properties p out

-- what routing hands to a feature box is well formed
abbrev pub ReceivedWellFormed : Type 0
ReceivedWellFormed = (p : Plan) (out : Setup) (t a : ℕ) → well_formed p out ≡ true → callee_of p out ≡ Feature t a → well_formed p (received_of p out) ≡ true

-- What is left is a part of the lent list that the region chooses: its zone stands there from place 0 on, and what is left is the end of it.
abbrev pub LeftLies : Type 0
LeftLies =
    (p : Plan) (out : Setup) (callee : Callee) (source target : List ℕ) → well_formed p out ≡ true
    → list_of (received_of p out).list
    ≡ drop (length (zone_at p (received_of p out).region (routing_address (received_of p out))) - left_of p out)
    (take (length (zone_at p (received_of p out).region (routing_address (received_of p out))))
    (of_region (received_of p out).region (source_list_after p out (Ok callee) source) (target_list_after p out (Ok callee) target)))
