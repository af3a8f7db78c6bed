-- A feature box that a call has reached may send on what it received: nothing refuses it. So a journey is made of public operations that are all accepted. Assumes nothing.
use Rattle.std.specs.Prelude.{Option, Some, None, Ok}
use mathlib.Core.Path.{◌≡◌, refl, sym, ap, ◌∙◌}
use mathlib.Core.Logic.{◌⊎◌, inl, inr, ⊎_elim}
use mathlib.Core.Bool.{true, false, false≢true}
use mathlib.Core.List.{List, [], ◌∷◌}
use Prim.Native.Nat.{ℕ, zero, suc, ◌<◌}
use native.Mathlib.Nat.{not-suc-le-zero}
use native.Mathlib.Omega.{arith}
use lib.Dec.{eqb}
use lib.ListN.{length, get_or}
use borrow.Author.Tests.{ltb-true, eq-eqb, eqb-true}
use Rattle.typeset.specs.Sets.{has, every, least}
use Rattle.typeset.proofs.Bools.{and-make, or_left, or_right}
use Rattle.typeset.proofs.Below.{least-has}
use Rattle.plan.specs.declared.Region.{Region}
use Rattle.plan.specs.declared.Region.TheVariants.{Source, Target}
use Rattle.plan.specs.declared.Plan.{Plan}
use Rattle.plan.specs.Parts.{legal}
use Rattle.plan.specs.Sound.{sound}
use Rattle.plan.specs.Find.{lookup}
use Rattle.plan.proofs.Holders.{chosen-exists}
use Rattle.zone.specs.Answer.{zone_at}
use Rattle.zone.proofs.Members.{elem}
use Rattle.zone.proofs.PlanZones.{zone-nobody, zone-types, chosen}
use Rattle.setup.specs.declared.Setup.{Setup}
use Rattle.setup.specs.Dialling.{legal_string}
use Rattle.zone.specs.Order.{list_of}
use Rattle.setup.specs.Setups.{routing_address, well_formed}
use Rattle.making.specs.declared.Maker.TheVariants.{Feature as FeatureMaker}
use Rattle.making.specs.declared.Maker.{Maker}
use Rattle.making.specs.Making.{is_list, not_own, somebody, continued_outcome, continued_outcome_by}
use Rattle.making.proofs.Outcomes.{Continued}
use Rattle.making.proofs.WellFormed.{continued-well-formed}
use Rattle.routing.specs.declared.Callee.{Callee}
use Rattle.routing.specs.declared.Callee.TheVariants.{Feature, Line, Trunk, Resource, Error}
use Rattle.routing.specs.Interface.{is_feature, address_of, interface_at}
use Rattle.routing.specs.Steps.{place_of, stands, callee_of, received_of}
use Rattle.routing.specs.Properties.{FeatureBox}
use Rattle.routing.proofs.Boxes.{interface-no-feature}
use Rattle.routing.proofs.Properties.{manual66, received-well-formed}
use Rattle.journey.specs.Hops.{passed_on}

-- ---- a type that stands in a zone

elem_at : (z : List ℕ) (i : ℕ) → i < length z → elem (get_or z i 0) z ≡ true
unfolding elem
elem_at [] i h = absurd (not-suc-le-zero h)
elem_at (x ∷ z) zero h = or_left (elem x z) (eq-eqb x x refl)
elem_at (x ∷ z) (suc i) h = or_right (eqb (get_or z i 0) x) (elem_at z i (omega arith))

stands-elem : (t : ℕ) (z : List ℕ) → stands t z ≡ true → elem t z ≡ true
unfolding stands place_of
stands-elem t z e =
    let low = ltb-true (place_of t z) (length z) e in
    let is : get_or z (place_of t z) 0 ≡ t = eqb-true (get_or z (place_of t z) 0) t (least-has (length z) (λ i. eqb (get_or z i 0) t) low) in
    rw is at (elem_at z (place_of t z) low)

stands-nowhere : (t : ℕ) → stands t [] ≡ false
unfolding stands place_of least
stands-nowhere t = refl

-- ---- the feature box that a setup reaches

regions : (r : Region) → (r ≡ Source) ⊎ (r ≡ Target)
regions Source = inl refl
regions Target = inr refl

abbrev type_of : Callee → ℕ
type_of (Feature t a) = t
type_of (Line n a) = 0
type_of (Trunk n a) = 0
type_of (Resource n a) = 0
type_of (Error a) = 0

record Reached (p : Plan) (out : Setup) (t a : ℕ) : Type 0 where
  pub in_zone : stands t (zone_at p (received_of p out).region a) ≡ true
  pub here : routing_address (received_of p out) ≡ a

same-box : {p : Plan} {out : Setup} {t a : ℕ} (r : Region) (z : List ℕ) (b : ℕ) (l : List ℕ) → (received_of p out).region ≡ r → z ≡ zone_at p r b → routing_address (received_of p out) ≡ b
    → callee_of p out ≡ Feature t a → FeatureBox (callee_of p out) z b l → Reached p out t a
same-box {p} {out} {t} {a} r z b l region zone address e box =
    let type : box.type ≡ t = ap type_of (sym box.is ∙ e) in
    let place : b ≡ a = ap address_of (sym box.is ∙ e) in
    record { in_zone = rw (region, ← type, ← place, ← zone) box.in_zone; here = address ∙ place }

reached : (p : Plan) (out : Setup) (t a : ℕ) → well_formed p out ≡ true → callee_of p out ≡ Feature t a → Reached p out t a
unfolding routing_address
reached p out t a w e =
    let m = manual66 p out w in
    ⊎_elim
    (λ (s : (received_of p out).region ≡ Source).
    same-box Source (zone_at p Source (received_of p out).source) (received_of p out).source (list_of (received_of p out).list) s refl (rw s) e (m.in_source s))
    (λ (s : (received_of p out).region ≡ Target).
    ⊎_elim
    (λ (b : FeatureBox (callee_of p out) (zone_at p Target (received_of p out).target) (received_of p out).target (list_of (received_of p out).list)).
    same-box Target (zone_at p Target (received_of p out).target) (received_of p out).target (list_of (received_of p out).list) s refl (rw s) e b)
    (λ (b : callee_of p out ≡ interface_at p (received_of p out).target).
    absurd (false≢true (sym (interface-no-feature p (received_of p out).target) ∙ ap is_feature (sym b ∙ e))))
    (m.in_target s))
    (regions (received_of p out).region)

-- ---- it is in the plan, and its type exists

somebody-there : (p : Plan) (r : Region) (t a : ℕ) (f : (Option ℕ)) → lookup p a ≡ f → stands t (zone_at p r a) ≡ true → somebody f ≡ true
somebody-there p r t a (Some i) e s = refl
somebody-there p r t a None e s = absurd (false≢true (sym (stands-nowhere t) ∙ rw (zone-nobody p r a e) at s))

type-there : (p : Plan) → sound p ≡ true → (r : Region) (t a : ℕ) (f : (Option ℕ)) → lookup p a ≡ f → stands t (zone_at p r a) ≡ true → has t p.types.existing ≡ true
type-there p 𝓢 r t a (Some i) e s =
    let there = stands-elem t (zone_at p r a) s in
    chosen-exists p 𝓢 r t (zone-types p r a t there) (chosen p 𝓢 a i e r t there)
type-there p 𝓢 r t a None e s = absurd (false≢true (sym (stands-nowhere t) ∙ rw (zone-nobody p r a e) at s))

no-argument : (r : Region) (a : ℕ) → not_own r a 0 0 ≡ true
unfolding not_own
no-argument Source a = refl
no-argument Target a = refl

-- ---- so it may send on what it received

made_of : (p : Plan) (m : Maker) (s : Setup) (sourceArg : ℕ) (string : List ℕ) (targetArg : ℕ) → Continued (sound p) p m s sourceArg string targetArg
    → continued_outcome p m s sourceArg string targetArg ≡ Ok tt
unfolding continued_outcome_by
made_of p m s sourceArg string targetArg k =
    rw (k.kept, k.exists, k.may-make, k.held-here, k.from_list, k.routed-here, k.string-legal, k.another, k.both-legal)

pub passes_on : (p : Plan) (out : Setup) (t a : ℕ) → sound p ≡ true → well_formed p out ≡ true → callee_of p out ≡ Feature t a
    → continued_outcome p (FeatureMaker t a) (received_of p out) 0 [] 0 ≡ Ok tt
unfolding legal_string legal every
passes_on p out t a 𝓢 w e =
    let at = reached p out t a w e in
    let r = (received_of p out).region in
    made_of p (FeatureMaker t a) (received_of p out) 0 [] 0 record {
      kept = 𝓢;
      exists = type-there p 𝓢 r t a (lookup p a) refl at.in_zone;
      may-make = refl;
      held-here = somebody-there p r t a (lookup p a) refl at.in_zone;
      from_list = and-make (received-well-formed p out t a w e) (ap is_list (manual66 p out w).listed);
      routed-here = eq-eqb (routing_address (received_of p out)) a at.here;
      string-legal = refl;
      another = no-argument r a;
      both-legal = refl;
    }

-- and what it sends on is well formed
pub passed-well-formed : (p : Plan) (out : Setup) (t a : ℕ) → sound p ≡ true → well_formed p out ≡ true → callee_of p out ≡ Feature t a
    → well_formed p (passed_on a (received_of p out)) ≡ true
unfolding passed_on
passed-well-formed p out t a 𝓢 w e = continued-well-formed p (FeatureMaker t a) (received_of p out) 0 [] 0 (passes_on p out t a 𝓢 w e)
