-- The properties of routing (specs/Properties.antt; manual 6.6), and what it hands to a feature box. Assumes nothing.
use Rattle.std.specs.Prelude.{Option, Some, None, Ok}
use mathlib.Core.Path.{◌≡◌, refl, sym, ap, ◌∙◌}
use mathlib.Core.Logic.{◌⊎◌, inl, inr, ⊎_elim}
use mathlib.Core.Bool.{Bool, true, false, false≢true, ◌&&◌}
use mathlib.Core.List.{List, [], ◌∷◌}
use Prim.Native.Nat.{ℕ, suc, ◌≤◌, ◌<◌}
use native.Mathlib.Omega.{arith}
use lib.Dec.{eqb}
use lib.ListN.{length, get_or, take, drop, length-drop, drop_of_length-le}
use lib.Seq.{drop-cons, drop-length, get_or-drop, take_at}
use borrow.Author.Tests.{le-leb, lt-ltb, ltb-true, eq-eqb, eqb-true}
use Rattle.typeset.specs.Sets.{least}
use Rattle.typeset.proofs.Bools.{yes_or_no, and_left, and_right, and-make}
use Rattle.typeset.proofs.Below.{least-at-most}
use Rattle.typeset.proofs.Laws.{split}
use Rattle.plan.specs.declared.Region.{Region}
use Rattle.plan.specs.declared.Region.TheVariants.{Source, Target}
use Rattle.plan.specs.declared.Plan.{Plan}
use Rattle.plan.specs.Parts.{legal, of_region}
use Rattle.zone.specs.Order.{held, list_of}
use Rattle.zone.specs.Answer.{zone_at}
use Rattle.zone.proofs.PlanZones.{zone-short, zone-zero}
use Rattle.setup.specs.declared.Setup.{Setup}
use Rattle.setup.specs.Dialling.{string_of, legal_dialled}
use Rattle.setup.specs.Setups.{routing, routing_address, end_part, outer_legal, in_range, list_fits, outer_absent, outer_fits, well_formed}
use Rattle.setup.proofs.Stored.{string-of-dialled}
use Rattle.setup.proofs.Faults.{well-formed-kept, well-formed-of, dialled-legal, string-legal}
use Rattle.setup.proofs.Tails.{end-part-of, end-part-short, end-part-is}
use Rattle.embedded.specs.Embedded.{embedded}
use Rattle.embedded.proofs.Digits.{embedded-legal}
use Rattle.routing.specs.declared.Callee.{Callee}
use Rattle.routing.specs.Interface.{is_feature, address_of, interface_at}
use Rattle.routing.specs.Steps.{dials, target1, place_of, stands, zone2, route2, empty, exhausted, region3, route3, outer3, tail, callee4, received4, region_of, route_of, callee_of, received_of, left_of}
use Rattle.routing.specs.Properties.{FeatureBox, Manual66, ReceivedWellFormed, LeftLies}
use Rattle.routing.proofs.Zoned.{held-is, route-begins}
use Rattle.routing.specs.Routing.{source_list_after, target_list_after}
use Rattle.routing.specs.Places.{begins}
use Rattle.routing.proofs.Boxes.{interface-no-feature, interface-address}

-- ---- end parts of a zone

-- the first type of what is left stands in the zone
head-stands : (k t : ℕ) (z ts : List ℕ) → drop k z ≡ t ∷ ts → stands t z ≡ true
unfolding stands place_of
head-stands k t z ts e =
    let some : 0 < length (drop k z) = rw e (omega arith) in
    let inside : k < length z = omega (arith, length-drop k z) in
    let is : get_or z k 0 ≡ t = ap (λ (n : ℕ). get_or z n 0) (omega arith) ∙ sym (get_or-drop k z 0 0) ∙ ap (λ (l : List ℕ). get_or l 0 0) e in
    let low = least-at-most (length z) (λ i. eqb (get_or z i 0) t) k (eq-eqb (get_or z k 0) t is) in
    lt-ltb (least (length z) (λ i. eqb (get_or z i 0) t)) (length z) (omega arith)

head-part : (k t : ℕ) (z ts : List ℕ) → drop k z ≡ t ∷ ts → end_part (t ∷ ts) z ≡ true
head-part k t z ts e =
    let some : 0 < length (drop k z) = rw e (omega arith) in
    let inside : k ≤ length z = omega (arith, length-drop k z) in
    rw (← e) (end-part-of k z inside)

-- and what follows it is an end part too
tail-part : (k : ℕ) (z : List ℕ) → end_part (tail (drop k z)) z ≡ true
tail-part k z =
    ⊎_elim
    (λ (h : k < length z). rw (drop-cons z k 0 h) (end-part-of (suc k) z (omega arith)))
    (λ (h : length z ≤ k). rw (drop_of_length-le z h) (rw (drop-length z) at (end-part-of (length z) z (omega arith))))
    (split k (length z))

-- ---- what is left of the route after step 3

abbrev zone_left : Plan → Setup → List ℕ
zone_left p out = zone_at p (region_of p out) (routing (region_of p out) out.source (target1 out))

record Left (p : Plan) (out : Setup) : Type 0 where
  pub from : ℕ
  pub is : route_of p out ≡ drop from (zone_left p out)

left-of : (p : Plan) (out : Setup) → well_formed p out ≡ true → Left p out
unfolding route_of region_of route3 region3 zone2
left-of p out w =
    ⊎_elim
    (λ (e : exhausted out.region (route2 p out) ≡ true). record { from = 0; is = rw e })
    (λ (e : exhausted out.region (route2 p out) ≡ false).
    record { from = begins out.route out.placing (list_of out.list) (zone2 p out); is = rw e (sym (route-begins p out w)) })
    (yes_or_no (exhausted out.region (route2 p out)))

back : (r : Region) (l : List ℕ) → r ≡ Target → region3 r l ≡ Target
unfolding region3
back r l e = rw e

-- ---- outer

absent_none : (o : (Option ℕ)) → outer_absent o ≡ true → o ≡ None
absent_none None e = refl
absent_none (Some a) e = absurd (false≢true e)

no_outer : (p : Plan) (out : Setup) → well_formed p out ≡ true → region_of p out ≡ Target → outer3 out.region (route2 p out) out.outer ≡ None
unfolding outer3 region_of region3
no_outer p out w t =
    ⊎_elim
    (λ (e : exhausted out.region (route2 p out) ≡ true). rw e)
    (λ (e : exhausted out.region (route2 p out) ≡ false).
    let same : out.region ≡ Target = rw e at t in
    rw e (absent_none out.outer (rw same at (well-formed-kept p out w).outer)))
    (yes_or_no (exhausted out.region (route2 p out)))

-- ---- the callee box

is_source : Region → Bool
is_source Source = true
is_source Target = false

not-both : {A : Type 0} (r : Region) → r ≡ Source → r ≡ Target → A
unfolding is_source
not-both r s t = absurd (false≢true (sym (ap is_source t) ∙ ap is_source s))

source-some : (r : Region) (l : List ℕ) → region3 r l ≡ Source → (r ≡ Source) × (empty l ≡ false) × (exhausted r l ≡ false)
unfolding region3 is_source
source-some Source [] e = absurd (false≢true (ap is_source e))
source-some Source (t ∷ l) e = (refl, refl, refl)
source-some Target l e = absurd (false≢true (ap is_source e))

head-box : (p : Plan) (out : Setup) → Left p out → (l : List ℕ) → route_of p out ≡ l
    → FeatureBox (callee_of p out) (zone_left p out) (routing (region_of p out) out.source (target1 out)) (tail l) ⊎ ((callee_of p out ≡ interface_at p (target1 out)) × (l ≡ []))
unfolding callee_of callee4
head-box p out left [] e = inr (rw e, refl)
head-box p out left (t ∷ l) e =
    let here : drop left.from (zone_left p out) ≡ t ∷ l = sym left.is ∙ e in
    inl record { type = t; in_zone = head-stands left.from t (zone_left p out) l here; before_left = head-part left.from t (zone_left p out) l here; is = rw e }

in_source : (p : Plan) (out : Setup) → well_formed p out ≡ true → region_of p out ≡ Source → FeatureBox (callee_of p out) (zone_at p Source out.source) out.source (tail (route_of p out))
unfolding route_of region_of route3
in_source p out w s =
    let some = source-some out.region (route2 p out) s in
    ⊎_elim
    (λ (b : FeatureBox (callee_of p out) (zone_left p out) (routing (region_of p out) out.source (target1 out)) (tail (route_of p out))). rw s at b)
    (λ (b : (callee_of p out ≡ interface_at p (target1 out)) × (route_of p out ≡ [])).
    absurd (false≢true (sym some.1 ∙ ap empty (rw some.2 at b.1))))
    (head-box p out (left-of p out w) (route_of p out) refl)

one_of : (r : Region) → (r ≡ Source) ⊎ (r ≡ Target)
one_of Source = inl refl
one_of Target = inr refl

in_target : (p : Plan) (out : Setup) → well_formed p out ≡ true → region_of p out ≡ Target
    → FeatureBox (callee_of p out) (zone_at p Target (target1 out)) (target1 out) (tail (route_of p out)) ⊎ (callee_of p out ≡ interface_at p (target1 out))
in_target p out w t =
    ⊎_elim
    (λ (b : FeatureBox (callee_of p out) (zone_left p out) (routing (region_of p out) out.source (target1 out)) (tail (route_of p out))). inl (rw t at b))
    (λ (b : (callee_of p out ≡ interface_at p (target1 out)) × (route_of p out ≡ [])). inr b.0)
    (head-box p out (left-of p out w) (route_of p out) refl)

-- what is there when the callee box is none of the zone's
no-feature : (p : Plan) (out : Setup) → well_formed p out ≡ true → is_feature (callee_of p out) ≡ false → (region_of p out ≡ Target) × (left_of p out ≡ 0) × (callee_of p out ≡ interface_at p (target1 out))
unfolding left_of
no-feature p out w f =
    ⊎_elim
    (λ (b : FeatureBox (callee_of p out) (zone_left p out) (routing (region_of p out) out.source (target1 out)) (tail (route_of p out))).
    absurd (false≢true (sym f ∙ ap is_feature b.is)))
    (λ (b : (callee_of p out ≡ interface_at p (target1 out)) × (route_of p out ≡ [])). (
      ⊎_elim (λ (s : region_of p out ≡ Source). absurd (false≢true (sym f ∙ ap is_feature (in_source p out w s).is))) (λ (t : region_of p out ≡ Target). t) (one_of (region_of p out)),
      ap (λ (l : List ℕ). length (tail l)) b.1,
      b.0,
    ))
    (head-box p out (left-of p out w) (route_of p out) refl)

box-address : (p : Plan) (out : Setup) → well_formed p out ≡ true → address_of (callee_of p out) ≡ routing (region_of p out) out.source (target1 out)
box-address p out w =
    ⊎_elim
    (λ (b : FeatureBox (callee_of p out) (zone_left p out) (routing (region_of p out) out.source (target1 out)) (tail (route_of p out))). ap address_of b.is)
    (λ (b : (callee_of p out ≡ interface_at p (target1 out)) × (route_of p out ≡ [])).
    let n = no-feature p out w (ap is_feature b.0 ∙ interface-no-feature p (target1 out)) in
    ap address_of b.0 ∙ interface-address p (target1 out) ∙ sym (ap (λ (r : Region). routing r out.source (target1 out)) n.0))
    (head-box p out (left-of p out w) (route_of p out) refl)

-- ---- 6.6

pub manual66 : Manual66
unfolding received_of received4 left_of region_of routing_address
manual66 p out w = record {
  never_back = back out.region (route2 p out);
  source = refl;
  string = string-of-dialled (string_of out.dialled);
  target = refl;
  listed = refl;
  end_part = rw (held-is (tail (route_of p out)), (left-of p out w).is) (tail-part (left-of p out w).from (zone_left p out));
  left = sym (ap length (held-is (tail (route_of p out))));
  unplaced = refl;
  no_outer = no_outer p out w;
  in_source = λ (s : region_of p out ≡ Source). rw (held-is (tail (route_of p out))) (in_source p out w s);
  in_target = λ (t : region_of p out ≡ Target). rw (held-is (tail (route_of p out))) (in_target p out w t);
  address = box-address p out w;
  interface = no-feature p out w;
}

-- ---- where what is left lies

list-holds : (p : Plan) (r : Region) (out : Setup) (callee : Callee) (source target : List ℕ)
    → take (length (zone_at p r (routing r out.source (target1 out)))) (of_region r (source_list_after p out (Ok callee) source) (target_list_after p out (Ok callee) target)) ≡ zone_at p r (routing r out.source (target1 out))
unfolding source_list_after target_list_after
list-holds p Source out callee source target = take_at (zone_at p Source out.source) (drop (length (zone_at p Source out.source)) source) (length (zone_at p Source out.source)) refl
list-holds p Target out callee source target = take_at (zone_at p Target (target1 out)) (drop (length (zone_at p Target (target1 out))) target) (length (zone_at p Target (target1 out))) refl

pub left-lies : LeftLies
unfolding received_of received4 routing_address
left-lies p out callee source target w =
    let m = manual66 p out w in
    rw (list-holds p (region_of p out) out callee source target, m.left) (sym (end-part-is (list_of (received_of p out).list) (zone_left p out) m.end_part))

-- ---- what a feature box receives

dials-legal : (l : List ℕ) (d : (Option ℕ)) → embedded l ≡ d → legal (dials d) ≡ true
unfolding legal
dials-legal l None e = refl
dials-legal l (Some a) e = le-leb a 999999999 (embedded-legal l a e).0

target-legal : (out : Setup) → legal out.target ≡ true → legal (target1 out) ≡ true
unfolding target1
target-legal out e =
    ⊎_elim
    (λ (z : eqb out.target 0 ≡ true). rw z (dials-legal (string_of out.dialled) (embedded (string_of out.dialled)) refl))
    (λ (z : eqb out.target 0 ≡ false). rw z e)
    (yes_or_no (eqb out.target 0))

outer-legal : (r : Region) (l : List ℕ) (o : (Option ℕ)) → outer_legal o ≡ true → outer_legal (outer3 r l o) ≡ true
unfolding outer3
outer-legal r l o e =
    ⊎_elim
    (λ (x : exhausted r l ≡ true). rw x)
    (λ (x : exhausted r l ≡ false). rw x e)
    (yes_or_no (exhausted r l))

record Ranges (out : Setup) : Type 0 where
  pub source : legal out.source ≡ true
  pub target : legal out.target ≡ true
  pub outer : outer_legal out.outer ≡ true
  pub string : legal_dialled out.dialled ≡ true

ranges : (out : Setup) → in_range out ≡ true → Ranges out
unfolding in_range
ranges out e =
    let three = and_left (legal out.source && legal out.target && outer_legal out.outer) (legal_dialled out.dialled) e in
    let two = and_left (legal out.source && legal out.target) (outer_legal out.outer) three in
    record {
      source = and_left (legal out.source) (legal out.target) two;
      target = and_right (legal out.source) (legal out.target) two;
      outer = and_right (legal out.source && legal out.target) (outer_legal out.outer) three;
      string = and_right (legal out.source && legal out.target && outer_legal out.outer) (legal_dialled out.dialled) e;
    }

received-range : (p : Plan) (out : Setup) → in_range out ≡ true → in_range (received_of p out) ≡ true
unfolding in_range received_of received4
received-range p out e =
    let r = ranges out e in
    and-make (and-make (and-make r.source (target-legal out r.target)) (outer-legal out.region (route2 p out) out.outer r.outer))
    (dialled-legal (string_of out.dialled) (string-legal out.dialled r.string))

-- a type stands only in a zone, and 0 has none
no_zero : (p : Plan) (r : Region) (t a : ℕ) → stands t (zone_at p r a) ≡ true → eqb a 0 ≡ false
unfolding stands
no_zero p r t a e =
    ⊎_elim
    (λ (z : eqb a 0 ≡ true).
    let none : zone_at p r a ≡ [] = ap (zone_at p r) (eqb-true a 0 z) ∙ zone-zero p r in
    let low = ltb-true (place_of t (zone_at p r a)) (length (zone_at p r a)) e in
    absurd (omega (arith, low, ap (λ (l : List ℕ). length l) none)))
    (λ (z : eqb a 0 ≡ false). z)
    (yes_or_no (eqb a 0))

outer-fits : (r : Region) (l : List ℕ) (o : (Option ℕ)) → outer_fits r o ≡ true → outer_fits (region3 r l) (outer3 r l o) ≡ true
unfolding region3 outer3
outer-fits r l o e =
    ⊎_elim
    (λ (x : exhausted r l ≡ true). rw x)
    (λ (x : exhausted r l ≡ false). rw x e)
    (yes_or_no (exhausted r l))

pub received-well-formed : ReceivedWellFormed
unfolding received_of received4 region_of routing_address list_fits held
received-well-formed p out t a w e =
    let k = well-formed-kept p out w in
    let left = left-of p out w in
    let short : length (tail (route_of p out)) ≤ 32 =
    rw left.is (omega (arith, zone-short p (region_of p out) (routing (region_of p out) out.source (target1 out)), end-part-short (tail (drop left.from (zone_left p out))) (zone_left p out) (tail-part left.from (zone_left p out)))) in
    ⊎_elim
    (λ (b : FeatureBox (callee_of p out) (zone_left p out) (routing (region_of p out) out.source (target1 out)) (tail (route_of p out))).
    well-formed-of p (received_of p out) record {
      in-range = received-range p out k.in-range;
      routed = no_zero p (region_of p out) b.type (routing (region_of p out) out.source (target1 out)) b.in_zone;
      route = and-make (le-leb (length (tail (route_of p out))) 32 short) (rw (held-is (tail (route_of p out)), left.is) (tail-part left.from (zone_left p out)));
      placing = refl;
      outer = outer-fits out.region (route2 p out) out.outer k.outer;
    })
    (λ (b : (callee_of p out ≡ interface_at p (target1 out)) × (route_of p out ≡ [])).
    absurd (false≢true (sym (interface-no-feature p (target1 out)) ∙ ap is_feature (sym b.0 ∙ e))))
    (head-box p out left (route_of p out) refl)
