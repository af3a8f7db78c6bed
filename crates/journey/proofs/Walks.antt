-- The journey of a setup visits the source zone, then the target zone, then one interface or error box. Assumes nothing.
use Rattle.std.specs.Prelude.{Option, None}
use mathlib.Core.Path.{◌≡◌, refl, sym, ap, ◌∙◌}
use mathlib.Core.Logic.{⊎_elim}
use mathlib.Core.Bool.{true, false, cond, false≢true}
use mathlib.Core.List.{List, [], ◌∷◌, ◌++◌}
use Prim.Native.Nat.{ℕ, zero, suc, ◌+◌, ◌<◌}
use native.Mathlib.Nat.{not-suc-le-zero}
use native.Mathlib.Omega.{arith}
use lib.Dec.{eqb}
use lib.ListN.{length}
use Rattle.typeset.proofs.Bools.{yes_or_no}
use Rattle.plan.specs.declared.Region.{Region}
use Rattle.plan.specs.declared.Region.TheVariants.{Source, Target}
use Rattle.plan.specs.declared.Plan.{Plan}
use Rattle.zone.specs.Order.{held}
use Rattle.zone.specs.Answer.{zone_at}
use Rattle.zone.proofs.PlanZones.{zone-short}
use Rattle.setup.specs.declared.Route.TheVariants.{Whole, Listed}
use Rattle.setup.specs.declared.Setup.{Setup}
use Rattle.setup.specs.Dialling.{dialled, string_of}
use Rattle.setup.specs.Setups.{routing}
use Rattle.setup.proofs.Stored.{string-of-dialled}
use Rattle.making.specs.Making.{further, continued_setup}
use Rattle.embedded.specs.Embedded.{embedded}
use Rattle.routing.specs.declared.Callee.{Callee}
use Rattle.routing.specs.declared.Callee.TheVariants.{Feature, Line, Trunk, Resource, Error}
use Rattle.routing.specs.Interface.{is_feature, address_of, interface_at}
use Rattle.routing.specs.Steps.{dials, target1, zone2, route2, region3, route3, outer3, tail, callee4, received4, region_of, route_of, callee_of, received_of, left_of}
use Rattle.routing.proofs.Boxes.{interface-no-feature}
use Rattle.routing.proofs.Zoned.{held-is}
use Rattle.journey.specs.Hops.{Hop, hop, passed_on, onward, hops, journey, visits, both_zones}

-- ---- a setup sent on: the region and both addresses as they were, the route a list

abbrev sent : Region → ℕ → ℕ → List ℕ → List ℕ → Setup
sent r source target string l = record {
  region = r;
  source = source;
  dialled = dialled string;
  target = target;
  route = Listed;
  list = held l;
  placing = None;
  outer = None;
}

-- a box at the routing address that changes nothing
sends-on : (r : Region) (out : Setup) (target : ℕ) (outer : (Option ℕ)) (l : List ℕ)
    → passed_on (routing r out.source target) (received4 out target r outer l) ≡ sent r out.source target (string_of out.dialled) (tail l)
unfolding passed_on continued_setup further received4
sends-on Source out target outer l = rw (string-of-dialled (string_of out.dialled), held-is (tail l))
sends-on Target out target outer l = rw (string-of-dialled (string_of out.dialled), held-is (tail l))

-- ---- one hop, by what is left of the route after step 3

no-onward : (c : Callee) (rest : List Hop) → is_feature c ≡ false → onward c rest ≡ []
no-onward (Feature t a) rest e = absurd (false≢true (sym e))
no-onward (Line n a) rest e = refl
no-onward (Trunk n a) rest e = refl
no-onward (Resource n a) rest e = refl
no-onward (Error a) rest e = refl

received-on : (p : Plan) (out : Setup) (l : List ℕ) → route_of p out ≡ l
    → passed_on (routing (region_of p out) out.source (target1 out)) (received_of p out) ≡ sent (region_of p out) out.source (target1 out) (string_of out.dialled) (tail l)
unfolding received_of
received-on p out l e = rw e (sends-on (region_of p out) out (target1 out) (outer3 out.region (route2 p out) out.outer) l)

abbrev walk : ℕ → Plan → Region → ℕ → ℕ → List ℕ → List ℕ → List Hop
walk n p r source target string [] = hop (interface_at p target) 0 ∷ []
walk n p r source target string (t ∷ ts) = hop (Feature t (routing r source target)) (length ts) ∷ hops n p (sent r source target string ts)

walked : (n : ℕ) (p : Plan) (out : Setup) (l : List ℕ) → route_of p out ≡ l
    → hops (suc n) p out ≡ walk n p (region_of p out) out.source (target1 out) (string_of out.dialled) l
unfolding hops callee_of callee4 left_of
walked n p out [] e = rw (e, no-onward (interface_at p (target1 out)) (hops n p (passed_on (address_of (interface_at p (target1 out))) (received_of p out))) (interface-no-feature p (target1 out)))
walked n p out (t ∷ ts) e =
    let on : passed_on (routing (region_of p out) out.source (target1 out)) (received_of p out) ≡ sent (region_of p out) out.source (target1 out) (string_of out.dialled) ts = received-on p out (t ∷ ts) e in
    rw (e, on)

one-hop : (n : ℕ) (p : Plan) (out : Setup) → hops (suc n) p out ≡ walk n p (region_of p out) out.source (target1 out) (string_of out.dialled) (route_of p out)
one-hop n p out = walked n p out (route_of p out) refl

-- ---- the target, once it is settled, stays

abbrev Settled : ℕ → List ℕ → Type 0
Settled target string = cond (eqb target 0) (dials (embedded string)) target ≡ target

settled : (out : Setup) → Settled (target1 out) (string_of out.dialled)
unfolding target1
settled out =
    ⊎_elim
    (λ (z : eqb out.target 0 ≡ true).
    ⊎_elim (λ (y : eqb (dials (embedded (string_of out.dialled))) 0 ≡ true). rw (z, y))
    (λ (y : eqb (dials (embedded (string_of out.dialled))) 0 ≡ false). rw (z, y))
    (yes_or_no (eqb (dials (embedded (string_of out.dialled))) 0)))
    (λ (z : eqb out.target 0 ≡ false). rw (z, z))
    (yes_or_no (eqb out.target 0))

target-stays : (r : Region) (source target : ℕ) (string l : List ℕ) → Settled target string → target1 (sent r source target string l) ≡ target
unfolding target1
target-stays r source target string l e = rw (string-of-dialled string) e

-- ---- what is left of a list sent on

route-sent : (p : Plan) (r : Region) (source target : ℕ) (string l : List ℕ) → route2 p (sent r source target string l) ≡ l
unfolding route2
route-sent p r source target string l = held-is l

-- ---- the target zone

target-walk : (n : ℕ) (p : Plan) (source target : ℕ) (string l : List ℕ) → Settled target string → length l < n
    → hops n p (sent Target source target string l) ≡ visits l target ++ hop (interface_at p target) 0 ∷ []
unfolding visits region_of route_of region3 route3
target-walk zero p source target string l e h = absurd (not-suc-le-zero h)
target-walk (suc n) p source target string [] e h =
    one-hop n p (sent Target source target string [])
    ∙ rw (route-sent p Target source target string [], target-stays Target source target string [] e)
target-walk (suc n) p source target string (t ∷ ts) e h =
    one-hop n p (sent Target source target string (t ∷ ts))
    ∙ rw (route-sent p Target source target string (t ∷ ts), target-stays Target source target string (t ∷ ts) e, string-of-dialled string)
    (ap (λ (rest : List Hop). hop (Feature t target) (length ts) ∷ rest) (target-walk n p source target string ts e (omega arith)))

-- what is there when the source zone is exhausted: the target's, as if it had been sent there
advance : (n : ℕ) (p : Plan) (source target : ℕ) (string : List ℕ) → Settled target string → length (zone_at p Target target) < suc n
    → walk n p Target source target string (zone_at p Target target) ≡ visits (zone_at p Target target) target ++ hop (interface_at p target) 0 ∷ []
unfolding region_of route_of region3 route3
advance n p source target string e h =
    (rw (route-sent p Target source target string (zone_at p Target target), target-stays Target source target string (zone_at p Target target) e, string-of-dialled string) at
    (sym (one-hop n p (sent Target source target string (zone_at p Target target)))))
    ∙ target-walk (suc n) p source target string (zone_at p Target target) e h

-- ---- the source zone, and then the target's

source-walk : (n : ℕ) (p : Plan) (source target : ℕ) (string l : List ℕ) → Settled target string → length l + length (zone_at p Target target) < n
    → hops n p (sent Source source target string l) ≡ visits l source ++ visits (zone_at p Target target) target ++ hop (interface_at p target) 0 ∷ []
unfolding visits region_of route_of region3 route3
source-walk zero p source target string l e h = absurd (not-suc-le-zero h)
source-walk (suc n) p source target string [] e h =
    one-hop n p (sent Source source target string [])
    ∙ rw (route-sent p Source source target string [], target-stays Source source target string [] e, string-of-dialled string)
    (advance n p source target string e (omega arith))
source-walk (suc n) p source target string (t ∷ ts) e h =
    one-hop n p (sent Source source target string (t ∷ ts))
    ∙ rw (route-sent p Source source target string (t ∷ ts), target-stays Source source target string (t ∷ ts) e, string-of-dialled string)
    (ap (λ (rest : List Hop). hop (Feature t source) (length ts) ∷ rest) (source-walk n p source target string ts e (omega arith)))

-- ---- from the whole of the source zone

whole-route : (p : Plan) (out : Setup) → out.region ≡ Source → out.route ≡ Whole → route2 p out ≡ zone_at p Source out.source
unfolding route2 zone2
whole-route p out s w = rw (s, w)

pub visits-both : (p : Plan) (out : Setup) → out.region ≡ Source → out.route ≡ Whole → journey p out ≡ both_zones p out.source (target1 out)
unfolding journey both_zones region_of route_of region3 route3 target1
visits-both p out s w =
    let zone : List ℕ = zone_at p Source out.source in
    let string : List ℕ = string_of out.dialled in
    let begun : Setup = sent Source out.source (target1 out) string zone in
    (one-hop 64 p out ∙ rw (whole-route p out s w, s)
    (rw (route-sent p Source out.source (target1 out) string zone, target-stays Source out.source (target1 out) string zone (settled out), string-of-dialled string) at (sym (one-hop 64 p begun))))
    ∙ source-walk 65 p out.source (target1 out) string zone (settled out) (omega (arith, zone-short p Source out.source, zone-short p Target (target1 out)))
