-- What a well-formed setup keeps, and that a setup which keeps it all is well formed; legal strings as a setup holds them. Assumes nothing.
use mathlib.Core.Path.{◌≡◌, refl, ap, sym}
use mathlib.Core.Logic.{⊎_elim, ◌↔◌}
use mathlib.Core.Bool.{Bool, not, true, false, cond, false≢true, Bool, ◌&&◌}
use mathlib.Core.List.{List}
use Prim.Native.Nat.{ℕ, ◌-◌, ◌≤◌, ◌<◌}
use native.Mathlib.Omega.{arith}
use lib.Dec.{eqb, leb}
use lib.ListN.{length, get_or, take, replicate, length-take, get_or-append}
use lib.Seq.{get_or-take}
use borrow.Author.Tests.{leb-true, le-leb}
use Rattle.typeset.specs.Sets.{every}
use Rattle.typeset.proofs.Bools.{yes_or_no, and_left, and_right, and-make}
use Rattle.typeset.proofs.Below.{every-at, every_of, every-ext}
use Rattle.plan.specs.declared.Plan.{Plan}
use Rattle.zone.specs.Answer.{zone_at}
use Rattle.setup.specs.declared.Dialled.{Dialled}
use Rattle.zone.specs.declared.Zone.{Zone}
use Rattle.setup.specs.declared.Route.{Route}
use Rattle.setup.specs.declared.Route.TheVariants.{Whole, Suffix, Listed}
use Rattle.setup.specs.declared.Setup.{Setup}
use Rattle.std.specs.Prelude.{Option, Some, None, is_some}
use Rattle.setup.specs.declared.Fault.{Fault}
use Rattle.setup.specs.declared.Fault.TheVariants.{BadAddressOrString, NoRoutingAddress, NoEndPart, WrongPlacing, WrongOuter}
use Rattle.setup.specs.FaultNumber.{number_of_fault}
use Rattle.setup.specs.Dialling.{symbol, legal_string, padded, dialled, string_of, legal_dialled}
use Rattle.setup.specs.Setups.{routing_address, in_range, list_fits, route_fits, placing_fits, outer_fits, fault_in, zone_asked, fault, faultless, well_formed}

-- ---- strings

pub dialled-legal : (l : List ℕ) → legal_string l ≡ true → legal_dialled (dialled l) ≡ true
unfolding legal_string legal_dialled dialled padded
dialled-legal l e =
    and-make (and_left (leb (length l) 32) (every (length l) (λ i. symbol (get_or l i 0))) e)
    (every_of (length l) _ (λ i h. rw (get_or-append l (replicate (32 - length l) 0) 0 i h)
    (every-at (length l) (λ i. symbol (get_or l i 0)) (and_right (leb (length l) 32) (every (length l) (λ i. symbol (get_or l i 0))) e) i h)))

pub string-legal : (d : Dialled) → legal_dialled d ≡ true → legal_string (string_of d) ≡ true
unfolding legal_string legal_dialled string_of
string-legal d e =
    let low : d.len ≤ 32 = leb-true d.len 32 (and_left (leb d.len 32) (every d.len (λ i. symbol (get_or d.symbols i 0))) e) in
    let short : length (take d.len d.symbols) ≤ d.len = simp length-take (omega arith) in
    and-make (le-leb (length (take d.len d.symbols)) 32 (omega arith))
    (every_of (length (take d.len d.symbols)) _ (λ i h.
    let inside : i < d.len = omega arith in
    rw (get_or-take d.len d.symbols i 0 inside)
    (every-at d.len (λ i. symbol (get_or d.symbols i 0)) (and_right (leb d.len 32) (every d.len (λ i. symbol (get_or d.symbols i 0))) e) i inside)))

-- a string in a setup is legal where it is not too long and its symbols are
pub dialled-is : (d : Dialled) → length d.symbols ≡ 32 → d.len ≤ 32 → legal_dialled d ≡ legal_string (string_of d)
unfolding legal_dialled legal_string string_of
dialled-is d long low =
    let size : length (take d.len d.symbols) ≡ d.len = simp length-take (omega arith) in
    rw size (ap (λ (b : Bool). leb d.len 32 && b) (every-ext d.len _ _ (λ i h. rw (get_or-take d.len d.symbols i 0 h))))

-- ---- faults

pub record Kept (p : Plan) (s : Setup) : Type 0 where
  pub in-range : in_range s ≡ true
  pub routed : eqb (routing_address s) 0 ≡ false
  pub route : route_fits s.route (list_fits (zone_at p s.region (routing_address s)) s.list) ≡ true
  pub placing : placing_fits p.types.reversible s.route s.placing ≡ true
  pub outer : outer_fits s.region s.outer ≡ true

pub well-formed-of : (p : Plan) (s : Setup) → Kept p s → well_formed p s ≡ true
unfolding well_formed fault fault_in
well-formed-of p s k = rw (k.in-range, k.routed, k.route, k.placing, k.outer)

pub well-formed-kept : (p : Plan) (s : Setup) → well_formed p s ≡ true → Kept p s
unfolding well_formed fault fault_in
well-formed-kept p s e =
    ⊎_elim (λ (a : in_range s ≡ true).
    ⊎_elim (λ (b : eqb (routing_address s) 0 ≡ true). absurd (false≢true (rw (a, b) at e))) (λ (b : eqb (routing_address s) 0 ≡ false).
    ⊎_elim (λ (c : route_fits s.route (list_fits (zone_at p s.region (routing_address s)) s.list) ≡ true).
    ⊎_elim (λ (d : placing_fits p.types.reversible s.route s.placing ≡ true).
    ⊎_elim (λ (f : outer_fits s.region s.outer ≡ true). record { in-range = a; routed = b; route = c; placing = d; outer = f })
    (λ (f : outer_fits s.region s.outer ≡ false). absurd (false≢true (rw (a, b, c, d, f) at e)))
    (yes_or_no (outer_fits s.region s.outer)))
    (λ (d : placing_fits p.types.reversible s.route s.placing ≡ false). absurd (false≢true (rw (a, b, c, d) at e)))
    (yes_or_no (placing_fits p.types.reversible s.route s.placing)))
    (λ (c : route_fits s.route (list_fits (zone_at p s.region (routing_address s)) s.list) ≡ false). absurd (false≢true (rw (a, b, c) at e)))
    (yes_or_no (route_fits s.route (list_fits (zone_at p s.region (routing_address s)) s.list))))
    (yes_or_no (eqb (routing_address s) 0)))
    (λ (a : in_range s ≡ false). absurd (false≢true (rw a at e)))
    (yes_or_no (in_range s))

-- a caller that has the zone of the routing address needs it only where there is a routing address
pub fault-in : (p : Plan) (s : Setup) (zone : List ℕ) → (eqb (routing_address s) 0 ≡ false → zone ≡ zone_at p s.region (routing_address s))
    → fault_in zone p.types.reversible s ≡ fault p s
unfolding fault fault_in
fault-in p s zone same =
    ⊎_elim (λ (b : eqb (routing_address s) 0 ≡ true). rw b)
    (λ (b : eqb (routing_address s) 0 ≡ false). rw (same b))
    (yes_or_no (eqb (routing_address s) 0))

-- a route that is no list asks for no zone
asked-fits : (r : Route) (zone : List ℕ) (l : Zone) → route_fits r (list_fits (zone_asked r zone) l) ≡ route_fits r (list_fits zone l)
asked-fits Whole zone l = refl
asked-fits Suffix zone l = refl
asked-fits Listed zone l = refl

pub asked-enough : (zone : List ℕ) (reversible : ℕ) (s : Setup) → fault_in (zone_asked s.route zone) reversible s ≡ fault_in zone reversible s
unfolding fault_in
asked-enough zone reversible s = rw (asked-fits s.route zone s.list)

-- what `is_none` says of a fault
pub none-said : (f : Option Fault) (b : Bool) → is_some f ≡ not b → b ≡ faultless f
none-said None true e = refl
none-said None false e = absurd (false≢true e)
none-said (Some f) true e = absurd (false≢true (sym e))
none-said (Some f) false e = refl

-- ---- the number of a fault: 0 exactly for a well-formed setup, else 5

number-faultless : (f : Option Fault) → number_of_fault f ≡ cond (faultless f) 0 5
number-faultless None = refl
number-faultless (Some BadAddressOrString) = refl
number-faultless (Some NoRoutingAddress) = refl
number-faultless (Some NoEndPart) = refl
number-faultless (Some WrongPlacing) = refl
number-faultless (Some WrongOuter) = refl

pub fault-number : (p : Plan) (s : Setup) → number_of_fault (fault p s) ≡ cond (well_formed p s) 0 5
unfolding well_formed
fault-number p s = number-faultless (fault p s)

-- a setup is well formed exactly when it keeps all five
pub well-formed-exactly : (p : Plan) (s : Setup) → (well_formed p s ≡ true) ↔ Kept p s
well-formed-exactly p s = (well-formed-kept p s, well-formed-of p s)
