-- What new, continued and reversed make is well formed (manual 5.4 to 5.6). Assumes nothing.
use Rattle.std.specs.Prelude.{Option, Some, None, Ok}
use mathlib.Core.Path.{◌≡◌, refl, ap}
use mathlib.Core.Logic.{⊎_elim}
use mathlib.Core.Bool.{Bool, true, false, not, ◌&&◌, false≢true}
use mathlib.Core.List.{List, []}
use Prim.Native.Nat.{ℕ, ◌≤◌}
use lib.Dec.{eqb, leb}
use lib.ListN.{length, take, length-take}
use native.Mathlib.Omega.{arith}
use borrow.Author.Tests.{eqb-true, leb-true, le-leb}
use Rattle.typeset.proofs.Bools.{yes_or_no, clash, and_left, and_right, and-make, not-true}
use Rattle.plan.specs.declared.Region.{Region}
use Rattle.plan.specs.declared.Region.TheVariants.{Source, Target}
use Rattle.plan.specs.declared.Plan.{Plan}
use Rattle.plan.specs.Parts.{legal, given}
use Rattle.plan.proofs.Lookup.{lookup-not-given}
use Rattle.zone.specs.declared.Zone.{Zone}
use Rattle.zone.specs.Order.{held, list_of}
use Rattle.zone.specs.Answer.{zone_at}
use Rattle.zone.proofs.Held.{held-list}
use Rattle.setup.specs.declared.Dialled.{Dialled}
use Rattle.setup.specs.declared.Route.{Route}
use Rattle.setup.specs.declared.Route.TheVariants.{Whole, Suffix, Listed}
use Rattle.setup.specs.declared.Setup.{Setup}
use Rattle.setup.specs.Dialling.{legal_string, dialled, string_of, legal_dialled}
use Rattle.setup.specs.Setups.{routing, other, routing_address, end_part, outer_legal, in_range, list_fits, route_fits, placing_fits, well_formed}
use Rattle.setup.proofs.Faults.{Kept, well-formed-of, well-formed-kept, dialled-legal, string-legal}
use Rattle.making.specs.declared.Maker.{Maker}
use Rattle.making.specs.declared.Maker.TheVariants.{Feature, Line, Trunk, Resource, Error}
use Rattle.making.specs.Making.{box_address, box_type, kind_of, somebody, makes_new, makes_more, address_held, or_kept, string_or, new_setup, further, continued_setup, turned, reversed_setup, is_list, new_outcome, continued_outcome, reversed_outcome}
use Rattle.making.proofs.Outcomes.{new-made, continued-made, reversed-made}

-- ---- the box's address is one that somebody has

held-given : (p : Plan) (m : Maker) → makes_new m ≡ true → address_held p m ≡ true → given (box_address m) ≡ true
held-given p (Feature t a) n e =
    ⊎_elim (λ g. g) (λ (g : given a ≡ false). absurd (clash e (ap somebody (lookup-not-given p a g)))) (yes_or_no (given a))
held-given p (Line a) n e =
    ⊎_elim (λ g. g) (λ (g : given a ≡ false). absurd (clash e (ap (λ (k : ℕ). eqb k 1) (ap (kind_of p) (lookup-not-given p a g))))) (yes_or_no (given a))
held-given p (Trunk a) n e =
    ⊎_elim (λ g. g) (λ (g : given a ≡ false). absurd (clash e (ap (λ (k : ℕ). eqb k 2) (ap (kind_of p) (lookup-not-given p a g))))) (yes_or_no (given a))
held-given p Resource n e = absurd (false≢true n)
held-given p Error n e = absurd (false≢true n)

more-new : (m : Maker) → makes_more m ≡ true → makes_new m ≡ true
more-new (Feature t a) e = refl
more-new (Line a) e = absurd (false≢true e)
more-new (Trunk a) e = absurd (false≢true e)
more-new Resource e = absurd (false≢true e)
more-new Error e = absurd (false≢true e)

given-legal : (a : ℕ) → given a ≡ true → legal a ≡ true
unfolding given
given-legal a e = and_left (legal a) (not (eqb a 0)) e

given-some : (a : ℕ) → given a ≡ true → eqb a 0 ≡ false
unfolding given
given-some a e = not-true (eqb a 0) (and_right (legal a) (not (eqb a 0)) e)

legal-or : (a b : ℕ) → legal a ≡ true → legal b ≡ true → legal (or_kept a b) ≡ true
legal-or a b la lb = ⊎_elim (λ (e : eqb a 0 ≡ true). rw e lb) (λ (e : eqb a 0 ≡ false). rw e la) (yes_or_no (eqb a 0))

-- ---- new

pub new-well-formed : (p : Plan) (m : Maker) (string : List ℕ) (target : ℕ) → new_outcome p m string target ≡ Ok tt
    → well_formed p (new_setup (box_address m) string target) ≡ true
unfolding new_setup in_range routing_address
new-well-formed p m string target e =
    let k = new-made p m string target e in
    let g = held-given p m k.may-make k.held-here in
    well-formed-of p (new_setup (box_address m) string target) record {
      in-range = and-make (and-make (and-make (given-legal (box_address m) g) k.target-legal) (given-legal (box_address m) g)) (dialled-legal string k.string-legal);
      routed = given-some (box_address m) g;
      route = refl;
      placing = refl;
      outer = ap not (given-some (box_address m) g);
    }

-- ---- what continued and reversed setups share

-- what is asked of the parts
pub record Parts (p : Plan) (r : Region) (box sourceArg targetArg kept : ℕ) (string : Dialled) (route : Route) (list : Zone) (placing : Option ℕ) : Type 0 where
  pub box-given : given box ≡ true
  pub source-legal : legal sourceArg ≡ true
  pub target-legal : legal targetArg ≡ true
  pub kept-legal : legal kept ≡ true
  pub dialled-legal : legal_dialled string ≡ true
  pub route-fits : route_fits route (list_fits (zone_at p r box) list) ≡ true
  pub placing-fits : placing_fits p.types.reversible route placing ≡ true

further-well-formed : (p : Plan) (r : Region) (box sourceArg targetArg kept : ℕ) (string : Dialled) (route : Route) (list : Zone) (placing : Option ℕ)
    → Parts p r box sourceArg targetArg kept string route list placing
    → well_formed p (further r box sourceArg targetArg kept string route list placing) ≡ true
unfolding further in_range routing_address
further-well-formed p Source box sourceArg targetArg kept string route list placing k =
    ⊎_elim
    (λ (none : eqb sourceArg 0 ≡ true). well-formed-of p (further Source box sourceArg targetArg kept string route list placing) record {
      in-range = rw none (and-make (and-make (and-make (given-legal box k.box-given) (legal-or targetArg kept k.target-legal k.kept-legal)) refl) k.dialled-legal);
      routed = rw none (given-some box k.box-given);
      route = rw none k.route-fits;
      placing = rw none k.placing-fits;
      outer = rw none refl;
    })
    (λ (some : eqb sourceArg 0 ≡ false). well-formed-of p (further Source box sourceArg targetArg kept string route list placing) record {
      in-range = rw some (and-make (and-make (and-make k.source-legal (legal-or targetArg kept k.target-legal k.kept-legal)) (given-legal box k.box-given)) k.dialled-legal);
      routed = rw (some, some) refl;
      route = rw some refl;
      placing = rw some refl;
      outer = rw some (ap not (given-some box k.box-given));
    })
    (yes_or_no (eqb sourceArg 0))
further-well-formed p Target box sourceArg targetArg kept string route list placing k =
    ⊎_elim
    (λ (none : eqb targetArg 0 ≡ true). well-formed-of p (further Target box sourceArg targetArg kept string route list placing) record {
      in-range = rw none (and-make (and-make (and-make (legal-or sourceArg kept k.source-legal k.kept-legal) (given-legal box k.box-given)) refl) k.dialled-legal);
      routed = rw none (given-some box k.box-given);
      route = rw none k.route-fits;
      placing = rw none k.placing-fits;
      outer = rw none refl;
    })
    (λ (some : eqb targetArg 0 ≡ false). well-formed-of p (further Target box sourceArg targetArg kept string route list placing) record {
      in-range = rw some (and-make (and-make (and-make (legal-or sourceArg kept k.source-legal k.kept-legal) k.target-legal) refl) k.dialled-legal);
      routed = rw (some, some) refl;
      route = rw some refl;
      placing = rw some refl;
      outer = rw some refl;
    })
    (yes_or_no (eqb targetArg 0))

-- ---- continued

-- the string is the argument or the stored one, and both are legal
string-or-legal : (argument kept : List ℕ) → legal_string argument ≡ true → legal_string kept ≡ true → legal_string (string_or argument kept) ≡ true
string-or-legal argument kept a k =
    ⊎_elim (λ (e : eqb (length argument) 0 ≡ true). rw e k) (λ (e : eqb (length argument) 0 ≡ false). rw e a) (yes_or_no (eqb (length argument) 0))

-- either address of a well-formed setup is legal, and so is its string
module _ (p : Plan) (s : Setup) (k : Kept p s) where
  three : (legal s.source && legal s.target && outer_legal s.outer) ≡ true
  unfolding in_range
  three = and_left (legal s.source && legal s.target && outer_legal s.outer) (legal_dialled s.dialled) k.in-range

  stored-source : legal s.source ≡ true
  stored-source = and_left (legal s.source) (legal s.target) (and_left (legal s.source && legal s.target) (outer_legal s.outer) three)

  stored-target : legal s.target ≡ true
  stored-target = and_right (legal s.source) (legal s.target) (and_left (legal s.source && legal s.target) (outer_legal s.outer) three)

  stored-string : legal_dialled s.dialled ≡ true
  unfolding in_range
  stored-string = and_right (legal s.source && legal s.target && outer_legal s.outer) (legal_dialled s.dialled) k.in-range

  stored-routing : (r : Region) → legal (routing r s.source s.target) ≡ true
  stored-routing Source = stored-source
  stored-routing Target = stored-target

  stored_other : (r : Region) → legal (other r s.source s.target) ≡ true
  stored_other Source = stored-target
  stored_other Target = stored-source

kept-short : (l : Zone) → l.len ≤ 32 → (held (take l.len l.types)).len ≤ 32
unfolding held
kept-short l h = simp length-take (omega arith)

-- a list that fits still fits as it is kept
kept-fits : (zone : List ℕ) (l : Zone) → list_fits zone l ≡ true → list_fits zone (held (list_of l)) ≡ true
unfolding list_fits list_of
kept-fits zone l e =
    let back = held-list (take l.len l.types) in
    and-make (le-leb (held (take l.len l.types)).len 32 (kept-short l (leb-true l.len 32 (and_left (leb l.len 32) (end_part (take l.len l.types) zone) e))))
    (rw back (and_right (leb l.len 32) (end_part (take l.len l.types) zone) e))

list-routed : (r : Route) (b : Bool) → is_list r ≡ true → route_fits r b ≡ true → b ≡ true
list-routed Whole b i e = absurd (false≢true i)
list-routed Suffix b i e = absurd (false≢true i)
list-routed Listed b i e = e

pub continued-well-formed : (p : Plan) (m : Maker) (s : Setup) (sourceArg : ℕ) (string : List ℕ) (targetArg : ℕ)
    → continued_outcome p m s sourceArg string targetArg ≡ Ok tt → well_formed p (continued_setup (box_address m) s sourceArg string targetArg) ≡ true
unfolding continued_setup
continued-well-formed p m s sourceArg string targetArg e =
    let k = continued-made p m s sourceArg string targetArg e in
    let stored = well-formed-kept p s (and_left (well_formed p s) (is_list s.route) k.from_list) in
    let here : routing_address s ≡ box_address m = eqb-true (routing_address s) (box_address m) k.routed-here in
    let fits : list_fits (zone_at p s.region (routing_address s)) s.list ≡ true =
    list-routed s.route (list_fits (zone_at p s.region (routing_address s)) s.list) (and_right (well_formed p s) (is_list s.route) k.from_list) stored.route in
    further-well-formed p s.region (box_address m) sourceArg targetArg (other s.region s.source s.target)
    (dialled (string_or string (string_of s.dialled))) Listed (held (list_of s.list)) None record {
      box-given = held-given p m (more-new m k.may-make) k.held-here;
      source-legal = and_left (legal sourceArg) (legal targetArg) k.both-legal;
      target-legal = and_right (legal sourceArg) (legal targetArg) k.both-legal;
      kept-legal = stored_other p s stored s.region;
      dialled-legal = dialled-legal (string_or string (string_of s.dialled)) (string-or-legal string (string_of s.dialled) k.string-legal (string-legal s.dialled (stored-string p s stored)));
      route-fits = rw here at (kept-fits (zone_at p s.region (routing_address s)) s.list fits);
      placing-fits = refl;
    }

-- ---- reversed

pub reversed-well-formed : (p : Plan) (m : Maker) (s : Setup) (sourceArg : ℕ) (string : List ℕ) (targetArg : ℕ)
    → reversed_outcome p m s sourceArg string targetArg ≡ Ok tt → well_formed p (reversed_setup (box_type m) (box_address m) s sourceArg string targetArg) ≡ true
unfolding reversed_setup
reversed-well-formed p m s sourceArg string targetArg e =
    let k = reversed-made p m s sourceArg string targetArg e in
    let stored = well-formed-kept p s k.well-formed in
    further-well-formed p (turned s.region) (box_address m) sourceArg targetArg (routing (turned s.region) s.source s.target)
    (dialled (string_or string (string_of s.dialled))) Suffix (held []) (Some (box_type m)) record {
      box-given = held-given p m (more-new m k.may-make) k.held-here;
      source-legal = and_left (legal sourceArg) (legal targetArg) k.both-legal;
      target-legal = and_right (legal sourceArg) (legal targetArg) k.both-legal;
      kept-legal = stored-routing p s stored (turned s.region);
      dialled-legal = dialled-legal (string_or string (string_of s.dialled)) (string-or-legal string (string_of s.dialled) k.string-legal (string-legal s.dialled (stored-string p s stored)));
      route-fits = refl;
      placing-fits = k.reversible;
    }
