-- From the lists to the steps: what the program finds in the two zones is what the steps of routing say. Assumes nothing.
use Rattle.std.specs.Prelude.{Option, Some, None, Result, Ok, Err, ⊤}
use mathlib.Core.Path.{◌≡◌, refl, sym, ap, ◌∙◌}
use mathlib.Core.Logic.{◌⊎◌, inl, inr, ⊎_elim}
use mathlib.Core.Bool.{Bool, true, false, false≢true}
use mathlib.Core.List.{List}
use Prim.Native.Nat.{ℕ, ◌≤◌}
use denote.Ref.{Bor}
use lib.Dec.{eqb, leb}
use lib.ListN.{length, take, drop}
use lib.Seq.{sets}
use native.Mathlib.Omega.{arith}
use borrow.Author.Tests.{leb-true}
use Rattle.typeset.proofs.Bools.{yes_or_no, and_left, and_right}
use Rattle.plan.specs.declared.Region.{Region}
use Rattle.plan.specs.declared.Region.TheVariants.{Source, Target}
use Rattle.plan.specs.declared.Plan.{Plan}
use Rattle.zone.specs.declared.Zone.{Zone}
use Rattle.zone.specs.Order.{held, list_of}
use Rattle.zone.specs.Answer.{zone_at}
use Rattle.zone.proofs.Held.{held-list}
use Rattle.setup.specs.declared.Route.{Route}
use Rattle.setup.specs.declared.Route.TheVariants.{Whole, Suffix, Listed}
use Rattle.setup.specs.declared.Setup.{Setup}
use Rattle.setup.specs.Setups.{routing, routing_address, end_part, list_fits, route_fits, fault_in, faultless, well_formed}
use Rattle.setup.proofs.Faults.{well-formed-kept, fault-in}
use Rattle.setup.proofs.Tails.{end-part-is}
use Rattle.refusal.specs.declared.Refusal.{Refusal}
use Rattle.refusal.specs.declared.Refusal.TheVariants.{RuleBroken, Malformed, ListTooShort}
use Rattle.routing.specs.Steps.{target1, suffix_after, suffix, expanded, zone2, route2, exhausted, region3, route3, outer3, region_of, route_of, callee_of, received_of, left_of}
use Rattle.refusal.specs.Numbers.{◌>>=◌, unless}
use Rattle.routing.specs.Routing.{roomy, settled_by, outcome_by, answered, answer_by, source_list_after, target_list_after}
use Rattle.routing.specs.Places.{suffix_begins, begins, delivered, advanced, settled_in}
use Rattle.plan.specs.Parts.{of_region}
use Rattle.routing.proofs.Parts.{stored-front}
use Rattle.routing.specs.declared.Callee.{Callee}
use Rattle.routing.specs.declared.Routed.{Routed}

-- ---- the target

pub target-given : (out : Setup) → eqb out.target 0 ≡ false → target1 out ≡ out.target
unfolding target1
target-given out e = rw e

-- ---- what is settled before a route is handed over

pub record Passed (kept : Bool) (p : Plan) (out : Setup) (sourceRoom targetRoom : ℕ) (later : (Result ⊤ Refusal)) : Type 0 where
  pub sound : kept ≡ true
  pub well-formed : well_formed p out ≡ true
  pub room : roomy sourceRoom targetRoom ≡ true
  pub nothing : later ≡ Ok tt

abbrev refuses : Result ⊤ Refusal → Bool
refuses (Ok _) = false
refuses (Err r) = true

-- every test that can refuse was passed
pub all-passed : (kept fine room : Bool) (later : (Result ⊤ Refusal)) → unless kept (RuleBroken 0) (unless fine Malformed (unless room ListTooShort later)) ≡ Ok tt
    → (kept ≡ true) × (fine ≡ true) × (room ≡ true) × (later ≡ Ok tt)
all-passed true true true later e = (refl, refl, refl, e)
all-passed true true false later e = absurd (false≢true (sym (ap refuses e)))
all-passed true false room later e = absurd (false≢true (sym (ap refuses e)))
all-passed false fine room later e = absurd (false≢true (sym (ap refuses e)))

-- the caller's own comes after routing's three
pub then-later : (kept fine room : Bool) (later : Result ⊤ Refusal)
    → unless kept (RuleBroken 0) (unless fine Malformed (unless room ListTooShort later))
    ≡ ◌>>=◌ {A = ⊤} {B = ⊤} (unless kept (RuleBroken 0) (unless fine Malformed (unless room ListTooShort (Ok tt)))) (λ ok. later)
then-later true true true later = refl
then-later true true false later = refl
then-later true false room later = refl
then-later false fine room later = refl

pub settled-passed : (kept : Bool) (p : Plan) (out : Setup) (later : (Result ⊤ Refusal)) (n m : ℕ) → settled_by kept p out later n m ≡ Ok tt → Passed kept p out n m later
unfolding settled_by
settled-passed kept p out later n m e =
    let passed = all-passed kept (well_formed p out) (roomy n m) later e in
    record { sound = passed.0; well-formed = passed.1; room = passed.2; nothing = passed.3 }

-- there is room, whoever has the plan
pub settled-room : (kept : Bool) (zone : List ℕ) (reversible : ℕ) (out : Setup) (later : (Result ⊤ Refusal)) (n m : ℕ) → settled_in kept zone reversible out later n m ≡ Ok tt → roomy n m ≡ true
unfolding settled_in
settled-room kept zone reversible out later n m e = (all-passed kept (faultless (fault_in zone reversible out)) (roomy n m) later e).2

-- a refusal is one of routing's own three, or the caller's
refusal_in : Result ⊤ Refusal → Refusal → Refusal
refusal_in (Ok _) x = x
refusal_in (Err r) x = r

same-refusal : {r x : Refusal} → ◌≡◌ {A = Result ⊤ Refusal} (Err x) (Err r) → r ≡ x
unfolding refusal_in
same-refusal {r} {x} e = sym (ap (λ (l : (Result ⊤ Refusal)). refusal_in l x) e)

pub settled-refusal : (kept : Bool) (p : Plan) (out : Setup) (later : (Result ⊤ Refusal)) (n m : ℕ) (r : Refusal) → settled_by kept p out later n m ≡ Err r
    → (r ≡ RuleBroken 0) ⊎ ((r ≡ Malformed) ⊎ ((r ≡ ListTooShort) ⊎ (later ≡ Err r)))
unfolding settled_by
settled-refusal kept p out later n m r e =
    ⊎_elim (λ (a : kept ≡ true).
    ⊎_elim (λ (b : well_formed p out ≡ true).
    ⊎_elim (λ (d : roomy n m ≡ true). inr (inr (inr (rw (a, b, d) at e))))
    (λ (d : roomy n m ≡ false). inr (inr (inl (same-refusal (rw (a, b, d) at e)))))
    (yes_or_no (roomy n m)))
    (λ (b : well_formed p out ≡ false). inr (inl (same-refusal (rw (a, b) at e))))
    (yes_or_no (well_formed p out)))
    (λ (a : kept ≡ false). inl (same-refusal (rw a at e)))
    (yes_or_no kept)

pub room-source : (n m : ℕ) → roomy n m ≡ true → 32 ≤ n
unfolding roomy
room-source n m e = leb-true 32 n (and_left (leb 32 n) (leb 32 m) e)

pub room-target : (n m : ℕ) → roomy n m ≡ true → 32 ≤ m
unfolding roomy
room-target n m e = leb-true 32 m (and_right (leb 32 n) (leb 32 m) e)

-- ---- the zone of the region

zone-in : (p : Plan) (r : Region) (source target : ℕ) (zs zt : Zone) → list_of zs ≡ zone_at p Source source → list_of zt ≡ zone_at p Target target
    → list_of (of_region r zs zt) ≡ zone_at p r (routing r source target)
zone-in p Source source target zs zt s t = s
zone-in p Target source target zs zt s t = t

-- what is there for step 2
pub zone-is : (p : Plan) (out : Setup) (zs zt : Zone) → list_of zs ≡ zone_at p Source out.source → list_of zt ≡ zone_at p Target (target1 out)
    → list_of (of_region out.region zs zt) ≡ zone2 p out
unfolding zone2
zone-is p out zs zt s t = zone-in p out.region out.source (target1 out) zs zt s t

routed-same : (p : Plan) (r : Region) (source target extracted : ℕ) → (eqb target 0 ≡ false → extracted ≡ target) → eqb (routing r source target) 0 ≡ false
    → zone_at p r (routing r source extracted) ≡ zone_at p r (routing r source target)
routed-same p Source source target extracted same ne = refl
routed-same p Target source target extracted same ne = ap (zone_at p Target) (same ne)

-- it is the zone of the routing address before step 1 too, where there is a routing address
pub zone-routed : (p : Plan) (out : Setup) → eqb (routing_address out) 0 ≡ false → zone2 p out ≡ zone_at p out.region (routing_address out)
unfolding zone2 routing_address
zone-routed p out ne = routed-same p out.region out.source out.target (target1 out) (target-given out) ne

pub well-formed-zones : (p : Plan) (out : Setup) (zs zt : Zone) → list_of zs ≡ zone_at p Source out.source → list_of zt ≡ zone_at p Target (target1 out)
    → faultless (fault_in (list_of (of_region out.region zs zt)) p.types.reversible out) ≡ well_formed p out
unfolding well_formed
well-formed-zones p out zs zt s t =
    ap faultless (fault-in p out (list_of (of_region out.region zs zt)) (λ ne. zone-is p out zs zt s t ∙ zone-routed p out ne))

-- what is settled in the zones of a plan, by that plan
pub settled-zones : (kept : Bool) (p : Plan) (out : Setup) (later : (Result ⊤ Refusal)) (n m : ℕ) (zs zt : Zone) → list_of zs ≡ zone_at p Source out.source → list_of zt ≡ zone_at p Target (target1 out)
    → settled_in kept (list_of (of_region out.region zs zt)) p.types.reversible out later n m ≡ settled_by kept p out later n m
unfolding settled_in settled_by
settled-zones kept p out later n m zs zt s t = rw (well-formed-zones p out zs zt s t)

-- ---- step 2

fits-end-part : (zone : List ℕ) (l : Zone) → list_fits zone l ≡ true → end_part (list_of l) zone ≡ true
unfolding list_fits
fits-end-part zone l e = and_right (leb l.len 32) (end_part (list_of l) zone) e

suffix-begins : (placing : (Option ℕ)) (zone : List ℕ) → drop (suffix_begins placing zone) zone ≡ suffix placing zone
unfolding suffix_after
suffix-begins None zone = refl
suffix-begins (Some t) zone = refl

pub begins-expanded : (r : Route) (placing : (Option ℕ)) (l : Zone) (zone : List ℕ) → route_fits r (list_fits zone l) ≡ true
    → drop (begins r placing (list_of l) zone) zone ≡ expanded r placing (list_of l) zone
begins-expanded Whole _ l zone fits = refl
begins-expanded Suffix placing l zone fits = suffix-begins placing zone
begins-expanded Listed _ l zone fits = end-part-is (list_of l) zone (fits-end-part zone l fits)

-- the route of a well-formed setup after step 2 is an end part of the zone
pub route-begins : (p : Plan) (out : Setup) → well_formed p out ≡ true → drop (begins out.route out.placing (list_of out.list) (zone2 p out)) (zone2 p out) ≡ route2 p out
unfolding route2
route-begins p out w =
    let k = well-formed-kept p out w in
    begins-expanded out.route out.placing out.list (zone2 p out) (rw (zone-routed p out k.routed) k.route)

-- ---- the whole

pub handed-over : (kept : Bool) (p : Plan) (out : Setup) (later : (Result ⊤ Refusal)) (n m : ℕ) (zs zt : Zone) → list_of zs ≡ zone_at p Source out.source → list_of zt ≡ zone_at p Target (target1 out)
    → settled_by kept p out later n m ≡ Ok tt
    → Ok (advanced p out (target1 out) (drop (begins out.route out.placing (list_of out.list) (list_of (of_region out.region zs zt))) (list_of (of_region out.region zs zt))) (list_of zt)) ≡ answer_by kept p out later n m
unfolding answer_by outcome_by callee_of received_of left_of region_of route_of advanced delivered
handed-over kept p out later n m zs zt s t e =
    rw (zone-is p out zs zt s t, route-begins p out (settled-passed kept p out later n m e).well-formed, t, e)

-- step 3, by whether the source region is exhausted
pub advanced-on : (p : Plan) (out : Setup) (target : ℕ) (rest targetZone : List ℕ) → exhausted out.region rest ≡ true
    → advanced p out target rest targetZone ≡ delivered p out target Target None targetZone
unfolding advanced region3 outer3 route3
advanced-on p out target rest targetZone e = rw e

pub advanced-not : (p : Plan) (out : Setup) (target : ℕ) (rest targetZone : List ℕ) → exhausted out.region rest ≡ false
    → advanced p out target rest targetZone ≡ delivered p out target out.region out.outer rest
unfolding advanced region3 outer3 route3
advanced-not p out target rest targetZone e = rw e

-- ---- the two lists

-- a zone as the program holds it
pub held-is : (l : List ℕ) → list_of (held l) ≡ l
unfolding list_of
held-is l = held-list l

pub zone-low : (r : Region) (zs zt : Zone) → length (list_of zs) ≤ 32 → length (list_of zt) ≤ 32 → length (list_of (of_region r zs zt)) ≤ 32
zone-low Source zs zt s t = s
zone-low Target zs zt s t = t

-- what the list of the region holds
pub of-now : (r : Region) (source target : Bor (List ℕ)) → (of_region r source target).now ≡ of_region r source.now target.now
of-now Source source target = refl
of-now Target source target = refl

-- the list of the region begins with the zone of the region
pub list-begins : (r : Region) (zs zt : Zone) (source target : List ℕ) → take (length (list_of zs)) source ≡ list_of zs → take (length (list_of zt)) target ≡ list_of zt
    → take (length (list_of (of_region r zs zt))) (of_region r source target) ≡ list_of (of_region r zs zt)
list-begins Source zs zt source target s t = s
list-begins Target zs zt source target s t = t

pub list-refused : (kept : Bool) (p : Plan) (out : Setup) (later : (Result ⊤ Refusal)) (n m : ℕ) (r : Refusal) → settled_by kept p out later n m ≡ Err r → outcome_by kept p out later n m ≡ Err r
unfolding outcome_by
list-refused kept p out later n m r e = rw e

pub list-routed : (kept : Bool) (p : Plan) (out : Setup) (later : (Result ⊤ Refusal)) (n m : ℕ) → settled_by kept p out later n m ≡ Ok tt → outcome_by kept p out later n m ≡ Ok (callee_of p out)
unfolding outcome_by
list-routed kept p out later n m e = rw e

pub source-refused : (kept : Bool) (p : Plan) (out : Setup) (later : (Result ⊤ Refusal)) (n m : ℕ) (r : Refusal) (l : List ℕ) → settled_by kept p out later n m ≡ Err r → source_list_after p out (outcome_by kept p out later n m) l ≡ l
unfolding source_list_after
source-refused kept p out later n m r l e = rw (list-refused kept p out later n m r e)

pub target-refused : (kept : Bool) (p : Plan) (out : Setup) (later : (Result ⊤ Refusal)) (n m : ℕ) (r : Refusal) (l : List ℕ) → settled_by kept p out later n m ≡ Err r → target_list_after p out (outcome_by kept p out later n m) l ≡ l
unfolding target_list_after
target-refused kept p out later n m r l e = rw (list-refused kept p out later n m r e)

pub answer-refused : (kept : Bool) (p : Plan) (out : Setup) (later : (Result ⊤ Refusal)) (n m : ℕ) (r : Refusal) → settled_by kept p out later n m ≡ Err r → answer_by kept p out later n m ≡ Err r
unfolding answer_by
answer-refused kept p out later n m r e = rw (list-refused kept p out later n m r e)

-- the box of what is answered, or its refusal: that of the outcome
abbrev pub callee_said : Result Routed Refusal → Result Callee Refusal
callee_said (Ok a) = Ok a.callee
callee_said (Err r) = Err r

has-outcome : (o : Result Callee Refusal) (s : Setup) (n : ℕ) → callee_said (answered o s n) ≡ o
has-outcome (Ok c) s n = refl
has-outcome (Err r) s n = refl

pub answer-outcome : (kept : Bool) (p : Plan) (out : Setup) (later : Result ⊤ Refusal) (n m : ℕ) → callee_said (answer_by kept p out later n m) ≡ outcome_by kept p out later n m
unfolding answer_by
answer-outcome kept p out later n m = has-outcome (outcome_by kept p out later n m) (received_of p out) (left_of p out)

pub source-routed : (kept : Bool) (p : Plan) (out : Setup) (later : (Result ⊤ Refusal)) (n m : ℕ) (z : Zone) (l : List ℕ) → settled_by kept p out later n m ≡ Ok tt → list_of z ≡ zone_at p Source out.source
    → length (list_of z) ≤ length l → sets l 0 (list_of z) ≡ source_list_after p out (outcome_by kept p out later n m) l
unfolding source_list_after
source-routed kept p out later n m z l e s short = stored-front (list_of z) l short ∙ rw (list-routed kept p out later n m e, s)

pub target-routed : (kept : Bool) (p : Plan) (out : Setup) (later : (Result ⊤ Refusal)) (n m : ℕ) (z : Zone) (l : List ℕ) → settled_by kept p out later n m ≡ Ok tt → list_of z ≡ zone_at p Target (target1 out)
    → length (list_of z) ≤ length l → sets l 0 (list_of z) ≡ target_list_after p out (outcome_by kept p out later n m) l
unfolding target_list_after
target-routed kept p out later n m z l e t short = stored-front (list_of z) l short ∙ rw (list-routed kept p out later n m e, t)
