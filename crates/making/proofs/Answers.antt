-- The manual's equations (5.4, 5.5, 5.6) as records, and that what is answered keeps them: whatever the plan, the box and the arguments, where a setup is made, it is well
-- formed and has these fields. In them an argument 0 is `noAddr`, an empty string `noString`. Assumes nothing.
use Rattle.std.specs.Prelude.{Some, None, Result, Ok, Err, IsOkAnd, ⊤}
use mathlib.Core.Path.{◌≡◌, refl, sym, ap, subst, ◌∙◌}
use mathlib.Core.Bool.{true, false, not, ◌||◌, false≢true}
use mathlib.Core.List.{List}
use Prim.Native.Nat.{ℕ}
use lib.Dec.{eqb}
use lib.ListN.{length}
use borrow.Author.Tests.{eqb-true}
use Rattle.typeset.specs.Sets.{has}
use Rattle.typeset.proofs.Bools.{and_right, not-true}
use Rattle.refusal.specs.declared.Refusal.{Refusal}
use Rattle.plan.specs.declared.Region.{Region}
use Rattle.plan.specs.declared.Region.TheVariants.{Source, Target}
use Rattle.plan.specs.declared.Plan.{Plan}
use Rattle.plan.specs.Find.{lookup}
use Rattle.setup.specs.declared.Route.{Route}
use Rattle.setup.specs.declared.Route.TheVariants.{Whole, Suffix, Listed}
use Rattle.setup.specs.declared.Setup.{Setup}
use Rattle.setup.specs.Dialling.{dialled, string_of}
use Rattle.zone.specs.Order.{list_of}
use Rattle.setup.specs.Setups.{well_formed}
use Rattle.setup.proofs.Stored.{string-of-dialled}
use Rattle.making.specs.declared.Maker.{Maker}
use Rattle.making.specs.declared.Maker.TheVariants.{Feature, Line, Trunk, Resource, Error}
use Rattle.making.specs.Making.{box_address, box_type, kind_of, somebody, makes_more, address_held, new_setup, continued_setup, turned, reversed_setup, is_list, not_own, new_outcome, continued_outcome, reversed_outcome, answered, new_answer, continued_answer, reversed_answer}
use Rattle.making.proofs.Outcomes.{new-made, continued-made, reversed-made}
use Rattle.making.proofs.WellFormed.{new-well-formed, continued-well-formed, reversed-well-formed}
use Rattle.making.proofs.Manual as manual

-- ---- an answer

pub answered-made : (o : Result ⊤ Refusal) (s : Setup) → o ≡ Ok tt → answered o s ≡ Ok s
answered-made o s e = rw e

pub answered-refused : (o : Result ⊤ Refusal) (s : Setup) (r : Refusal) → o ≡ Err r → answered o s ≡ Err r
answered-refused o s r e = rw e

-- what holds of the setup that is made holds of the one answered
of-answer : (P : Setup → Type 0) (o : Result ⊤ Refusal) (s : Setup) → o ≡ Ok tt → P s → IsOkAnd (answered o s) P
of-answer P o s e h = subst (λ (x : Result Setup Refusal). IsOkAnd x P) (sym (answered-made o s e)) h

-- ---- 5.4: the box b invokes the method, s is the result

pub record NewBy (p : Plan) (b : Maker) (dldArg : List ℕ) (trgArg : ℕ) (s : Setup) : Type 0 where
  pub regn : s.region ≡ Source
  pub src : s.source ≡ box_address b
  pub dld : s.dialled ≡ dialled dldArg
  pub trg : s.target ≡ trgArg
  pub route : s.route ≡ Whole
  pub placing : s.placing ≡ None
  pub outer : s.outer ≡ Some s.source
  -- the source of a feature box is an address of the plan, that of a line box a line's, that of a trunk box a trunk's
  pub feature : (t a : ℕ) → b ≡ Feature t a → (s.source ≡ a) × (somebody (lookup p s.source) ≡ true)
  pub line : (a : ℕ) → b ≡ Line a → (s.source ≡ a) × (kind_of p (lookup p s.source) ≡ 1)
  pub trunk : (a : ℕ) → b ≡ Trunk a → (s.source ≡ a) × (kind_of p (lookup p s.source) ≡ 2)

new_by : (p : Plan) (b : Maker) (dldArg : List ℕ) (trgArg : ℕ) → address_held p b ≡ true → NewBy p b dldArg trgArg (new_setup (box_address b) dldArg trgArg)
unfolding new_setup
new_by p b dldArg trgArg held-here = record {
  regn = refl;
  src = refl;
  dld = refl;
  trg = refl;
  route = refl;
  placing = refl;
  outer = refl;
  feature = λ t a e. rw e (refl, rw e at held-here);
  line = λ a e. rw e (refl, eqb-true (kind_of p (lookup p a)) 1 (rw e at held-here));
  trunk = λ a e. rw e (refl, eqb-true (kind_of p (lookup p a)) 2 (rw e at held-here));
}

module _ (p : Plan) (b : Maker) (dldArg : List ℕ) (trgArg : ℕ) (made : new_outcome p b dldArg trgArg ≡ Ok tt) where
  pub new-answer : IsOkAnd (new_answer p b dldArg trgArg) (NewBy p b dldArg trgArg)
  new-answer = of-answer (NewBy p b dldArg trgArg) (new_outcome p b dldArg trgArg) (new_setup (box_address b) dldArg trgArg) made (new_by p b dldArg trgArg (new-made p b dldArg trgArg made).held-here)

  pub new-answer-well-formed : IsOkAnd (new_answer p b dldArg trgArg) (λ s. well_formed p s ≡ true)
  new-answer-well-formed =
      of-answer (λ (s : Setup). well_formed p s ≡ true) (new_outcome p b dldArg trgArg) (new_setup (box_address b) dldArg trgArg) made (new-well-formed p b dldArg trgArg made)

-- ---- 5.5: the box of type t at address b, ss is the stored setup

-- only a feature box continues or reverses
only-features : (m : Maker) → makes_more m ≡ true → m ≡ Feature (box_type m) (box_address m)
only-features (Feature t a) e = refl
only-features (Line a) e = absurd (false≢true e)
only-features (Trunk a) e = absurd (false≢true e)
only-features Resource e = absurd (false≢true e)
only-features Error e = absurd (false≢true e)

is-listed : (r : Route) → is_list r ≡ true → r ≡ Listed
is-listed Whole e = absurd (false≢true e)
is-listed Suffix e = absurd (false≢true e)
is-listed Listed e = refl

-- the methods' precondition: an argument for the routing address is not the box's own address
other-than : (argument box : ℕ) → (eqb argument 0 || not (eqb argument box)) ≡ true → eqb argument 0 ≡ false → eqb argument box ≡ false
other-than argument box e some = not-true (eqb argument box) (rw some at e)

pub record ContinuedBy (b : ℕ) (ss : Setup) (srcArg : ℕ) (dldArg : List ℕ) (trgArg : ℕ) (s : Setup) : Type 0 where
  pub src-changes : ss.region ≡ Source → eqb srcArg 0 ≡ false → eqb srcArg b ≡ false
  pub trg-changes : ss.region ≡ Target → eqb trgArg 0 ≡ false → eqb trgArg b ≡ false
  pub regn : s.region ≡ ss.region
  pub src-given : s.region ≡ Source → eqb srcArg 0 ≡ false → (s.source ≡ srcArg) × (s.route ≡ Whole) × (s.outer ≡ Some b)
  pub src-box : s.region ≡ Source → eqb srcArg 0 ≡ true → (s.source ≡ b) × (s.route ≡ ss.route) × (list_of s.list ≡ list_of ss.list) × (s.outer ≡ None)
  pub trg-given : s.region ≡ Target → eqb trgArg 0 ≡ false → (s.target ≡ trgArg) × (s.route ≡ Whole) × (s.outer ≡ None)
  pub trg-box : s.region ≡ Target → eqb trgArg 0 ≡ true → (s.target ≡ b) × (s.route ≡ ss.route) × (list_of s.list ≡ list_of ss.list) × (s.outer ≡ None)
  pub other-trg-given : s.region ≡ Source → eqb trgArg 0 ≡ false → s.target ≡ trgArg
  pub other-trg-kept : s.region ≡ Source → eqb trgArg 0 ≡ true → s.target ≡ ss.target
  pub other-src-given : s.region ≡ Target → eqb srcArg 0 ≡ false → s.source ≡ srcArg
  pub other-src-kept : s.region ≡ Target → eqb srcArg 0 ≡ true → s.source ≡ ss.source
  pub dld-given : eqb (length dldArg) 0 ≡ false → s.dialled ≡ dialled dldArg
  pub dld-kept : eqb (length dldArg) 0 ≡ true → string_of s.dialled ≡ string_of ss.dialled
  pub placing : s.placing ≡ None

continued-by : (b : ℕ) (ss : Setup) (srcArg : ℕ) (dldArg : List ℕ) (trgArg : ℕ) → ss.route ≡ Listed → not_own ss.region b srcArg trgArg ≡ true
    → ContinuedBy b ss srcArg dldArg trgArg (continued_setup b ss srcArg dldArg trgArg)
unfolding not_own
continued-by b ss srcArg dldArg trgArg listed another =
    let s = continued_setup b ss srcArg dldArg trgArg in
    let here : s.region ≡ ss.region = manual.continued-regn b ss srcArg dldArg trgArg in
    record {
      src-changes = λ (r : ss.region ≡ Source) e. other-than srcArg b (rw r at another) e;
      trg-changes = λ (r : ss.region ≡ Target) e. other-than trgArg b (rw r at another) e;
      regn = here;
      src-given = λ r. manual.continued-source-given b ss srcArg dldArg trgArg (sym here ∙ r);
      src-box = λ r e. manual.continued-source-kept b ss srcArg dldArg trgArg (sym here ∙ r) e listed;
      trg-given = λ r. manual.continued-target-given b ss srcArg dldArg trgArg (sym here ∙ r);
      trg-box = λ r e. manual.continued-target-kept b ss srcArg dldArg trgArg (sym here ∙ r) e listed;
      other-trg-given = λ r. (manual.continued-other-target b ss srcArg dldArg trgArg (sym here ∙ r)).0;
      other-trg-kept = λ r. (manual.continued-other-target b ss srcArg dldArg trgArg (sym here ∙ r)).1;
      other-src-given = λ r. (manual.continued-other-source b ss srcArg dldArg trgArg (sym here ∙ r)).0;
      other-src-kept = λ r. (manual.continued-other-source b ss srcArg dldArg trgArg (sym here ∙ r)).1;
      dld-given = (manual.continued-string b ss srcArg dldArg trgArg).0;
      dld-kept = λ e. ap string_of ((manual.continued-string b ss srcArg dldArg trgArg).1 e) ∙ string-of-dialled (string_of ss.dialled);
      placing = manual.continued-placing b ss srcArg dldArg trgArg;
    }

module _ (p : Plan) (m : Maker) (ss : Setup) (srcArg : ℕ) (dldArg : List ℕ) (trgArg : ℕ) (made : continued_outcome p m ss srcArg dldArg trgArg ≡ Ok tt) where
  pub continued-by-feature : m ≡ Feature (box_type m) (box_address m)
  continued-by-feature = only-features m (continued-made p m ss srcArg dldArg trgArg made).may-make

  pub continued-answer : IsOkAnd (continued_answer p m ss srcArg dldArg trgArg) (ContinuedBy (box_address m) ss srcArg dldArg trgArg)
  continued-answer =
      let k = continued-made p m ss srcArg dldArg trgArg made in
      of-answer (ContinuedBy (box_address m) ss srcArg dldArg trgArg) (continued_outcome p m ss srcArg dldArg trgArg) (continued_setup (box_address m) ss srcArg dldArg trgArg) made
      (continued-by (box_address m) ss srcArg dldArg trgArg (is-listed ss.route (and_right (well_formed p ss) (is_list ss.route) k.from_list)) k.another)

  pub continued-answer-well-formed : IsOkAnd (continued_answer p m ss srcArg dldArg trgArg) (λ s. well_formed p s ≡ true)
  continued-answer-well-formed =
      of-answer (λ (s : Setup). well_formed p s ≡ true) (continued_outcome p m ss srcArg dldArg trgArg) (continued_setup (box_address m) ss srcArg dldArg trgArg) made
      (continued-well-formed p m ss srcArg dldArg trgArg made)

-- ---- 5.6: the box of type t at address b

pub record ReversedBy (p : Plan) (t b : ℕ) (ss : Setup) (srcArg : ℕ) (dldArg : List ℕ) (trgArg : ℕ) (s : Setup) : Type 0 where
  pub reversible : has t p.types.reversible ≡ true
  pub src-changes : ss.region ≡ Target → eqb srcArg 0 ≡ false → eqb srcArg b ≡ false
  pub trg-changes : ss.region ≡ Source → eqb trgArg 0 ≡ false → eqb trgArg b ≡ false
  pub to-target : ss.region ≡ Source → s.region ≡ Target
  pub to-source : ss.region ≡ Target → s.region ≡ Source
  pub src-given : s.region ≡ Source → eqb srcArg 0 ≡ false → (s.source ≡ srcArg) × (s.route ≡ Whole) × (s.outer ≡ Some b) × (s.placing ≡ None)
  pub src-box : s.region ≡ Source → eqb srcArg 0 ≡ true → (s.source ≡ b) × (s.route ≡ Suffix) × (s.placing ≡ Some t) × (s.outer ≡ None)
  pub trg-given : s.region ≡ Target → eqb trgArg 0 ≡ false → (s.target ≡ trgArg) × (s.route ≡ Whole) × (s.outer ≡ None) × (s.placing ≡ None)
  pub trg-box : s.region ≡ Target → eqb trgArg 0 ≡ true → (s.target ≡ b) × (s.route ≡ Suffix) × (s.placing ≡ Some t) × (s.outer ≡ None)
  pub other-trg-given : s.region ≡ Source → eqb trgArg 0 ≡ false → s.target ≡ trgArg
  pub other-trg-kept : s.region ≡ Source → eqb trgArg 0 ≡ true → s.target ≡ ss.source
  pub other-src-given : s.region ≡ Target → eqb srcArg 0 ≡ false → s.source ≡ srcArg
  pub other-src-kept : s.region ≡ Target → eqb srcArg 0 ≡ true → s.source ≡ ss.target
  pub dld-given : eqb (length dldArg) 0 ≡ false → s.dialled ≡ dialled dldArg
  pub dld-kept : eqb (length dldArg) 0 ≡ true → string_of s.dialled ≡ string_of ss.dialled

-- a region that turned twice is as it was
turned-back : (r r' : Region) → turned r ≡ r' → r ≡ turned r'
turned-back Source r' e = ap turned e
turned-back Target r' e = ap turned e

reversed-by : (p : Plan) (t b : ℕ) (ss : Setup) (srcArg : ℕ) (dldArg : List ℕ) (trgArg : ℕ) → has t p.types.reversible ≡ true → not_own (turned ss.region) b srcArg trgArg ≡ true
    → ReversedBy p t b ss srcArg dldArg trgArg (reversed_setup t b ss srcArg dldArg trgArg)
unfolding not_own
reversed-by p t b ss srcArg dldArg trgArg may another =
    let s = reversed_setup t b ss srcArg dldArg trgArg in
    let here : s.region ≡ turned ss.region = manual.reversed-regn t b ss srcArg dldArg trgArg in
    record {
      reversible = may;
      src-changes = λ (r : ss.region ≡ Target) e. other-than srcArg b (rw r at another) e;
      trg-changes = λ (r : ss.region ≡ Source) e. other-than trgArg b (rw r at another) e;
      to-target = λ r. here ∙ ap turned r;
      to-source = λ r. here ∙ ap turned r;
      src-given = λ r. manual.reversed-source-given t b ss srcArg dldArg trgArg (turned-back ss.region Source (sym here ∙ r));
      src-box = λ r. manual.reversed-source-box t b ss srcArg dldArg trgArg (turned-back ss.region Source (sym here ∙ r));
      trg-given = λ r. manual.reversed-target-given t b ss srcArg dldArg trgArg (turned-back ss.region Target (sym here ∙ r));
      trg-box = λ r. manual.reversed-target-box t b ss srcArg dldArg trgArg (turned-back ss.region Target (sym here ∙ r));
      other-trg-given = λ r. (manual.reversed-other-target t b ss srcArg dldArg trgArg (turned-back ss.region Source (sym here ∙ r))).0;
      other-trg-kept = λ r. (manual.reversed-other-target t b ss srcArg dldArg trgArg (turned-back ss.region Source (sym here ∙ r))).1;
      other-src-given = λ r. (manual.reversed-other-source t b ss srcArg dldArg trgArg (turned-back ss.region Target (sym here ∙ r))).0;
      other-src-kept = λ r. (manual.reversed-other-source t b ss srcArg dldArg trgArg (turned-back ss.region Target (sym here ∙ r))).1;
      dld-given = (manual.reversed-string t b ss srcArg dldArg trgArg).0;
      dld-kept = λ e. ap string_of ((manual.reversed-string t b ss srcArg dldArg trgArg).1 e) ∙ string-of-dialled (string_of ss.dialled);
    }

module _ (p : Plan) (m : Maker) (ss : Setup) (srcArg : ℕ) (dldArg : List ℕ) (trgArg : ℕ) (made : reversed_outcome p m ss srcArg dldArg trgArg ≡ Ok tt) where
  pub reversed-by-feature : m ≡ Feature (box_type m) (box_address m)
  reversed-by-feature = only-features m (reversed-made p m ss srcArg dldArg trgArg made).may-make

  pub reversed-answer : IsOkAnd (reversed_answer p m ss srcArg dldArg trgArg) (ReversedBy p (box_type m) (box_address m) ss srcArg dldArg trgArg)
  reversed-answer =
      let k = reversed-made p m ss srcArg dldArg trgArg made in
      of-answer (ReversedBy p (box_type m) (box_address m) ss srcArg dldArg trgArg) (reversed_outcome p m ss srcArg dldArg trgArg) (reversed_setup (box_type m) (box_address m) ss srcArg dldArg trgArg) made
      (reversed-by p (box_type m) (box_address m) ss srcArg dldArg trgArg k.reversible k.another)

  pub reversed-answer-well-formed : IsOkAnd (reversed_answer p m ss srcArg dldArg trgArg) (λ s. well_formed p s ≡ true)
  reversed-answer-well-formed =
      of-answer (λ (s : Setup). well_formed p s ≡ true) (reversed_outcome p m ss srcArg dldArg trgArg) (reversed_setup (box_type m) (box_address m) ss srcArg dldArg trgArg) made
      (reversed-well-formed p m ss srcArg dldArg trgArg made)
