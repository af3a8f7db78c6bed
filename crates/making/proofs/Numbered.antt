-- The numbers that the three ways answer, in both directions: a setup is made exactly when no row of the table applies, and a refusal n is given exactly when row n applies and none
-- that is before it in document 01's order. Shown once for any list of rows with different numbers; the three ways are instances. A renumbered table of refusals would break these.
-- Assumes nothing.
use Rattle.std.specs.Prelude.{Option, Some, None, Result, Ok, Err, ⊤}
use mathlib.Core.Path.{◌≡◌, refl, sym, ap, ◌∙◌}
use mathlib.Core.Logic.{⊎_elim, ◌↔◌}
use mathlib.Core.Bool.{Bool, true, false, not, ◌&&◌, ◌||◌, cond, true≢false}
use mathlib.Core.List.{List, [], ◌∷◌, map}
use Prim.Native.Nat.{ℕ}
use lib.Dec.{eqb}
use borrow.Author.Tests.{eqb-true, eq-eqb, ne_eqb, eqb-false}
use Rattle.typeset.specs.Sets.{has}
use Rattle.typeset.proofs.Bools.{yes_or_no, clash, and_left, and_right, not-true}
use Rattle.refusal.specs.Numbers.{number_of, place_of, unless, number_said, place_said}
use Rattle.refusal.proofs.Nothing.{refusal-number}
use Rattle.refusal.specs.declared.Refusal.{Refusal}
use Rattle.refusal.specs.declared.Refusal.TheVariants.{RuleBroken}
use Rattle.plan.specs.declared.Region.{Region}
use Rattle.plan.specs.declared.Plan.{Plan}
use Rattle.plan.specs.Parts.{legal}
use Rattle.plan.specs.Sound.{sound}
use Rattle.setup.specs.declared.Setup.{Setup}
use Rattle.setup.specs.Dialling.{legal_string}
use Rattle.setup.specs.Setups.{routing, routing_address, fault, well_formed}
use Rattle.setup.specs.FaultNumber.{number_of_fault}
use Rattle.setup.proofs.Faults.{fault-number}
use Rattle.making.specs.declared.Maker.{Maker}
use Rattle.making.specs.Making.{box_address, box_type, type_exists, makes_new, makes_more, address_held, turned, is_list, not_own, new_setup, continued_setup, reversed_setup, new_outcome, new_outcome_by, continued_outcome, continued_outcome_by, reversed_outcome, reversed_outcome_by, answered, new_answer, continued_answer, reversed_answer}
use Rattle.making.specs.Rows.{Row, first_of, none_of, given_in, own_given, too_large, new_rows, continued_rows, reversed_rows}

-- ---- any list of rows

-- some row has the number n; and no two rows have the same number, or 0
unfoldable pub named : ℕ → List Row → Bool
named n [] = false
named n (r ∷ rs) = eqb r.number n || named n rs

unfoldable pub apart : List Row → Bool
apart [] = true
apart (r ∷ rs) = not (eqb r.number 0) && not (named r.number rs) && apart rs

no-left : (a b : Bool) → (a || b) ≡ false → a ≡ false
no-left true b e = e
no-left false b e = refl

no-right : (a b : Bool) → (a || b) ≡ false → b ≡ false
no-right true b e = absurd (true≢false e)
no-right false b e = e

zero-other : (n : ℕ) → eqb n 0 ≡ false → eqb 0 n ≡ false
zero-other n some = ne_eqb 0 n (λ e. eqb-false n 0 some (sym e))

-- a number that no row has is never given
unnamed : (rs : List Row) (n : ℕ) → eqb n 0 ≡ false → named n rs ≡ false → eqb (first_of rs) n ≡ false
unfolding named first_of
unnamed [] n some e = zero-other n some
unnamed (r ∷ rs) n some e =
    ⊎_elim
    (λ (a : r.applies ≡ true). rw a (no-left (eqb r.number n) (named n rs) e))
    (λ (a : r.applies ≡ false). rw a (unnamed rs n some (no-right (eqb r.number n) (named n rs) e)))
    (yes_or_no r.applies)

module _ (r : Row) (rs : List Row) (a : apart (r ∷ rs) ≡ true) where
  number-some : eqb r.number 0 ≡ false
  unfolding apart
  number-some =
      not-true (eqb r.number 0) (and_left (not (eqb r.number 0)) (not (named r.number rs)) (and_left (not (eqb r.number 0) && not (named r.number rs)) (apart rs) a))

  number-once : named r.number rs ≡ false
  unfolding apart
  number-once =
      not-true (named r.number rs) (and_right (not (eqb r.number 0)) (not (named r.number rs)) (and_left (not (eqb r.number 0) && not (named r.number rs)) (apart rs) a))

  apart-rest : apart rs ≡ true
  unfolding apart
  apart-rest = and_right (not (eqb r.number 0) && not (named r.number rs)) (apart rs) a

-- 0 exactly when no row applies
pub none-exactly : (rs : List Row) → apart rs ≡ true → eqb (first_of rs) 0 ≡ none_of rs
unfolding first_of none_of
none-exactly [] a = refl
none-exactly (r ∷ rs) a =
    ⊎_elim
    (λ (e : r.applies ≡ true). rw e (number-some r rs a))
    (λ (e : r.applies ≡ false). rw e (none-exactly rs (apart-rest r rs a)))
    (yes_or_no r.applies)

-- n exactly when the row n applies and none before it
pub given-exactly : (rs : List Row) → apart rs ≡ true → (n : ℕ) → eqb n 0 ≡ false → eqb (first_of rs) n ≡ given_in n rs
unfolding first_of given_in
given-exactly [] a n some = zero-other n some
given-exactly (r ∷ rs) a n some =
    ⊎_elim
    (λ (e : r.applies ≡ true). ⊎_elim
    (λ (h : eqb r.number n ≡ true). rw (e, h))
    (λ (h : eqb r.number n ≡ false). rw (e, h))
    (yes_or_no (eqb r.number n)))
    (λ (e : r.applies ≡ false). ⊎_elim
    (λ (h : eqb r.number n ≡ true). rw (e, h) (unnamed rs n some (ap (λ (k : ℕ). named k rs) (sym (eqb-true r.number n h)) ∙ number-once r rs a)))
    (λ (h : eqb r.number n ≡ false). rw (e, h) (given-exactly rs (apart-rest r rs a) n some))
    (yes_or_no (eqb r.number n)))
    (yes_or_no r.applies)

-- ---- the outcomes are chains of such rows

-- a test and the row that it is for: the row applies where the test fails
said : (passes applies : Bool) (r : Refusal) (rest : Result ⊤ Refusal) (n : ℕ) → applies ≡ not passes → number_said rest ≡ n → number_said (unless passes r rest) ≡ cond applies (number_of r) n
said true applies r rest n e h = rw e h
said false applies r rest n e h = rw e refl

both-or : (a b : Bool) → (not a || not b) ≡ not (a && b)
both-or true b = refl
both-or false b = refl

own_row : (r : Region) (box sourceArg targetArg : ℕ) → own_given r box sourceArg targetArg ≡ not (not_own r box sourceArg targetArg)
unfolding own_given not_own
own_row r box sourceArg targetArg = neither (eqb (routing r sourceArg targetArg) 0) (eqb (routing r sourceArg targetArg) box)
  where
    neither : (a b : Bool) → (not a && b) ≡ not (a || not b)
    neither true b = refl
    neither false true = refl
    neither false false = refl

large-row : (sourceArg targetArg : ℕ) → too_large sourceArg targetArg ≡ not (legal sourceArg && legal targetArg)
unfolding too_large
large-row sourceArg targetArg = both-or (legal sourceArg) (legal targetArg)

pub new-number : (p : Plan) (m : Maker) (string : List ℕ) (targetArg : ℕ) → number_said (new_outcome p m string targetArg) ≡ first_of (new_rows p m string targetArg)
unfolding new_outcome_by new_rows first_of
new-number p m string targetArg =
    said (sound p) _ _ _ _ refl (said (type_exists p m) _ _ _ _ refl (said (makes_new m) _ _ _ _ refl (said (address_held p m) _ _ _ _ refl
    (said (legal_string string) _ _ _ _ refl (said (legal targetArg) _ _ _ _ refl refl)))))

pub continued-number : (p : Plan) (m : Maker) (s : Setup) (sourceArg : ℕ) (string : List ℕ) (targetArg : ℕ)
    → number_said (continued_outcome p m s sourceArg string targetArg) ≡ first_of (continued_rows p m s sourceArg string targetArg)
unfolding continued_outcome_by continued_rows first_of
continued-number p m s sourceArg string targetArg =
    said (sound p) _ _ _ _ refl (said (type_exists p m) _ _ _ _ refl (said (makes_more m) _ _ _ _ refl (said (address_held p m) _ _ _ _ refl
    (said (well_formed p s && is_list s.route) _ _ _ _ (both-or (well_formed p s) (is_list s.route))
    (said (eqb (routing_address s) (box_address m)) _ _ _ _ refl (said (legal_string string) _ _ _ _ refl
    (said (not_own s.region (box_address m) sourceArg targetArg) _ _ _ _ (own_row s.region (box_address m) sourceArg targetArg)
    (said (legal sourceArg && legal targetArg) _ _ _ _ (large-row sourceArg targetArg) refl))))))))

pub reversed-number : (p : Plan) (m : Maker) (s : Setup) (sourceArg : ℕ) (string : List ℕ) (targetArg : ℕ)
    → number_said (reversed_outcome p m s sourceArg string targetArg) ≡ first_of (reversed_rows p m s sourceArg string targetArg)
unfolding reversed_outcome_by reversed_rows first_of
reversed-number p m s sourceArg string targetArg =
    said (sound p) _ _ _ _ refl (said (type_exists p m) _ _ _ _ refl (said (makes_more m) _ _ _ _ refl (said (address_held p m) _ _ _ _ refl
    (said (has (box_type m) p.types.reversible) _ _ _ _ refl (said (well_formed p s) _ _ _ _ refl (said (legal_string string) _ _ _ _ refl
    (said (not_own (turned s.region) (box_address m) sourceArg targetArg) _ _ _ _ (own_row (turned s.region) (box_address m) sourceArg targetArg)
    (said (legal sourceArg && legal targetArg) _ _ _ _ (large-row sourceArg targetArg) refl))))))))

-- the rows come in document 01's order
pub new-order : (p : Plan) (m : Maker) (string : List ℕ) (targetArg : ℕ) → map (λ (r : Row). r.number) (new_rows p m string targetArg) ≡ 23 ∷ 1 ∷ 2 ∷ 3 ∷ 7 ∷ 9 ∷ []
unfolding new_rows
new-order p m string targetArg = refl

pub continued-order : (p : Plan) (m : Maker) (s : Setup) (sourceArg : ℕ) (string : List ℕ) (targetArg : ℕ)
    → map (λ (r : Row). r.number) (continued_rows p m s sourceArg string targetArg) ≡ 23 ∷ 1 ∷ 2 ∷ 3 ∷ 5 ∷ 6 ∷ 7 ∷ 8 ∷ 9 ∷ []
unfolding continued_rows
continued-order p m s sourceArg string targetArg = refl

pub reversed-order : (p : Plan) (m : Maker) (s : Setup) (sourceArg : ℕ) (string : List ℕ) (targetArg : ℕ)
    → map (λ (r : Row). r.number) (reversed_rows p m s sourceArg string targetArg) ≡ 23 ∷ 1 ∷ 2 ∷ 3 ∷ 4 ∷ 5 ∷ 7 ∷ 8 ∷ 9 ∷ []
unfolding reversed_rows
reversed-order p m s sourceArg string targetArg = refl

-- ---- exactly when

-- a number says whether a setup was made: it is 0 then, and for no refusal
made-zero : (o : Result ⊤ Refusal) → eqb (number_said o) 0 ≡ true → o ≡ Ok tt
made-zero (Ok _) e = refl
made-zero (Err r) e = absurd (clash e (refusal-number r))

-- an outcome whose number is that of the first row which applies: made exactly when none does, and refused with n exactly when row n applies and none before it
module _ (o : Result ⊤ Refusal) (rs : List Row) (first : number_said o ≡ first_of rs) (different : apart rs ≡ true) where
  pub made-exactly : (o ≡ Ok tt) ↔ (none_of rs ≡ true)
  made-exactly = (
    λ (e : o ≡ Ok tt). sym (none-exactly rs different) ∙ ap (λ (n : ℕ). eqb n 0) (sym first ∙ ap (λ (x : Result ⊤ Refusal). number_said x) e),
    λ (e : none_of rs ≡ true). made-zero o (ap (λ (n : ℕ). eqb n 0) first ∙ none-exactly rs different ∙ e),
  )

  pub refused-exactly : (n : ℕ) → eqb n 0 ≡ false → (number_said o ≡ n) ↔ (given_in n rs ≡ true)
  refused-exactly n some = (
    λ (e : number_said o ≡ n). sym (given-exactly rs different n some) ∙ eq-eqb (first_of rs) n (sym first ∙ e),
    λ (e : given_in n rs ≡ true). first ∙ eqb-true (first_of rs) n (given-exactly rs different n some ∙ e),
  )

-- new: 23, 1, 2, 3, 7 and 9
module _ (p : Plan) (m : Maker) (string : List ℕ) (targetArg : ℕ) where
  new_apart : apart (new_rows p m string targetArg) ≡ true
  unfolding apart named new_rows
  new_apart = refl

  pub new-made-exactly : (new_outcome p m string targetArg ≡ Ok tt) ↔ (none_of (new_rows p m string targetArg) ≡ true)
  new-made-exactly = made-exactly (new_outcome p m string targetArg) (new_rows p m string targetArg) (new-number p m string targetArg) new_apart

  pub new-refused-exactly : (n : ℕ) → eqb n 0 ≡ false → (number_said (new_outcome p m string targetArg) ≡ n) ↔ (given_in n (new_rows p m string targetArg) ≡ true)
  new-refused-exactly = refused-exactly (new_outcome p m string targetArg) (new_rows p m string targetArg) (new-number p m string targetArg) new_apart

-- continued: 23, 1, 2, 3, 5, 6, 7, 8 and 9
module _ (p : Plan) (m : Maker) (s : Setup) (sourceArg : ℕ) (string : List ℕ) (targetArg : ℕ) where
  continued-apart : apart (continued_rows p m s sourceArg string targetArg) ≡ true
  unfolding apart named continued_rows
  continued-apart = refl

  pub continued-made-exactly : (continued_outcome p m s sourceArg string targetArg ≡ Ok tt) ↔ (none_of (continued_rows p m s sourceArg string targetArg) ≡ true)
  continued-made-exactly =
      made-exactly (continued_outcome p m s sourceArg string targetArg) (continued_rows p m s sourceArg string targetArg) (continued-number p m s sourceArg string targetArg) continued-apart

  pub continued-refused-exactly : (n : ℕ) → eqb n 0 ≡ false
      → (number_said (continued_outcome p m s sourceArg string targetArg) ≡ n) ↔ (given_in n (continued_rows p m s sourceArg string targetArg) ≡ true)
  continued-refused-exactly =
      refused-exactly (continued_outcome p m s sourceArg string targetArg) (continued_rows p m s sourceArg string targetArg) (continued-number p m s sourceArg string targetArg) continued-apart

-- reversed: 23, 1, 2, 3, 4, 5, 7, 8 and 9
module _ (p : Plan) (m : Maker) (s : Setup) (sourceArg : ℕ) (string : List ℕ) (targetArg : ℕ) where
  reversed-apart : apart (reversed_rows p m s sourceArg string targetArg) ≡ true
  unfolding apart named reversed_rows
  reversed-apart = refl

  pub reversed-made-exactly : (reversed_outcome p m s sourceArg string targetArg ≡ Ok tt) ↔ (none_of (reversed_rows p m s sourceArg string targetArg) ≡ true)
  reversed-made-exactly =
      made-exactly (reversed_outcome p m s sourceArg string targetArg) (reversed_rows p m s sourceArg string targetArg) (reversed-number p m s sourceArg string targetArg) reversed-apart

  pub reversed-refused-exactly : (n : ℕ) → eqb n 0 ≡ false
      → (number_said (reversed_outcome p m s sourceArg string targetArg) ≡ n) ↔ (given_in n (reversed_rows p m s sourceArg string targetArg) ≡ true)
  reversed-refused-exactly =
      refused-exactly (reversed_outcome p m s sourceArg string targetArg) (reversed_rows p m s sourceArg string targetArg) (reversed-number p m s sourceArg string targetArg) reversed-apart

-- ---- places: 23 alone has one, and it is 0

said_at : (passes : Bool) (r : Refusal) (rest : Result ⊤ Refusal) → place_of r ≡ None → place_said rest ≡ None → place_said (unless passes r rest) ≡ None
said_at true r rest e h = h
said_at false r rest e h = e

first-at : (passes : Bool) (rest : Result ⊤ Refusal) → place_said rest ≡ None → place_said (unless passes (RuleBroken 0) rest) ≡ cond passes None (Some 0)
first-at true rest h = h
first-at false rest h = refl

pub new-place : (p : Plan) (m : Maker) (string : List ℕ) (targetArg : ℕ) → place_said (new_outcome p m string targetArg) ≡ cond (sound p) None (Some 0)
unfolding new_outcome_by
new-place p m string targetArg =
    first-at (sound p) _ (said_at (type_exists p m) _ _ refl (said_at (makes_new m) _ _ refl (said_at (address_held p m) _ _ refl
    (said_at (legal_string string) _ _ refl (said_at (legal targetArg) _ _ refl refl)))))

pub continued-place : (p : Plan) (m : Maker) (s : Setup) (sourceArg : ℕ) (string : List ℕ) (targetArg : ℕ)
    → place_said (continued_outcome p m s sourceArg string targetArg) ≡ cond (sound p) None (Some 0)
unfolding continued_outcome_by
continued-place p m s sourceArg string targetArg =
    first-at (sound p) _ (said_at (type_exists p m) _ _ refl (said_at (makes_more m) _ _ refl (said_at (address_held p m) _ _ refl
    (said_at (well_formed p s && is_list s.route) _ _ refl (said_at (eqb (routing_address s) (box_address m)) _ _ refl (said_at (legal_string string) _ _ refl
    (said_at (not_own s.region (box_address m) sourceArg targetArg) _ _ refl (said_at (legal sourceArg && legal targetArg) _ _ refl refl))))))))

pub reversed-place : (p : Plan) (m : Maker) (s : Setup) (sourceArg : ℕ) (string : List ℕ) (targetArg : ℕ)
    → place_said (reversed_outcome p m s sourceArg string targetArg) ≡ cond (sound p) None (Some 0)
unfolding reversed_outcome_by
reversed-place p m s sourceArg string targetArg =
    first-at (sound p) _ (said_at (type_exists p m) _ _ refl (said_at (makes_more m) _ _ refl (said_at (address_held p m) _ _ refl
    (said_at (has (box_type m) p.types.reversible) _ _ refl (said_at (well_formed p s) _ _ refl (said_at (legal_string string) _ _ refl
    (said_at (not_own (turned s.region) (box_address m) sourceArg targetArg) _ _ refl (said_at (legal sourceArg && legal targetArg) _ _ refl refl))))))))

-- ---- the same of what is answered

number-answered : (o : Result ⊤ Refusal) (s : Setup) → number_said (answered o s) ≡ number_said o
number-answered (Ok _) s = refl
number-answered (Err r) s = refl

place-answered : (o : Result ⊤ Refusal) (s : Setup) → place_said (answered o s) ≡ place_said o
place-answered (Ok _) s = refl
place-answered (Err r) s = refl

said_of : (r : Result Setup Refusal) (o : Result ⊤ Refusal) (s : Setup) (n : ℕ) (at : Option ℕ) → r ≡ answered o s → number_said o ≡ n → place_said o ≡ at
    → (number_said r ≡ n) × (place_said r ≡ at)
said_of r o s n at e number place = (
  ap (λ (a : Result Setup Refusal). number_said a) e ∙ number-answered o s ∙ number,
  ap (λ (a : Result Setup Refusal). place_said a) e ∙ place-answered o s ∙ place,
)

pub new-said : (p : Plan) (m : Maker) (string : List ℕ) (targetArg : ℕ) (r : Result Setup Refusal) → r ≡ new_answer p m string targetArg
    → (number_said r ≡ first_of (new_rows p m string targetArg)) × (place_said r ≡ cond (sound p) None (Some 0))
new-said p m string targetArg r e =
    said_of r (new_outcome p m string targetArg) (new_setup (box_address m) string targetArg) _ _ e (new-number p m string targetArg) (new-place p m string targetArg)

pub continued-said : (p : Plan) (m : Maker) (s : Setup) (sourceArg : ℕ) (string : List ℕ) (targetArg : ℕ) (r : Result Setup Refusal) → r ≡ continued_answer p m s sourceArg string targetArg
    → (number_said r ≡ first_of (continued_rows p m s sourceArg string targetArg)) × (place_said r ≡ cond (sound p) None (Some 0))
continued-said p m s sourceArg string targetArg r e =
    said_of r (continued_outcome p m s sourceArg string targetArg) (continued_setup (box_address m) s sourceArg string targetArg) _ _ e
    (continued-number p m s sourceArg string targetArg) (continued-place p m s sourceArg string targetArg)

pub reversed-said : (p : Plan) (m : Maker) (s : Setup) (sourceArg : ℕ) (string : List ℕ) (targetArg : ℕ) (r : Result Setup Refusal) → r ≡ reversed_answer p m s sourceArg string targetArg
    → (number_said r ≡ first_of (reversed_rows p m s sourceArg string targetArg)) × (place_said r ≡ cond (sound p) None (Some 0))
reversed-said p m s sourceArg string targetArg r e =
    said_of r (reversed_outcome p m s sourceArg string targetArg) (reversed_setup (box_type m) (box_address m) s sourceArg string targetArg) _ _ e
    (reversed-number p m s sourceArg string targetArg) (reversed-place p m s sourceArg string targetArg)

-- ---- a setup that is not well formed is refused with the number of its fault, where no earlier row applies

pub continued-fault : (p : Plan) (m : Maker) (s : Setup) (sourceArg : ℕ) (string : List ℕ) (targetArg : ℕ)
    → sound p ≡ true → type_exists p m ≡ true → makes_more m ≡ true → address_held p m ≡ true
    → well_formed p s ≡ false → number_said (continued_outcome p m s sourceArg string targetArg) ≡ number_of_fault (fault p s)
unfolding continued_outcome_by
continued-fault p m s sourceArg string targetArg a b c d e = rw (a, b, c, d, e, fault-number p s, e)

pub reversed-fault : (p : Plan) (m : Maker) (s : Setup) (sourceArg : ℕ) (string : List ℕ) (targetArg : ℕ)
    → sound p ≡ true → type_exists p m ≡ true → makes_more m ≡ true → address_held p m ≡ true → has (box_type m) p.types.reversible ≡ true
    → well_formed p s ≡ false → number_said (reversed_outcome p m s sourceArg string targetArg) ≡ number_of_fault (fault p s)
unfolding reversed_outcome_by
reversed-fault p m s sourceArg string targetArg a b c d e f = rw (a, b, c, d, e, f, fault-number p s, f)
