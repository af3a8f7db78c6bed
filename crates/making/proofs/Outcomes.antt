-- What an outcome says: where a setup is made every test passed, and then the string is all of its first 32 bytes. Assumes nothing.
use Rattle.std.specs.Prelude.{Result, Ok, Err, ⊤}
use mathlib.Core.Path.{◌≡◌, refl, ap}
use mathlib.Core.Bool.{Bool, true, false, ◌&&◌}
use mathlib.Core.List.{List}
use Prim.Native.Nat.{ℕ}
use native.Mathlib.Omega.{arith}
use lib.Dec.{eqb, leb}
use lib.ListN.{length, take}
use borrow.Author.Tests.{leb-true}
use Rattle.typeset.specs.Sets.{has, every}
use Rattle.typeset.proofs.Bools.{and_left}
use Rattle.refusal.specs.declared.Refusal.{Refusal}
use Rattle.refusal.specs.declared.Refusal.TheVariants.{RuleBroken, NoSuchType, NotForThisBox, WrongAddress, NotReversible, Malformed, NotRoutedHere, BadString, OwnAddress, AddressTooLarge}
use Rattle.plan.specs.declared.Plan.{Plan}
use Rattle.plan.specs.Parts.{legal}
use Rattle.plan.specs.Sound.{sound}
use Rattle.setup.specs.declared.Setup.{Setup}
use Rattle.making.specs.declared.Maker.{Maker}
use Rattle.setup.specs.Dialling.{legal_string}
use Rattle.setup.specs.Setups.{routing_address, well_formed}
use Rattle.refusal.specs.Numbers.{unless}
use Rattle.making.specs.Making.{box_address, box_type, type_exists, makes_new, makes_more, address_held, turned, is_list, not_own, new_outcome, new_outcome_by, continued_outcome, continued_outcome_by, reversed_outcome, reversed_outcome_by, answered}
use Rattle.setup.proofs.Stored.{all-32}

-- a test that did not refuse passed, and what follows it did not refuse
pub unless-passed : (b : Bool) (r : Refusal) (rest : Result ⊤ Refusal) → unless b r rest ≡ Ok tt → b ≡ true
unless-passed true r rest e = refl
unless-passed false r rest e = let never : ◌≡◌ {A = ℕ} 0 1 = cc in absurd (omega arith)

pub unless-rest : (b : Bool) (r : Refusal) (rest : Result ⊤ Refusal) → unless b r rest ≡ Ok tt → rest ≡ Ok tt
unless-rest true r rest e = e
unless-rest false r rest e = let never : ◌≡◌ {A = ℕ} 0 1 = cc in absurd (omega arith)

-- beside a refusal it does not matter which setup would have been made
pub answered-alike : (o : Result ⊤ Refusal) (s t : Setup) → (o ≡ Ok tt → s ≡ t) → answered o s ≡ answered o t
unfolding answered
answered-alike (Ok _) s t f = ap (λ (u : Setup). answered (Ok tt) u) (f refl)
answered-alike (Err r) s t f = refl

-- a legal string is all of its first 32 bytes
pub legal-all : (l : List ℕ) → legal_string l ≡ true → take 32 l ≡ l
unfolding legal_string
legal-all l e = all-32 l (leb-true (length l) 32 (and_left (leb (length l) 32) (every (length l) _) e))

-- ---- what each way to make a setup has shown where it made one

pub record New (verdict : Bool) (p : Plan) (m : Maker) (string : List ℕ) (targetArg : ℕ) : Type 0 where
  pub kept : verdict ≡ true
  pub exists : type_exists p m ≡ true
  pub may-make : makes_new m ≡ true
  pub held-here : address_held p m ≡ true
  pub string-legal : legal_string string ≡ true
  pub target-legal : legal targetArg ≡ true

pub new-made-by : (verdict : Bool) (p : Plan) (m : Maker) (string : List ℕ) (targetArg : ℕ) → new_outcome_by verdict p m string targetArg ≡ Ok tt → New verdict p m string targetArg
unfolding new_outcome_by
new-made-by verdict p m string targetArg e =
    let e0 = e in
    let e1 = unless-rest verdict (RuleBroken 0) _ e0 in
    let e2 = unless-rest (type_exists p m) NoSuchType _ e1 in
    let e3 = unless-rest (makes_new m) NotForThisBox _ e2 in
    let e4 = unless-rest (address_held p m) WrongAddress _ e3 in
    let e5 = unless-rest (legal_string string) BadString _ e4 in
    record {
      kept = unless-passed verdict (RuleBroken 0) _ e0;
      exists = unless-passed (type_exists p m) NoSuchType _ e1;
      may-make = unless-passed (makes_new m) NotForThisBox _ e2;
      held-here = unless-passed (address_held p m) WrongAddress _ e3;
      string-legal = unless-passed (legal_string string) BadString _ e4;
      target-legal = unless-passed (legal targetArg) AddressTooLarge _ e5;
    }

pub new-made : (p : Plan) (m : Maker) (string : List ℕ) (targetArg : ℕ) → new_outcome p m string targetArg ≡ Ok tt → New (sound p) p m string targetArg
new-made p m string targetArg e = new-made-by (sound p) p m string targetArg e

pub record Continued (verdict : Bool) (p : Plan) (m : Maker) (s : Setup) (sourceArg : ℕ) (string : List ℕ) (targetArg : ℕ) : Type 0 where
  pub kept : verdict ≡ true
  pub exists : type_exists p m ≡ true
  pub may-make : makes_more m ≡ true
  pub held-here : address_held p m ≡ true
  pub from_list : (well_formed p s && is_list s.route) ≡ true
  pub routed-here : eqb (routing_address s) (box_address m) ≡ true
  pub string-legal : legal_string string ≡ true
  pub another : not_own s.region (box_address m) sourceArg targetArg ≡ true
  pub both-legal : (legal sourceArg && legal targetArg) ≡ true

pub continued-made-by : (verdict : Bool) (p : Plan) (m : Maker) (s : Setup) (sourceArg : ℕ) (string : List ℕ) (targetArg : ℕ) → continued_outcome_by verdict p m s sourceArg string targetArg ≡ Ok tt → Continued verdict p m s sourceArg string targetArg
unfolding continued_outcome_by
continued-made-by verdict p m s sourceArg string targetArg e =
    let e0 = e in
    let e1 = unless-rest verdict (RuleBroken 0) _ e0 in
    let e2 = unless-rest (type_exists p m) NoSuchType _ e1 in
    let e3 = unless-rest (makes_more m) NotForThisBox _ e2 in
    let e4 = unless-rest (address_held p m) WrongAddress _ e3 in
    let e5 = unless-rest (well_formed p s && is_list s.route) Malformed _ e4 in
    let e6 = unless-rest (eqb (routing_address s) (box_address m)) NotRoutedHere _ e5 in
    let e7 = unless-rest (legal_string string) BadString _ e6 in
    let e8 = unless-rest (not_own s.region (box_address m) sourceArg targetArg) OwnAddress _ e7 in
    record {
      kept = unless-passed verdict (RuleBroken 0) _ e0;
      exists = unless-passed (type_exists p m) NoSuchType _ e1;
      may-make = unless-passed (makes_more m) NotForThisBox _ e2;
      held-here = unless-passed (address_held p m) WrongAddress _ e3;
      from_list = unless-passed (well_formed p s && is_list s.route) Malformed _ e4;
      routed-here = unless-passed (eqb (routing_address s) (box_address m)) NotRoutedHere _ e5;
      string-legal = unless-passed (legal_string string) BadString _ e6;
      another = unless-passed (not_own s.region (box_address m) sourceArg targetArg) OwnAddress _ e7;
      both-legal = unless-passed (legal sourceArg && legal targetArg) AddressTooLarge _ e8;
    }

pub continued-made : (p : Plan) (m : Maker) (s : Setup) (sourceArg : ℕ) (string : List ℕ) (targetArg : ℕ) → continued_outcome p m s sourceArg string targetArg ≡ Ok tt → Continued (sound p) p m s sourceArg string targetArg
continued-made p m s sourceArg string targetArg e = continued-made-by (sound p) p m s sourceArg string targetArg e

pub record Reversed (verdict : Bool) (p : Plan) (m : Maker) (s : Setup) (sourceArg : ℕ) (string : List ℕ) (targetArg : ℕ) : Type 0 where
  pub kept : verdict ≡ true
  pub exists : type_exists p m ≡ true
  pub may-make : makes_more m ≡ true
  pub held-here : address_held p m ≡ true
  pub reversible : has (box_type m) p.types.reversible ≡ true
  pub well-formed : well_formed p s ≡ true
  pub string-legal : legal_string string ≡ true
  pub another : not_own (turned s.region) (box_address m) sourceArg targetArg ≡ true
  pub both-legal : (legal sourceArg && legal targetArg) ≡ true

pub reversed-made-by : (verdict : Bool) (p : Plan) (m : Maker) (s : Setup) (sourceArg : ℕ) (string : List ℕ) (targetArg : ℕ) → reversed_outcome_by verdict p m s sourceArg string targetArg ≡ Ok tt → Reversed verdict p m s sourceArg string targetArg
unfolding reversed_outcome_by
reversed-made-by verdict p m s sourceArg string targetArg e =
    let e0 = e in
    let e1 = unless-rest verdict (RuleBroken 0) _ e0 in
    let e2 = unless-rest (type_exists p m) NoSuchType _ e1 in
    let e3 = unless-rest (makes_more m) NotForThisBox _ e2 in
    let e4 = unless-rest (address_held p m) WrongAddress _ e3 in
    let e5 = unless-rest (has (box_type m) p.types.reversible) NotReversible _ e4 in
    let e6 = unless-rest (well_formed p s) Malformed _ e5 in
    let e7 = unless-rest (legal_string string) BadString _ e6 in
    let e8 = unless-rest (not_own (turned s.region) (box_address m) sourceArg targetArg) OwnAddress _ e7 in
    record {
      kept = unless-passed verdict (RuleBroken 0) _ e0;
      exists = unless-passed (type_exists p m) NoSuchType _ e1;
      may-make = unless-passed (makes_more m) NotForThisBox _ e2;
      held-here = unless-passed (address_held p m) WrongAddress _ e3;
      reversible = unless-passed (has (box_type m) p.types.reversible) NotReversible _ e4;
      well-formed = unless-passed (well_formed p s) Malformed _ e5;
      string-legal = unless-passed (legal_string string) BadString _ e6;
      another = unless-passed (not_own (turned s.region) (box_address m) sourceArg targetArg) OwnAddress _ e7;
      both-legal = unless-passed (legal sourceArg && legal targetArg) AddressTooLarge _ e8;
    }

pub reversed-made : (p : Plan) (m : Maker) (s : Setup) (sourceArg : ℕ) (string : List ℕ) (targetArg : ℕ) → reversed_outcome p m s sourceArg string targetArg ≡ Ok tt → Reversed (sound p) p m s sourceArg string targetArg
reversed-made p m s sourceArg string targetArg e = reversed-made-by (sound p) p m s sourceArg string targetArg e
