-- That what the code makes of one record is placing in the row. A call that is routed found a free record in a row that is not too long; a refusal leaves what was there. Assumes nothing.
use Rattle.std.specs.Prelude.{None, Result, Ok, Err, ⊤}
use Prim.Native.Nat.{ℕ, ◌<◌}
use borrow.Author.Tests.{ltb-true}
use mathlib.Core.Path.{◌≡◌, refl, sym, ◌∙◌, ap, subst}
use mathlib.Core.Bool.{Bool, true, false, cond, false≢true}
use mathlib.Core.List.{List, [], ◌∷◌}
use lib.ListN.{length, set}
use lib.Seq.{set-get_or}
use lib.Dec.{T, ltb}
use Rattle.refusal.specs.declared.Refusal.{Refusal}
use Rattle.refusal.specs.declared.Refusal.TheVariants.{RowTooLong, NoFreeRecord}
use Rattle.plan.specs.declared.Plan.{Plan}
use Rattle.plan.specs.Sound.{sound}
use Rattle.setup.specs.declared.Setup.{Setup}
use Rattle.routing.specs.declared.Callee.{Callee}
use Rattle.routing.specs.declared.Routed.{Routed}
use Rattle.routing.specs.Routing.{settled_by as firstRefusal, answered as routing-answered, answer_by}
use Rattle.routing.specs.Steps.{callee_of, received_of, left_of}
use Rattle.routing.proofs.Zoned.{settled-passed, list-refused, list-routed}
use Rattle.call.specs.declared.Call.{Call}
use Rattle.call.specs.Protocol.{is_free, next_use, refusing, cleared, placed, placing_in}
use Rattle.call.specs.Row.{Turn, place, record_at, lowest_free, refuses, place_at, turn}
use Rattle.teardown.proofs.Row.{placing-law}
use Rattle.placing.specs.Rows.{later_for, answered, outcome_in_by, answer_in_by, answer_in, turned, placed_in, row_after, row_after_by}
use Rattle.placing.specs.declared.Placed.{Placed}
use Rattle.placing.specs.Parts.{put_as, answer_for, record_after}

-- A row that refuses nothing by itself places a call in its lowest free record.
abbrev refusing-by-itself : Result ⊤ Refusal → Bool
refusing-by-itself (Ok _) = false
refusing-by-itself (Err x) = true

-- what a row refuses by itself, by its two tests
abbrev pub later : Bool → Bool → Result ⊤ Refusal
later long free = cond long (Err RowTooLong) (cond free (Ok tt) (Err NoFreeRecord))

by_tests : (long free : Bool) (row : List Call) (r : ℕ) → later long free ≡ Ok tt
    → cond long (refuses RowTooLong row) (cond free (place_at row r) (refuses NoFreeRecord row)) ≡ place_at row r
by_tests true free row r e = absurd (false≢true (sym (ap refusing-by-itself e)))
by_tests false true row r e = refl
by_tests false false row r e = absurd (false≢true (sym (ap refusing-by-itself e)))

pub places : (row : List Call) → later_for row ≡ Ok tt → turn row place ≡ place_at row (lowest_free row)
places row e = by_tests (ltb 1024 (length row)) (ltb (lowest_free row) (length row)) row (lowest_free row) e

-- Routing either routes, and then the row refuses nothing; or it refuses.
pub data CameBy (kept : Bool) (row : List Call) (p : Plan) (s : Setup) (n m : ℕ) : Type 0 where
  routing-to : (c : Callee) → later_for row ≡ Ok tt → outcome_in_by kept row p s n m ≡ Ok c → CameBy kept row p s n m
  refusing-by : (x : Refusal) → outcome_in_by kept row p s n m ≡ Err x → CameBy kept row p s n m

pub came-by : (kept : Bool) (row : List Call) (p : Plan) (s : Setup) (n m : ℕ) → CameBy kept row p s n m
came-by kept row p s n m = by (firstRefusal kept p s (later_for row) n m) refl
  where
    by : (l : (Result ⊤ Refusal)) → firstRefusal kept p s (later_for row) n m ≡ l → CameBy kept row p s n m
    by (Ok _) e = routing-to (callee_of p s) (settled-passed kept p s (later_for row) n m e).nothing (list-routed kept p s (later_for row) n m e)
    by (Err x) e = refusing-by x (list-refused kept p s (later_for row) n m x e)

-- ---- what is answered tells which
answered-ok : (o : Result Callee Refusal) (x : Setup) (k : ℕ) {a : Routed} → routing-answered o x k ≡ Ok a → (c : Callee) × (o ≡ Ok c)
answered-ok (Ok c) x k e = (c, refl)
answered-ok (Err r) x k e = absurd (cc)

answered-err : (o : Result Callee Refusal) (x : Setup) (k : ℕ) {r : Refusal} → routing-answered o x k ≡ Err r → o ≡ Err r
answered-err (Ok c) x k e = absurd (cc)
answered-err (Err y) x k {r} e = let q : y ≡ r = cc in rw q

module _ (kept : Bool) (row : List Call) (p : Plan) (s : Setup) (n m : ℕ) where
  pub was-routed : {a : Routed} → answer_in_by kept row p s n m ≡ Ok a → (c : Callee) × (outcome_in_by kept row p s n m ≡ Ok c)
  unfolding answer_by
  was-routed e = answered-ok (outcome_in_by kept row p s n m) (received_of p s) (left_of p s) e

  pub was-refused : {x : Refusal} → answer_in_by kept row p s n m ≡ Err x → outcome_in_by kept row p s n m ≡ Err x
  unfolding answer_by
  was-refused e = answered-err (outcome_in_by kept row p s n m) (received_of p s) (left_of p s) e

  -- what is routed found a row that refuses nothing
  pub nothing-later : {a : Routed} → answer_in_by kept row p s n m ≡ Ok a → later_for row ≡ Ok tt
  nothing-later e = let c = was-routed e in elim (came-by kept row p s n m) as (λ _. later_for row ≡ Ok tt) [
    | routing-to x free q ↦ free
    | refusing-by x q ↦ absurd (not-both (sym c.1 ∙ q))
  ]
    where
      not-both : {c : Callee} {x : Refusal} → Ok c ≡ Err x → ⊥
      not-both e = cc

  -- A REFUSAL leaves the row as it was
  pub row-kept : {x : Refusal} → answer_in_by kept row p s n m ≡ Err x → row ≡ row_after_by kept row p s n m
  row-kept {x} e = sym (ap (λ (o : Result Callee Refusal). (turned row o).row) (was-refused e))

-- what is answered names the lowest free record and its next use
pub given-is : (row : List Call) (o : Result Routed Refusal) {x : Placed} → answered row o ≡ Ok x
    → (lowest_free row ≡ x.record_number) × (next_use (record_at row (lowest_free row)).use_number ≡ x.use_number)
given-is row (Ok a) {x} e =
    let q : ◌≡◌ {A = Placed} (record { record_number = lowest_free row; use_number = next_use (record_at row (lowest_free row)).use_number; routed = a }) x = cc in
    (ap (λ (z : Placed). z.record_number) q, ap (λ (z : Placed). z.use_number) q)
given-is row (Err r) e = absurd (cc)

-- ---- the record that takes the call
only-free : (c : Call) (free : Bool) → T free → (cond free (record { answer = Ok None; call = placed c }) (refusing c NoFreeRecord)).call ≡ placed c
only-free c true h = refl
only-free c false h = absurd h

module _ (row : List Call) (p : Plan) (s : Setup) (n m : ℕ) {a : Routed} (e : answer_in row p s n m ≡ Ok a) where
  abbrev r : ℕ
  r = lowest_free row

  abbrev c : Call
  c = record_at row r

  free : later_for row ≡ Ok tt
  free = nothing-later (sound p) row p s n m e

  takes-it : (placing_in c).call ≡ placed c
  takes-it = only-free c (is_free c) (placing-law row r (next_use c.use_number) (ap (λ (t : Turn). t.reply) (places row free))).free

  -- it is a record of the row
  pub inside : r < length row
  inside = by (ltb 1024 (length row)) (ltb r (length row)) refl free
    where
      by : (long there : Bool) → ltb r (length row) ≡ there → later long there ≡ Ok tt → r < length row
      by long true q h = ltb-true r (length row) q
      by true false q h = absurd (false≢true (sym (ap refusing-by-itself h)))
      by false false q h = absurd (false≢true (sym (ap refusing-by-itself h)))

  pub answers-ok : Ok (put_as r c a) ≡ placed_in row p s n m
  answers-ok = rw (e, takes-it)

  pub leaves-ok : set row r (placing_in c).call ≡ row_after row p s n m
  leaves-ok = ap (set row r) takes-it ∙ sym (ap (λ (o : Result Callee Refusal). (turned row o).row) (was-routed (sound p) row p s n m e).1 ∙ ap (λ (t : Turn). t.row) (places row free))

-- ---- a row: the lowest free record, whatever routing answers
module _ (row : List Call) (p : Plan) (s : Setup) (n m : ℕ) where
  pub answers-placed : answer_for (answer_in row p s n m) (lowest_free row) (record_at row (lowest_free row)) ≡ placed_in row p s n m
  answers-placed = by (answer_in row p s n m) refl
    where
      by : (o : Result Routed Refusal) → answer_in row p s n m ≡ o → answer_for (answer_in row p s n m) (lowest_free row) (record_at row (lowest_free row)) ≡ placed_in row p s n m
      by (Ok a) e = ap (λ (o : Result Routed Refusal). answer_for o (lowest_free row) (record_at row (lowest_free row))) e ∙ answers-ok row p s n m e
      by (Err x) e = rw e refl

  pub leaves-row : set row (lowest_free row) (record_after (answer_in row p s n m) (record_at row (lowest_free row))) ≡ row_after row p s n m
  leaves-row = by (answer_in row p s n m) refl
    where
      by : (o : Result Routed Refusal) → answer_in row p s n m ≡ o → set row (lowest_free row) (record_after (answer_in row p s n m) (record_at row (lowest_free row))) ≡ row_after row p s n m
      by (Ok a) e = ap (λ (o : Result Routed Refusal). set row (lowest_free row) (record_after o (record_at row (lowest_free row)))) e ∙ leaves-ok row p s n m e
      by (Err x) e =
          ap (λ (o : Result Routed Refusal). set row (lowest_free row) (record_after o (record_at row (lowest_free row)))) e
          ∙ set-get_or row (lowest_free row) cleared ∙ row-kept (sound p) row p s n m e

-- ---- a port: the record of a row of one
one_free : (free : Bool) → later false (ltb (cond free 0 1) 1) ≡ Ok tt → ◌≡◌ {A = ℕ} (cond free 0 1) 0
one_free true e = refl
one_free false e = absurd (false≢true (sym (ap refusing-by-itself e)))

pub port-places : (c : Call) → later_for (c ∷ []) ≡ Ok tt → turn (c ∷ []) place ≡ place_at (c ∷ []) 0
port-places c free = places (c ∷ []) free ∙ ap (place_at (c ∷ [])) (one_free (is_free c) free)

module _ (c : Call) (p : Plan) (s : Setup) (n m : ℕ) where
  -- its record is the first
  at-0 : {a : Routed} → answer_in (c ∷ []) p s n m ≡ Ok a → lowest_free (c ∷ []) ≡ 0
  at-0 e = one_free (is_free c) (nothing-later (sound p) (c ∷ []) p s n m e)

  pub port-ok : {a : Routed} → answer_in (c ∷ []) p s n m ≡ Ok a → Ok (put_as 0 c a) ≡ placed_in (c ∷ []) p s n m
  port-ok {a} e = subst (λ (r : ℕ). Ok (put_as r (record_at (c ∷ []) r) a) ≡ placed_in (c ∷ []) p s n m) (at-0 e) (answers-ok (c ∷ []) p s n m e)

  pub port-record-ok : {a : Routed} → answer_in (c ∷ []) p s n m ≡ Ok a → (placing_in c).call ≡ record_at (row_after (c ∷ []) p s n m) 0
  port-record-ok e =
      subst (λ (r : ℕ). record_at (set (c ∷ []) r (placing_in (record_at (c ∷ []) r)).call) 0 ≡ record_at (row_after (c ∷ []) p s n m) 0) (at-0 e)
      (ap (λ (row : List Call). record_at row 0) (leaves-ok (c ∷ []) p s n m e))

  pub port-kept : {x : Refusal} → answer_in (c ∷ []) p s n m ≡ Err x → c ≡ record_at (row_after (c ∷ []) p s n m) 0
  port-kept e = ap (λ (row : List Call). record_at row 0) (row-kept (sound p) (c ∷ []) p s n m e)

  -- and whatever routing answers
  pub port-placed : answer_for (answer_in (c ∷ []) p s n m) 0 c ≡ placed_in (c ∷ []) p s n m
  port-placed = by (answer_in (c ∷ []) p s n m) refl
    where
      by : (o : Result Routed Refusal) → answer_in (c ∷ []) p s n m ≡ o → answer_for (answer_in (c ∷ []) p s n m) 0 c ≡ placed_in (c ∷ []) p s n m
      by (Ok a) e = ap (λ (o : Result Routed Refusal). answer_for o 0 c) e ∙ port-ok e
      by (Err x) e = rw e refl

  pub port-record : record_after (answer_in (c ∷ []) p s n m) c ≡ record_at (row_after (c ∷ []) p s n m) 0
  port-record = by (answer_in (c ∷ []) p s n m) refl
    where
      by : (o : Result Routed Refusal) → answer_in (c ∷ []) p s n m ≡ o → record_after (answer_in (c ∷ []) p s n m) c ≡ record_at (row_after (c ∷ []) p s n m) 0
      by (Ok a) e = ap (λ (o : Result Routed Refusal). record_after o c) e ∙ port-record-ok e
      by (Err x) e = ap (λ (o : Result Routed Refusal). record_after o c) e ∙ port-kept e
