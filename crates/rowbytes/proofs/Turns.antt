-- That what the code makes of one record's bytes is a turn of the row: a command, or a call placed. Assumes nothing.
use Rattle.std.specs.Prelude.{Result, Ok, Err, ⊤}
use Rattle.std.proofs.Common.{◌≡◌, ℕ, ◌+◌, ◌*◌, ◌/◌, ◌%◌, ◌<◌, ◌≤◌, Bool, true, false, cond, ◌&&◌, eqb, ltb, List, [], ◌∷◌, length, set, sym, refl, ap, ◌∙◌, subst, arith, ltb-true, le-ltb, lt-ltb, le-leb}
use Rattle.refusal.specs.declared.Refusal.{Refusal}
use Rattle.refusal.specs.declared.Refusal.TheVariants.{NoSuchCall, RowTooLong}
use Rattle.plan.specs.declared.Plan.{Plan}
use Rattle.setup.specs.declared.Setup.{Setup}
use Rattle.routing.specs.declared.Callee.{Callee}
use Rattle.routing.specs.declared.Routed.{Routed}
use Rattle.routing.specs.Routing.{outcome_by, answer_by}
use Rattle.call.specs.declared.Call.{Call}
use Rattle.call.specs.declared.Command.{Command}
use Rattle.call.specs.declared.Command.TheVariants.{Accept, Busy, Unobtainable, Send, Teardown as Hang-up, Deliver}
use Rattle.ends.specs.declared.Signal.{Signal}
use Rattle.std.specs.Prelude.{Result, Ok, Err}
use Rattle.refusal.specs.declared.Refusal.{Refusal}
use Rattle.ends.specs.declared.State.{State}
use Rattle.std.specs.Prelude.{Ok, Err}
use Rattle.typeset.proofs.Bools.{clash}
use Rattle.call.specs.Protocol.{Answer}
use Rattle.std.specs.Prelude.{Ok, Err}
use Rattle.call.specs.Protocol.{actor, waiting, hands, verdict, step, is_free, next_use}
use Rattle.call.specs.History.{accepted}
use Rattle.call.specs.Row.{Turn, says, command, record_at, lowest_free, in_use, named, refuses, put, turn, granted}
use Rattle.placing.specs.declared.Placed.{Placed}
use Rattle.placing.specs.Rows.{later_by, later_for, outcome_in_by, answer_in_by, turned, placed_in_by, row_after_by}
use Rattle.placing.proofs.Settles.{later, routing-to, refusing-by, came-by, places, was-routed, was-refused}
use Rattle.recordbytes.specs.Records.{call_at}
use Rattle.recordbytes.specs.Numbers.{in_word}
use Rattle.recordbytes.specs.Steps.{Stepped, outcome_at, step_at, command_at}
use Rattle.recordbytes.proofs.AsStep.{as_step, only-the-record}
use Rattle.rowbytes.specs.Rows.{records_in, records, row_in, commanded_in, placed_by}
use Rattle.rowbytes.specs.Parts.{found_in, commanded_by, put_placed}
use Rattle.rowbytes.proofs.Rows.{row-length, inside, record-in, row-changed, row-placed-in, put_in}

-- ---- a command

-- what is refused leaves the bytes
kept_by : (b : List ℕ) (at : ℕ) (k : Command) → (step_at b at k).bytes ≡ cond (accepted (step_at b at k).answer) (step_at b at k).bytes b
kept_by b at k = by (verdict (call_at b at) k)
  where
    handed : (k : Command) (w : List Signal) → accepted (hands k w) ≡ true
    handed Accept w = refl
    handed Busy w = refl
    handed Unobtainable w = refl
    handed (Send s t x) w = refl
    handed (Hang-up s) w = refl
    handed (Deliver s) [] = refl
    handed (Deliver s) (x ∷ w) = refl

    by : (v : Result State Refusal) → (outcome_at b at k v).bytes ≡ cond (accepted (outcome_at b at k v).answer) (outcome_at b at k v).bytes b
    by (Err r) = refl
    by (Ok e) = rw (handed k (waiting (actor k) (call_at b at))) refl

module _ (b : List ℕ) (r : ℕ) (k : Command) (in_row : r < records_in b) where
  abbrev it : Stepped
  it = step_at b (614 * r) k

  here : call_at b (614 * r) ≡ record_at (row_in b) r
  here = record-in b r in_row

  pub answer-read : it.answer ≡ (step (record_at (row_in b) r) k).answer
  answer-read = (as_step b (614 * r) k (inside b r in_row)).0 ∙ ap (λ (c : Call). (step c k).answer) here

  -- the row afterwards, accepted or not
  pub row-stepped : row_in it.bytes ≡ set (row_in b) r (step (record_at (row_in b) r) k).call
  row-stepped =
      let only = only-the-record b (614 * r) k (inside b r in_row) in
      row-changed b it.bytes r in_row only.0 only.1 ∙ ap (set (row_in b) r) ((as_step b (614 * r) k (inside b r in_row)).1 ∙ ap (λ (c : Call). (step c k).call) here)

  pub row-granted : row_in (cond (accepted (step (record_at (row_in b) r) k).answer) it.bytes b) ≡ set (row_in b) r (step (record_at (row_in b) r) k).call
  row-granted = ap row_in (sym (kept_by b (614 * r) k ∙ ap (λ (y : Bool). cond y it.bytes b) (ap accepted answer-read))) ∙ row-stepped

-- a record that a command names is within the row
pub named-inside : (b : List ℕ) (r u : ℕ) → named (row_in b) r u ≡ true → r < records_in b
named-inside b r u e = by (ltb r (length (row_in b))) refl e
  where
    by : (t : Bool) → ltb r (length (row_in b)) ≡ t → (t && in_use (record_at (row_in b) r) u) ≡ true → r < records_in b
    by true f h = subst (λ (n : ℕ). r < n) (row-length b) (ltb-true r (length (row_in b)) f)
    by false f h = absurd (clash h refl)

-- what the code makes of the row is the turn that the command is
module _ (b : List ℕ) (r u : ℕ) (k : Command) where
  abbrev t : Turn
  t = turn (row_in b) (command r u k)

  abbrev Turns : Answer → List ℕ → Type 0
  Turns x z = (says x ≡ t.reply) × (z ≡ commanded_in b r u k) × (row_in z ≡ t.row)

  refused-by : (x : Refusal) → t ≡ refuses x (row_in b) → Turns (Err x) b
  refused-by x e = (ap (λ (y : Turn). y.reply) (sym e), rw e refl, ap (λ (y : Turn). y.row) (sym e))

  -- the record that a command finds, and what it does there
  abbrev f : Result ℕ Refusal
  f = found_in true b r u

  found-turns : Turns (commanded_by f b k).answer (commanded_by f b k).bytes
  found-turns = by (ltb 1024 (records_in b)) refl (named (row_in b) r u) refl
    where
      found_as : (y : Result ℕ Refusal) → f ≡ y → Turns (commanded_by y b k).answer (commanded_by y b k).bytes → Turns (commanded_by f b k).answer (commanded_by f b k).bytes
      found_as y e h = subst (λ (y : Result ℕ Refusal). Turns (commanded_by y b k).answer (commanded_by y b k).bytes) (sym e) h

      by : (long : Bool) → ltb 1024 (records_in b) ≡ long → (there : Bool) → named (row_in b) r u ≡ there → Turns (commanded_by f b k).answer (commanded_by f b k).bytes
      by true e there g = found_as (Err RowTooLong) (rw e refl) (refused-by RowTooLong (rw (row-length b, e) refl))
      by false e false g = found_as (Err NoSuchCall) (rw (e, g) refl) (refused-by NoSuchCall (rw (g, row-length b, e) refl))
      by false e true g =
          let in_row : r < records_in b = named-inside b r u g in
          let so : t ≡ put (row_in b) r (step (record_at (row_in b) r) k) = rw (g, row-length b, e) refl in
          let whole : command_at b (614 * r) k ≡ step_at b (614 * r) k = rw (le-leb (614 * r + 614) (length b) (inside b r in_row)) refl in
          let answer : (command_at b (614 * r) k).answer ≡ (step (record_at (row_in b) r) k).answer = ap (λ (y : Stepped). y.answer) whole ∙ answer-read b r k in_row in
          let bytes : (command_at b (614 * r) k).bytes ≡ (step_at b (614 * r) k).bytes = ap (λ (y : Stepped). y.bytes) whole in
          found_as (Ok (614 * r)) (rw (e, g) refl) (
            ap says answer ∙ ap (λ (y : Turn). y.reply) (sym so),
            bytes ∙ kept_by b (614 * r) k ∙ ap (λ (y : Bool). cond y (step_at b (614 * r) k).bytes b) (ap accepted (answer-read b r k in_row) ∙ ap (λ (y : Turn). granted y.reply) (sym so)),
            ap row_in bytes ∙ row-stepped b r k in_row ∙ ap (λ (y : Turn). y.row) (sym so),
          )

  pub turns_as : {x : Answer} {z : List ℕ} → x ≡ (commanded_by f b k).answer → z ≡ (commanded_by f b k).bytes → Turns x z
  turns_as ex ez = rw (ex, ez) found-turns

-- what the tests of the code find
module _ (b : List ℕ) (r u : ℕ) where
  pub too_long : 1024 < records_in b → Err RowTooLong ≡ found_in true b r u
  too_long h = rw (lt-ltb 1024 (records_in b) h) refl

  module _ (few : records_in b ≤ 1024) where
    not_named : named (row_in b) r u ≡ false → Err NoSuchCall ≡ found_in true b r u
    not_named e = rw (le-ltb 1024 (records_in b) few, e) refl

    pub past_row : records_in b ≤ r → Err NoSuchCall ≡ found_in true b r u
    past_row h = not_named (rw (row-length b, le-ltb r (records_in b) h) refl)

    module _ (in_row : r < records_in b) where
      pub free_record : is_free (call_at b (614 * r)) ≡ true → Err NoSuchCall ≡ found_in true b r u
      free_record e =
          let free : is_free (record_at (row_in b) r) ≡ true = ap is_free (sym (record-in b r in_row)) ∙ e in
          not_named (rw (row-length b, lt-ltb r (records_in b) in_row, free) refl)

      module _ (taken : is_free (call_at b (614 * r)) ≡ false) {n : ℕ} (en : n ≡ (record_at (row_in b) r).use_number) where
        is-taken : is_free (record_at (row_in b) r) ≡ false
        is-taken = ap is_free (sym (record-in b r in_row)) ∙ taken

        pub other-use : eqb n u ≡ false → Err NoSuchCall ≡ found_in true b r u
        other-use e =
            let differs : eqb (record_at (row_in b) r).use_number u ≡ false = ap (λ (x : ℕ). eqb x u) (sym en) ∙ e in
            not_named (rw (row-length b, lt-ltb r (records_in b) in_row, is-taken, differs) refl)

        pub found-there : eqb n u ≡ true → Ok (614 * r) ≡ found_in true b r u
        found-there e =
            let same : eqb (record_at (row_in b) r).use_number u ≡ true = ap (λ (y : ℕ). eqb y u) (sym en) ∙ e in
            rw (le-ltb 1024 (records_in b) few, row-length b, lt-ltb r (records_in b) in_row, is-taken, same) refl

-- ---- a call placed

-- a row that refuses nothing by itself has a free record
abbrev refusing : Result ⊤ Refusal → Bool
refusing (Ok _) = false
refusing (Err x) = true

free-there : (row : List Call) → later_for row ≡ Ok tt → lowest_free row < length row
free-there row none = by (ltb 1024 (length row)) (ltb (lowest_free row) (length row)) refl none
  where
    by : (long free : Bool) → ltb (lowest_free row) (length row) ≡ free → later long free ≡ Ok tt → lowest_free row < length row
    by long true e h = ltb-true (lowest_free row) (length row) e
    by true false e h = absurd (clash refl (ap refusing h))
    by false false e h = absurd (clash refl (ap refusing h))

pub not-routed : {c : Callee} {y : Refusal} → Err y ≡ Ok c → ⊥
not-routed e = cc

next_fits : (c : Call) → next_use c.use_number < 65536
next_fits c = omega arith

module _ (kept : Bool) (b : List ℕ) (p : Plan) (x : Setup) (n m : ℕ) where
  abbrev row : List Call
  row = row_in b

  abbrev free : ℕ
  free = lowest_free row

  abbrev o : Result Callee Refusal
  o = outcome_in_by kept row p x n m

  -- a routed call: the bytes that are put
  pub bytes-placed : (c : Callee) → o ≡ Ok c → put_placed b free (next_use (record_at row free).use_number) ≡ placed_by (turned row o).reply b
  bytes-placed c routed = elim (came-by kept row p x n m) as (λ _. put_placed b free (next_use (record_at row free).use_number) ≡ placed_by (turned row (outcome_in_by kept row p x n m)).reply b) [
    | routing-to d none e ↦ rw (e, places row none) (sym (put_in b free (next_use (record_at row free).use_number) (subst (λ (k : ℕ). free < k) (row-length b) (free-there row none))))
    | refusing-by y e ↦ absurd (not-routed (sym e ∙ routed))
  ]

  pub row-placed : row_in (placed_by (turned row o).reply b) ≡ row_after_by kept row p x n m
  row-placed = elim (came-by kept row p x n m) as (λ _. row_in (placed_by (turned row (outcome_in_by kept row p x n m)).reply b) ≡ (turned row (outcome_in_by kept row p x n m)).row) [
    | routing-to c none e ↦
        rw (e, places row none) (row-placed-in b free (next_use (record_at row free).use_number) (subst (λ (k : ℕ). free < k) (row-length b) (free-there row none)) (next_fits (record_at row free)))
    | refusing-by y e ↦ rw e refl
  ]

-- what the calls of `place` come to
module _ (kept : Bool) (b : List ℕ) (p : Plan) (x : Setup) (n m : ℕ) {r : ℕ} {l : (Result ⊤ Refusal)} {a : Result Routed Refusal} (er : r ≡ lowest_free (row_in b)) (el : l ≡ later_by (records_in b) r) (ea : a ≡ answer_by kept p x l n m) where
  pub later-is : l ≡ later_for (row_in b)
  later-is = el ∙ rw (er, row-length b) refl

  answer-is : a ≡ answer_in_by kept (row_in b) p x n m
  answer-is = ea ∙ rw later-is refl

  pub outcome-is : outcome_by kept p x l n m ≡ outcome_in_by kept (row_in b) p x n m
  outcome-is = rw later-is refl

  abbrev Places : Result Placed Refusal → List ℕ → Type 0
  Places w z = (w ≡ placed_in_by kept (row_in b) p x n m) × (z ≡ placed_by (turned (row_in b) (outcome_in_by kept (row_in b) p x n m)).reply b) × (row_in z ≡ row_after_by kept (row_in b) p x n m)

  place_is : {z : List ℕ} {w : Result Placed Refusal} → w ≡ placed_in_by kept (row_in b) p x n m → z ≡ placed_by (turned (row_in b) (outcome_in_by kept (row_in b) p x n m)).reply b → Places w z
  place_is ew ez = (ew, ez, ap row_in ez ∙ row-placed kept b p x n m)

  -- routed: a call is stored under the next use number of the record, and the record is named
  pub routed-is : {y : Routed} {u : ℕ} {z : List ℕ} → a ≡ Ok y → u ≡ next_use (record_at (row_in b) r).use_number → z ≡ put_placed b r u
      → Places (Ok (record { record_number = r; use_number = u; routed = y })) z
  routed-is {y} eo eu ez =
      let e : answer_in_by kept (row_in b) p x n m ≡ Ok y = sym answer-is ∙ eo in
      let c = was-routed kept (row_in b) p x n m e in
      place_is (rw (e, eu, er)) (ez ∙ rw (eu, er) (bytes-placed kept b p x n m c.0 c.1))

  -- refused: nothing is stored
  pub refused-is : {y : Refusal} → a ≡ Err y → Places (Err y) b
  refused-is {y} eo =
      let e : answer_in_by kept (row_in b) p x n m ≡ Err y = sym answer-is ∙ eo in
      place_is (rw e) (rw (was-refused kept (row_in b) p x n m e))

-- ---- a port is a row of one

pub one-record : (b : List ℕ) → length b ≡ 614 → row_in b ≡ call_at b 0 ∷ []
unfolding row_in records
one-record b long = rw long refl

module _ (b : List ℕ) (k : Command) (long : length b ≡ 614) where
  pub port-stepped : {x : Answer} {z : List ℕ} → x ≡ (command_at b 0 k).answer → z ≡ (command_at b 0 k).bytes
      → (x ≡ (step (call_at b 0) k).answer) × (z ≡ (step_at b 0 k).bytes) × (call_at z 0 ≡ (step (call_at b 0) k).call)
  port-stepped ex ez =
      let room : 0 + 614 ≤ length b = omega (arith, long) in
      let whole : command_at b 0 k ≡ step_at b 0 k = rw (le-leb (0 + 614) (length b) room) refl in
      let bytes = ez ∙ ap (λ (y : Stepped). y.bytes) whole in
      let read = as_step b 0 k room in
      (ex ∙ ap (λ (y : Stepped). y.answer) whole ∙ read.0, bytes, ap (λ (y : List ℕ). call_at y 0) bytes ∙ read.1)

-- the record of the row of one that is left
pub one_left : (z : List ℕ) {row : List Call} → length z ≡ 614 → row_in z ≡ row → call_at z 0 ≡ record_at row 0
one_left z long e = ap (λ (l : List Call). record_at l 0) (sym (one-record z long) ∙ e)

-- ---- answers

-- a word below 256 is a number, and says nothing else
pub small_word : (n : ℕ) → n < 256 → in_word n ≡ record { number = n; delivered = 0; signal = 0; tunnel = 0; code = 0 }
small_word n h =
    let e0 : n % 256 ≡ n = omega (arith, h) in
    let e1 : n / 256 % 256 ≡ 0 = omega (arith, h) in
    let e2 : n / 65536 % 256 ≡ 0 = omega (arith, h) in
    let e3 : n / 16777216 % 256 ≡ 0 = omega (arith, h) in
    let e4 : n / 4294967296 % 256 ≡ 0 = omega (arith, h) in
    λ i. record { number = e0 i; delivered = e1 i; signal = e2 i; tunnel = e3 i; code = e4 i }

-- a command is answered by an answer, never by a placing
pub never_placed : (b : List ℕ) (r u : ℕ) (k : Command) → (turn (row_in b) (command r u k)).reply ≡ says (commanded_by (found_in true b r u) b k).answer
never_placed b r u k = sym (turns_as b r u k refl refl).0

-- what the goals of `found_named` cite
pub ruleset found_cases = (too_long, past_row, free_record, other-use, found-there)
