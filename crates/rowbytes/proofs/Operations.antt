-- The theorems on the operations on lent bytes (specs/Operations.antt). Assumes nothing.
use Rattle.std.specs.Prelude.{Result}
use Rattle.std.proofs.Common.{◌≡◌, ℕ, ◌+◌, ◌*◌, ◌<◌, ◌≤◌, Bool, true, false, cond, ltb, ◌≢◌, List, [], ◌∷◌, ◌++◌, map, length, get_or, take, drop, set, replicate, sym, refl, ap, ◌∙◌, subst, ap₂, arith, length-drop, length-take-le, get_or-drop, get_or-take, ltb-false, ltb-true}
use lib.Seq.{sets, set_out, length-sets}
use Rattle.refusal.specs.declared.Refusal.TheVariants.{NoSuchCall, RowTooLong}
use Rattle.plan.specs.declared.Plan.{Plan}
use Rattle.plan.specs.Sound.{sound}
use Rattle.setup.specs.declared.Setup.{Setup}
use Rattle.call.specs.declared.Call.{Call}
use Rattle.call.specs.declared.Command.{Command}
use Rattle.call.specs.Protocol.{step, cleared, next_use}
use Rattle.call.specs.Row.{Reply, Turn, placed_at, says, Act, place, record_at, lowest_free, named, refuses, put, turn, turns, granted, doing, own}
use Rattle.teardown.specs.Teardown.{CallIn}
use Rattle.teardown.proofs.Media.{none_twice}
use Rattle.teardown.proofs.Theorem.{never_unfit}
use Rattle.teardown.proofs.Row.{reached_by_name, no_deadlock_in_row, in_order_in_row, demand3_in_row}
use Rattle.placing.specs.Rows.{outcome_in, answer_in, turned, row_after}
use Rattle.placing.specs.Operations.{Operation, placing, commanding, row_of, rows_of, number_for, PortOperation, placing_there, commanding_it, port_of, ports_of, port_number, Use, operating, lending, clearing, used, HeadsFit, PortUse, operating_it, clearing_it, port_used, act_by, acts_of, CallPlaced}
use Rattle.placing.proofs.Settles.{routing-to, refusing-by, came-by, places, given-is}
use Rattle.placing.proofs.Operations.{as-acts, never17, port-never17, never-unfit, port-reached, port-no-deadlock, port-in-order, port-demand3}
use Rattle.recordbytes.specs.Records.{call_at}
use Rattle.recordbytes.specs.Steps.{Outside, in_front, behind, step_at}
use Rattle.recordbytes.proofs.Places as stores
use Rattle.recordbytes.proofs.AsStep.{call_same, as_step, only-the-record}
use Rattle.rowbytes.specs.Rows.{records_in, row_in, cleared_in, placed_bytes, placed_by}
use Rattle.rowbytes.specs.Operations.{bytes_of, port_bytes_of, bytes_lent, bytes_used, port_bytes_used, AsRow, AsPort, BytesNever17, BytesFit, CallInBytes, bytes_done, BytesReached, BytesNoDeadlock, BytesInOrder, BytesDemand3, BytesNoneTwice, BytesNeverUnfit, port_bytes_done, PortBytesReached, PortBytesNoDeadlock, PortBytesInOrder, PortBytesDemand3, PortBytesNoneTwice, PortBytesNeverUnfit}
use Rattle.rowbytes.proofs.Rows.{row-length, inside, record-in, row-changed, from-0, row-cleared, cleared-length}
use Rattle.rowbytes.proofs.Turns.{row-granted, named-inside, not-routed, row-placed, one-record, one_left}
use Rattle.refusal.specs.declared.Refusal.{Refusal}
use Rattle.routing.specs.declared.Callee.{Callee}

-- ---- one operation on a row

module _ (b : List ℕ) (r u : ℕ) (k : Command) where
  abbrev chosen : Bool → Bool → Turn
  chosen long there = cond long (refuses RowTooLong (row_in b)) (cond there (put (row_in b) r (step (record_at (row_in b) r) k)) (refuses NoSuchCall (row_in b)))

  command-row : (long there : Bool) → (there ≡ true → r < records_in b) → row_in (cond (granted (chosen long there).reply) (step_at b (614 * r) k).bytes b) ≡ (chosen long there).row
  command-row true there h = refl
  command-row false false h = refl
  command-row false true h = row-granted b r k (h refl)

as_row : (b : List ℕ) (x : Operation) → row_in (bytes_of b x) ≡ row_of (row_in b) x
as_row b (placing p s n m) = row-placed (sound p) b p s n m
as_row b (commanding r u k) = command-row b r u k (ltb 1024 (length (row_in b))) (named (row_in b) r u) (named-inside b r u)

-- ---- one operation on a port

placed-length : (t : Reply) (b : List ℕ) → length (placed_by t b) ≡ length b
placed-length (placed_at r n) b = length-sets b (614 * r) (placed_bytes n)
placed-length (says a) b = refl

port-length : (b : List ℕ) → length b ≡ 614 → (x : PortOperation) → length (port_bytes_of b x) ≡ 614
port-length b long (placing_there p s n m) = placed-length (turned (call_at b 0 ∷ []) (outcome_in (call_at b 0 ∷ []) p s n m)).reply b ∙ long
port-length b long (commanding_it k) = (only-the-record b 0 k (omega (arith, long))).0 ∙ long

as-port-of : (b : List ℕ) → length b ≡ 614 → (x : PortOperation) → call_at (port_bytes_of b x) 0 ≡ port_of (call_at b 0) x
as-port-of b long (placing_there p s n m) =
    one_left (port_bytes_of b (placing_there p s n m)) (port-length b long (placing_there p s n m)) (placed_row (row_in b) (one-record b long) (row-placed (sound p) b p s n m))
  where
    placed_row : (row : List Call) → row ≡ call_at b 0 ∷ [] → row_in (placed_by (turned row (outcome_in row p s n m)).reply b) ≡ row_after row p s n m
        → row_in (placed_by (turned (call_at b 0 ∷ []) (outcome_in (call_at b 0 ∷ []) p s n m)).reply b) ≡ row_after (call_at b 0 ∷ []) p s n m
    placed_row row e h = rw e at h
as-port-of b long (commanding_it k) = (as_step b 0 k (omega (arith, long))).1

-- ---- a record of a row lent as a port

module _ (b : List ℕ) (r : ℕ) (x : PortOperation) where
  abbrev own-bytes : List ℕ
  own-bytes = take 614 (drop (614 * r) b)

  own-length : r < records_in b → length own-bytes ≡ 614
  own-length h =
      let room : 614 * r + 614 ≤ length b = inside b r h in
      let left : 614 ≤ length (drop (614 * r) b) = simp length-drop (omega (arith, room)) in
      length-take-le 614 (drop (614 * r) b) left

  own-call : r < records_in b → call_at own-bytes 0 ≡ record_at (row_in b) r
  own-call h =
      call_same own-bytes b 0 (614 * r) (λ j l. sym (from-0 own-bytes j) ∙ get_or-take 614 (drop (614 * r) b) j 0 l ∙ get_or-drop (614 * r) b j 0) ∙ record-in b r h

  lent_row : r < records_in b → row_in (sets b (614 * r) (port_bytes_of own-bytes x)) ≡ set (row_in b) r (port_of (record_at (row_in b) r) x)
  lent_row h =
      let w : List ℕ = port_bytes_of own-bytes x in
      let long : length w ≡ 614 = port-length own-bytes (own-length h) x in
      let room : 614 * r + 614 ≤ length b = inside b r h in
      let read : call_at (sets b (614 * r) w) (614 * r) ≡ port_of (record_at (row_in b) r) x =
      call_same (sets b (614 * r) w) w (614 * r) 0 (λ j l. stores.within w b (614 * r) j (omega (arith, l, long)) (omega (arith, room, long)) ∙ from-0 w j)
      ∙ as-port-of own-bytes (own-length h) x ∙ ap (λ (c : Call). port_of c x) (own-call h) in
      row-changed b (sets b (614 * r) w) r h (length-sets b (614 * r) w) (λ j o. same w long j o) ∙ ap (set (row_in b) r) read
    where
      same : (w : List ℕ) → length w ≡ 614 → (j : ℕ) → Outside (614 * r) j → get_or (sets b (614 * r) w) j 0 ≡ get_or b j 0
      same w long j (in_front l) = stores.before w b (614 * r) j l
      same w long j (behind l) = stores.past w b (614 * r) j (omega (arith, l, long))

  as_lent : row_in (bytes_lent b r x) ≡ set (row_in b) r (port_of (record_at (row_in b) r) x)
  as_lent = by (ltb r (records_in b)) refl
    where
      by : (t : Bool) → ltb r (records_in b) ≡ t → row_in (cond (ltb r (records_in b)) (sets b (614 * r) (port_bytes_of own-bytes x)) b) ≡ set (row_in b) r (port_of (record_at (row_in b) r) x)
      by true e = rw e (lent_row (ltb-true r (records_in b) e))
      by false e =
          let past : length (row_in b) ≤ r = rw (row-length b) (ltb-false r (records_in b) e) in
          rw e (sym (set_out (row_in b) r (port_of (record_at (row_in b) r) x) past))

-- ---- all of them

as-cleared : (b : List ℕ) → row_in (cleared_in b) ≡ replicate (length (row_in b)) cleared
as-cleared b = row-cleared b ∙ ap (λ (n : ℕ). replicate n cleared) (sym (row-length b))

pub as_rows : AsRow
as_rows b [] = refl
as_rows b (operating x ∷ xs) = as_rows (bytes_of b x) xs ∙ ap (λ (l : List Call). used l xs) (as_row b x)
as_rows b (lending r x ∷ xs) = as_rows (bytes_lent b r x) xs ∙ ap (λ (l : List Call). used l xs) (as_lent b r x)
as_rows b (clearing ∷ xs) = as_rows (cleared_in b) xs ∙ ap (λ (l : List Call). used l xs) (as-cleared b)

port-cleared : (b : List ℕ) → length b ≡ 614 → call_at (cleared_in b) 0 ≡ cleared
port-cleared b long = one_left (cleared_in b) {row = cleared ∷ []} (cleared-length b ∙ long) (row-cleared b ∙ rw long refl)

pub as-port : AsPort
as-port b long [] = refl
as-port b long (operating_it x ∷ xs) = as-port (port_bytes_of b x) (port-length b long x) xs ∙ ap (λ (c : Call). port_used c xs) (as-port-of b long x)
as-port b long (clearing_it ∷ xs) = as-port (cleared_in b) (cleared-length b ∙ long) xs ∙ ap (λ (c : Call). port_used c xs) (port-cleared b long)

-- ---- bytes that began cleared
began : (b : List ℕ) (before : List Use) → row_in (bytes_used (cleared_in b) before) ≡ used (replicate (records_in b) cleared) before
began b before = as_rows (cleared_in b) before ∙ ap (λ (l : List Call). used l before) (row-cleared b)

began-port : (b : List ℕ) → length b ≡ 614 → (before : List PortUse) → call_at (port_bytes_used (cleared_in b) before) 0 ≡ port_used cleared before
began-port b long before = as-port (cleared_in b) (cleared-length b ∙ long) before ∙ ap (λ (c : Call). port_used c before) (port-cleared b long)

-- ---- 17 never
pub bytes-never17 : BytesNever17
bytes-never17 = record {
  in_row = λ b before x. subst (λ (l : List Call). number_for l x ≢ 17) (sym (began b before)) (never17.in_row (records_in b) before x);
  in_record = λ b before r x. subst (λ (l : List Call). port_number (record_at l r) x ≢ 17) (sym (began b before)) (never17.in_record (records_in b) before r x);
  in_port = λ b long before x. subst (λ (c : Call). port_number c x ≢ 17) (sym (began-port b long before)) (port-never17 before x);
}

-- ---- nothing unfit
pub bytes_fit : BytesFit
bytes_fit = record {
  in_row = λ b before r. subst (λ (l : List Call). HeadsFit (record_at l r)) (sym (began b before)) (never-unfit.in_row (records_in b) before r);
  in_port = λ b long before. subst HeadsFit (sym (began-port b long before)) (never-unfit.in_port before);
}

-- ---- a call in a row
done-rows : (b : List ℕ) (xs : List Operation) → row_in (bytes_done b xs) ≡ rows_of (row_in b) xs
done-rows b [] = refl
done-rows b (x ∷ xs) = done-rows (bytes_of b x) xs ∙ ap (λ (l : List Call). rows_of l xs) (as_row b x)

module _ (row : List Call) (p : Plan) (s : Setup) (n m r u : ℕ) (it : CallPlaced row p s n m r u) where
  row_is : row_after row p s n m ≡ (turn row place).row
  row_is = ap (λ (o : (Result Callee Refusal)). (turned row o).row) it.routed

  given : (lowest_free row ≡ it.given.record_number) × (next_use (record_at row (lowest_free row)).use_number ≡ it.given.use_number)
  given = given-is row (answer_in row p s n m) it.given_is

  -- what placing answers is the row's reply
  reply-is : (turn row place).reply ≡ placed_at r u
  reply-is = elim (came-by (sound p) row p s n m) as (λ _. (turn row place).reply ≡ placed_at r u) [
    | routing-to d none e ↦ ap (λ (t : Turn). t.reply) (places row none) ∙ ap₂ placed_at (given.0 ∙ it.record_is) (given.1 ∙ it.use_is)
    | refusing-by y e ↦ absurd (not-routed (sym e ∙ it.routed))
  ]

module _ (b : List ℕ) (p : Plan) (s : Setup) (n m r u : ℕ) (xs : List Operation) where
  abbrev acts : List Act
  acts = acts_of (row_after (row_in b) p s n m) xs

  -- the row of the bytes, by its acts
  by-acts : CallPlaced (row_in b) p s n m r u → row_in (bytes_done b (placing p s n m ∷ xs)) ≡ turns (row_in b) (place ∷ acts)
  by-acts it = done-rows b (placing p s n m ∷ xs) ∙ as-acts (row_in b) (placing p s n m ∷ xs) ∙ ap (λ (o : (Result Callee Refusal)). turns (row_in b) (act_by o ++ acts)) it.routed

  call_in : (ks : List Command) → CallInBytes b p s n m r u xs ks → CallIn (row_in b) r u acts ks
  call_in ks h = record {
    places = reply-is (row_in b) p s n m r u h.answered;
    own_commands = subst (λ (l : List Call). own r l acts ≡ map doing ks) (row_is (row_in b) p s n m r u h.answered) h.own_commands;
  }

pub bytes-reached : BytesReached
bytes-reached b p s n m r u xs ks h = rw (by-acts b p s n m r u xs h.answered) (reached_by_name (row_in b) r u (acts b p s n m r u xs) ks (call_in b p s n m r u xs ks h)).record_is

pub bytes-no-deadlock : BytesNoDeadlock
bytes-no-deadlock b p s n m r u xs ks h = rw (by-acts b p s n m r u xs h.answered) (no_deadlock_in_row (row_in b) r u (acts b p s n m r u xs) ks (call_in b p s n m r u xs ks h))

pub bytes-in-order : BytesInOrder
bytes-in-order b p s n m r u xs ks h e = rw (by-acts b p s n m r u xs h.answered) (in_order_in_row (row_in b) r u (acts b p s n m r u xs) ks (call_in b p s n m r u xs ks h) e)

pub bytes-demand3 : BytesDemand3
bytes-demand3 b p s n m r u xs before k later h first =
    let closes = demand3_in_row (row_in b) r u (acts b p s n m r u xs) before k later (record { call_in = call_in b p s n m r u xs (before ++ k ∷ later) h; first = first }) in
    rw (by-acts b p s n m r u xs h.answered) (closes.closes, closes.moves_by_name)

pub bytes-none-twice : BytesNoneTwice
bytes-none-twice b p s n m r u xs ks h t = none_twice (record_at (row_in b) r) ks t

pub bytes-never-unfit : BytesNeverUnfit
bytes-never-unfit b p s n m r u xs ks h = rw (bytes-reached b p s n m r u xs ks h) (never_unfit (record_at (row_in b) r) ks)

-- ---- a call in a port
done-port : (b : List ℕ) → length b ≡ 614 → (xs : List PortOperation) → call_at (port_bytes_done b xs) 0 ≡ ports_of (call_at b 0) xs
done-port b long [] = refl
done-port b long (x ∷ xs) = done-port (port_bytes_of b x) (port-length b long x) xs ∙ ap (λ (c : Call). ports_of c xs) (as-port-of b long x)

pub port-bytes-reached : PortBytesReached
port-bytes-reached b long xs ks h = done-port b long xs ∙ port-reached (call_at b 0) xs ks h

pub port-bytes-no-deadlock : PortBytesNoDeadlock
port-bytes-no-deadlock b long xs ks h = rw (done-port b long xs) (port-no-deadlock (call_at b 0) xs ks h)

pub port-bytes-in-order : PortBytesInOrder
port-bytes-in-order b long xs ks h e = rw (done-port b long xs) (port-in-order (call_at b 0) xs ks h e)

pub port-bytes-demand3 : PortBytesDemand3
port-bytes-demand3 b long xs before k later h first = rw (done-port b long xs) (port-demand3 (call_at b 0) xs before k later h first)

pub port-bytes-none-twice : PortBytesNoneTwice
port-bytes-none-twice b long xs ks h t = none_twice (call_at b 0) ks t

pub port-bytes-never-unfit : PortBytesNeverUnfit
port-bytes-never-unfit b long xs ks h = rw (port-bytes-reached b long xs ks h) (never_unfit (call_at b 0) ks)
