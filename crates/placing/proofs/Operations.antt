-- The theorems on the public operations of a row and of a port (specs/Operations.antt). Assumes nothing.
use Rattle.std.specs.Prelude.{Result, Ok, Err, ⊤}
use Prim.Native.Nat.{ℕ, zero, suc, ◌≤◌, ◌<◌}
use mathlib.Core.Path.{◌≡◌, refl, sym, ◌∙◌, ap, subst}
use mathlib.Core.Logic.{◌⊎◌, inl, inr, ⊎_elim, ◌≢◌}
use mathlib.Core.Bool.{Bool, true, false, cond, not, ◌&&◌, and-false, true≢false}
use mathlib.Core.List.{List, [], ◌∷◌, ◌++◌, map}
use native.Mathlib.Omega.{arith}
use lib.ListN.{length, set, length-set, replicate, get_or-eq_default}
use lib.Seq.{get_or-set_same, get_or-set_other}
use lib.Dec.{T as Holds, ltb, eqb}
use borrow.Author.Tests.{le-ltb, lt-ltb, ltb-true, ltb-false, eq-eqb, ne_eqb, eqb-true, eqb-false}
use Rattle.refusal.specs.declared.Refusal.{Refusal}
use Rattle.refusal.specs.declared.Refusal.TheVariants.{NoSuchCall, RowTooLong, NoFreeRecord, RuleBroken, Malformed, ListTooShort}
use Rattle.refusal.specs.Numbers.{number_of, number_said}
use Rattle.plan.specs.declared.Plan.{Plan}
use Rattle.plan.specs.Sound.{sound}
use Rattle.setup.specs.declared.Setup.{Setup}
use Rattle.routing.specs.declared.Callee.{Callee}
use Rattle.routing.specs.Routing.{settled as firstRefusal, outcome, answer, answer_by, answered as routing-answered}
use Rattle.routing.proofs.Zoned.{settled-refusal, list-refused, list-routed}
use Rattle.call.specs.declared.Call.{Call}
use Rattle.call.specs.declared.Command.{Command}
use Rattle.call.specs.Protocol.{is_free, step, number_in, placed, cleared, next_use}
use Rattle.call.specs.Row.{Act, place, command, Turn, record_at, lowest_free, named, refuses, put, turn, turns, Event, placing as new-call, doing, lives, own}
use Rattle.teardown.specs.Teardown.{PlacedLowest}
use Rattle.teardown.proofs.Row.{turns-length, lives-append, by_its_own, placing-law, lives-commands, lived-not-17, lived-fit, turn-not-17, demand3_in_row, uses_come_round}
use Rattle.teardown.proofs.Media.{none_twice}
use Rattle.teardown.proofs.Theorem.{no_deadlock, in_order, demand3 as demand3-of-record}
use Rattle.routing.specs.declared.Routed.{Routed}
use Rattle.routing.specs.Steps.{received_of, left_of}
use Rattle.placing.specs.Rows.{later_for, outcome_in, answer_in, turned, answered, row_after}
use Rattle.placing.specs.Operations.{Operation, placing, commanding, row_of, number_for, PortOperation, placing_there, commanding_it, port_of, port_number, Use, operating, lending, clearing, used, PortUse, operating_it, clearing_it, port_used, Never17, PortNever17, HeadsFit, NeverUnfit, PortNoneTwice, act_by, act_of, acts_of, AsActs, Demand3, event_by, event_of, events_of, AsEvents, NoneInUse, CallsInPort, PortReached, PortNoDeadlock, PortInOrder, PortDemand3, PlacesLowest, Placing, OldNames}
use Rattle.placing.proofs.Settles.{routing-to, refusing-by, came-by, later, places, port-places}

-- ---- what an operation does is what its acts do
turns-append : (row : List Call) (xs ys : List Act) → turns row (xs ++ ys) ≡ turns (turns row xs) ys
turns-append row [] ys = refl
turns-append row (x ∷ xs) ys = turns-append (turn row x).row xs ys

turned-acts : (row : List Call) (o : (Result Callee Refusal)) → (turned row o).row ≡ turns row (act_by o)
turned-acts row (Ok c) = refl
turned-acts row (Err x) = refl

as-act : (row : List Call) (x : Operation) → row_of row x ≡ turns row (act_of row x)
as-act row (placing p s n m) = turned-acts row (outcome_in row p s n m)
as-act row (commanding r u k) = refl

pub as-acts : AsActs
as-acts row [] = refl
as-acts row (x ∷ xs) = as-acts (row_of row x) xs ∙ ap (λ (z : List Call). turns z (acts_of (row_of row x) xs)) (as-act row x) ∙ sym (turns-append row (act_of row x) (acts_of (row_of row x) xs))

-- ---- and what an operation on a port does is what its events do
as-event : (c : Call) (x : PortOperation) → port_of c x ≡ lives c (event_of c x)
as-event c (placing_there p s n m) = elim (came-by (sound p) (c ∷ []) p s n m) as (λ _. By (outcome_in (c ∷ []) p s n m)) [
  | routing-to x free e ↦ subst By (sym e) (ap (λ (t : Turn). record_at t.row 0) (port-places c free))
  | refusing-by x e ↦ subst By (sym e) refl
]
  where
    By : Result Callee Refusal → Type 0
    By o = record_at (turned (c ∷ []) o).row 0 ≡ lives c (event_by o)
as-event c (commanding_it k) = refl

pub as-events : AsEvents
as-events c [] = refl
as-events c (x ∷ xs) = as-events (port_of c x) xs ∙ ap (λ (z : Call). lives z (events_of (port_of c x) xs)) (as-event c x) ∙ sym (lives-append c (event_of c x) (events_of (port_of c x) xs))

-- ---- 17 never
abbrev refusal_in : Refusal → Result ⊤ Refusal → Refusal
refusal_in x (Ok _) = x
refusal_in x (Err y) = y

-- the row's own refusal is 16 or 11
by_row : (long free : Bool) (x : Refusal) → later long free ≡ Err x → (x ≡ RowTooLong) ⊎ (x ≡ NoFreeRecord)
by_row true free x e = inl (sym (ap (refusal_in RowTooLong) e))
by_row false true x e = inl (sym (ap (refusal_in RowTooLong) e))
by_row false false x e = inr (sym (ap (refusal_in NoFreeRecord) e))

other : (a : ℕ) → eqb a 17 ≡ false → a ≢ 17
other a f e = true≢false (sym (ap (λ (b : ℕ). eqb b 17) e) ∙ f)

not-17 : (x y : Refusal) → eqb (number_of y) 17 ≡ false → x ≡ y → number_of x ≢ 17
not-17 x y f e = other (number_of x) (ap (λ (z : Refusal). eqb (number_of z) 17) e ∙ f)

placing-number : (row : List Call) (p : Plan) (s : Setup) (n m : ℕ) → number_said (outcome_in row p s n m) ≢ 17
placing-number row p s n m = by (firstRefusal p s (later_for row) n m) refl
  where
    by : (l : (Result ⊤ Refusal)) → firstRefusal p s (later_for row) n m ≡ l → number_said (outcome_in row p s n m) ≢ 17
    by (Ok _) e = subst (λ (o : (Result Callee Refusal)). number_said o ≢ 17) (sym (list-routed (sound p) p s (later_for row) n m e)) (other 0 refl)
    by (Err x) e =
        subst (λ (o : (Result Callee Refusal)). number_said o ≢ 17) (sym (list-refused (sound p) p s (later_for row) n m x e))
        (⊎_elim (not-17 x (RuleBroken 0) refl) (⊎_elim (not-17 x Malformed refl) (⊎_elim (not-17 x ListTooShort refl)
        (λ (l : later_for row ≡ Err x). ⊎_elim (not-17 x RowTooLong refl) (not-17 x NoFreeRecord refl) (by_row (ltb 1024 (length row)) (ltb (lowest_free row) (length row)) x l))))
        (settled-refusal (sound p) p s (later_for row) n m x e))

-- What the operations make of a record that began cleared: what placings and commands, since it was last cleared, lead to.
abbrev Led : Call → Type 0
Led c = (xs : List Event) × (c ≡ lives cleared xs)

led_on : (c : Call) (ys : List Event) → Led c → Led (lives c ys)
led_on c ys (xs, e) = (xs ++ ys, ap (λ (z : Call). lives z ys) e ∙ sym (lives-append cleared xs ys))

led-number : (c : Call) → Led c → (k : Command) → number_in (step c k).answer ≢ 17
led-number c (xs, e) k = subst (λ (z : Call). number_in (step z k).answer ≢ 17) (sym e) (lived-not-17 xs k)

-- of each record of a row
abbrev AllLed : List Call → Type 0
AllLed row = (r : ℕ) → r < length row → Led (record_at row r)

at-led : (row : List Call) → AllLed row → (r : ℕ) → Led (record_at row r)
at-led row all r = by (ltb r (length row)) refl
  where
    by : (b : Bool) → ltb r (length row) ≡ b → Led (record_at row r)
    by true e = all r (ltb-true r (length row) e)
    by false e = ([], get_or-eq_default row cleared (ltb-false r (length row) e))

set-led : (row : List Call) (r : ℕ) (c : Call) → AllLed row → Led c → AllLed (set row r c)
set-led row r c all it j h = by (eqb j r) refl
  where
    inside : j < length row
    inside = omega (arith, length-set row r c)

    by : (b : Bool) → eqb j r ≡ b → Led (record_at (set row r c) j)
    by true e = rw (← (eqb-true j r e)) (rw (get_or-set_same row j c cleared inside) it)
    by false e = rw (get_or-set_other row r j c cleared (eqb-false j r e)) (all j inside)

cleared-led : (n : ℕ) → AllLed (replicate n cleared)
cleared-led zero r h = ([], refl)
cleared-led (suc n) zero h = ([], refl)
cleared-led (suc n) (suc r) h = cleared-led n r (omega arith)

row-led : (row : List Call) → AllLed row → (x : Operation) → AllLed (row_of row x)
row-led row all x = rw (as-act row x) (λ r h.
    (let inside : r < length row = omega (arith, turns-length row (act_of row x)) in
    rw (by_its_own row (act_of row x) r inside) (led_on (record_at row r) (own r row (act_of row x)) (all r inside))))

row_number : (row : List Call) → AllLed row → (x : Operation) → number_for row x ≢ 17
row_number row all (placing p s n m) = placing-number row p s n m
row_number row all (commanding r u k) = turn-not-17 row (λ j k h busy. led-number (record_at row j) (all j h) k) (command r u k)

port-led : (c : Call) → Led c → (x : PortOperation) → Led (port_of c x)
port-led c it x = rw (as-event c x) (led_on c (event_of c x) it)

port-number : (c : Call) → Led c → (x : PortOperation) → port_number c x ≢ 17
port-number c it (placing_there p s n m) = placing-number (c ∷ []) p s n m
port-number c it (commanding_it k) = led-number c it k

used-led : (row : List Call) → AllLed row → (xs : List Use) → AllLed (used row xs)
used-led row all [] = all
used-led row all (operating x ∷ xs) = used-led (row_of row x) (row-led row all x) xs
used-led row all (lending r x ∷ xs) = used-led (set row r (port_of (record_at row r) x)) (set-led row r (port_of (record_at row r) x) all (port-led (record_at row r) (at-led row all r) x)) xs
used-led row all (clearing ∷ xs) = used-led (replicate (length row) cleared) (cleared-led (length row)) xs

port-used-led : (c : Call) → Led c → (xs : List PortUse) → Led (port_used c xs)
port-used-led c it [] = it
port-used-led c it (operating_it x ∷ xs) = port-used-led (port_of c x) (port-led c it x) xs
port-used-led c it (clearing_it ∷ xs) = port-used-led cleared ([], refl) xs

pub never17 : Never17
never17 = record {
  in_row = λ n before x. row_number (used (replicate n cleared) before) (used-led (replicate n cleared) (cleared-led n) before) x;
  in_record = λ n before r x. port-number (record_at (used (replicate n cleared) before) r) (at-led (used (replicate n cleared) before) (used-led (replicate n cleared) (cleared-led n) before) r) x;
}

-- no channel signal is unfit
led-fit : (c : Call) → Led c → HeadsFit c
led-fit c (xs, e) = subst HeadsFit (sym e) (lived-fit xs)

pub never-unfit : NeverUnfit
never-unfit = record {
  in_row = λ n before r. led-fit (record_at (used (replicate n cleared) before) r) (at-led (used (replicate n cleared) before) (used-led (replicate n cleared) (cleared-led n) before) r);
  in_port = λ before. led-fit (port_used cleared before) (port-used-led cleared ([], refl) before);
}

pub port-never17 : PortNever17
port-never17 before x = port-number (port_used cleared before) (port-used-led cleared ([], refl) before) x

-- ---- placing
abbrev is_routed : Result Callee Refusal → Bool
is_routed (Ok c) = true
is_routed (Err x) = false

routed-refused : (c : Callee) (x : Refusal) → Ok c ≡ Err x → ⊥
routed-refused c x e = true≢false (ap is_routed e)

module _ (row : List Call) (p : Plan) (s : Setup) (n m : ℕ) (c : Callee) (e : outcome_in row p s n m ≡ Ok c) where
  nothing-later : later_for row ≡ Ok tt
  nothing-later = elim (came-by (sound p) row p s n m) as (λ _. later_for row ≡ (Ok tt)) [ routing-to b free q ↦ free | refusing-by x q ↦ absurd (routed-refused c x (sym e ∙ q)) ]

  abbrev r : ℕ
  r = lowest_free row

  abbrev u : ℕ
  u = next_use (record_at row r).use_number

  row_is : row_after row p s n m ≡ (turn row place).row
  row_is = ap (λ (o : (Result Callee Refusal)). (turned row o).row) e

  lowest-is : PlacedLowest row r u (turn row place).row
  lowest-is = placing-law row r u (ap (λ (t : Turn). t.reply) (places row nothing-later))

  -- what routing gave
  abbrev a : Routed
  a = record { callee = c; setup = received_of p s; left = left_of p s }

  answer-is : answer_in row p s n m ≡ Ok a
  unfolding answer_by
  answer-is = ap (λ (o : Result Callee Refusal). routing-answered o (received_of p s) (left_of p s)) e

  places-lowest : PlacesLowest row p s n m
  places-lowest = record {
    given = record { record_number = r; use_number = u; routed = a };
    given_is = ap (answered row) answer-is;
    lowest = subst (PlacedLowest row r u) (sym row_is) lowest-is;
    stepped = refl;
    as_routing = sym answer-is ∙ ap (λ (l : (Result ⊤ Refusal)). answer p s l n m) nothing-later;
    as_routed = ap (λ (l : (Result ⊤ Refusal)). outcome p s l n m) nothing-later;
  }

pub placing-lowest : Placing
placing-lowest = places-lowest

-- ---- the third demand
pub demand3 : Demand3
demand3 row p s n m r u xs before k later first-is first =
    (as-acts row (placing p s n m ∷ xs) ∙ ap (λ (o : (Result Callee Refusal)). turns row (act_by o ++ acts_of (row_after row p s n m) xs)) first-is.routed, demand3_in_row row r u (acts_of (row_after row p s n m) xs) before k later first)

-- ---- a call in a port
held-true : (b : Bool) → Holds b → b ≡ true
held-true true h = refl
held-true false h = absurd h

pub none-in-use : NoneInUse
none-in-use c p s n m busy = elim (came-by (sound p) (c ∷ []) p s n m) as (λ _. None (outcome_in (c ∷ []) p s n m)) [
  | routing-to x free e ↦ absurd (in_use (is_free c) busy free)
  | refusing-by x e ↦ subst None (sym e) (refl, refl)
]
  where
    None : Result Callee Refusal → Type 0
    None o = (event_by o ≡ []) × (record_at (turned (c ∷ []) o).row 0 ≡ c)

    in_use : (free : Bool) → Holds (not free) → later false (ltb (cond free 0 1) 1) ≡ Ok tt → ⊥
    in_use true busy e = busy
    in_use false busy e = let z : ◌≡◌ {A = ℕ} 0 1 = cc in omega arith

events-of-commands : (c : Call) (ks : List Command) → events_of c (map commanding_it ks) ≡ map doing ks
events-of-commands c [] = refl
events-of-commands c (k ∷ ks) = ap (◌∷◌ (doing k)) (events-of-commands (step c k).call ks)

pub calls-in-port : CallsInPort
calls-in-port c p s n m x ks free routed = rw (held-true (is_free c) free, routed) (ap (◌∷◌ new-call) (events-of-commands (port_of c (placing_there p s n m)) ks))

pub port-reached : PortReached
port-reached c xs ks h = as-events c xs ∙ ap (lives c) h ∙ lives-commands (placed c) ks

pub port-none-twice : PortNoneTwice
port-none-twice c xs ks h t = none_twice c ks t

pub port-no-deadlock : PortNoDeadlock
port-no-deadlock c xs ks h busy =
    let z = port-reached c xs ks h in
    let k = no_deadlock c ks (rw z at busy) in
    (k.0, k.1, rw z k.2)

pub port-in-order : PortInOrder
port-in-order c xs ks h e = rw (port-reached c xs ks h) (in_order c ks e)

pub port-demand3 : PortDemand3
port-demand3 c xs before k later h first = rw (port-reached c xs (before ++ k ∷ later) h) (demand3-of-record c before k later first)

-- ---- an old name
other-use : (row : List Call) (r u : ℕ) → ((record_at row r).use_number ≡ u → ⊥) → named row r u ≡ false
other-use row r u ne = ap (λ (b : Bool). ltb r (length row) && (not (is_free (record_at row r)) && b)) (ne_eqb _ _ ne) ∙ simp and-false

by-named : (row : List Call) (r u : ℕ) (k : Command) → ltb 1024 (length row) ≡ false → named row r u ≡ false → turn row (command r u k) ≡ refuses NoSuchCall row
by-named row r u k short f = rw (short, f)

-- in use and of this number: the name fits
by_name : (row : List Call) (r u : ℕ) (k : Command) → ltb 1024 (length row) ≡ false → ltb r (length row) ≡ true → not (is_free (record_at row r)) ≡ true → eqb (record_at row r).use_number u ≡ true
    → turn row (command r u k) ≡ put row r (step (record_at row r) k)
by_name row r u k short inside busy fits = rw (short, inside, busy, fits)

pub old-names : OldNames
old-names row acts r short within fits some few = record {
  refused = λ fewer k.
      by-named (turns row acts) r (record_at row r).use_number k (le-ltb _ _ (subst (λ (l : ℕ). l ≤ 1024) (sym (turns-length row acts)) short))
      (other-use (turns row acts) r (record_at row r).use_number (λ same. absurd (omega (arith, fewer, (uses_come_round row acts r within fits some few).0 same))));
  again = (uses_come_round row acts r within fits some few).1;
  fits = λ all busy k.
      by_name (turns row acts) r (record_at row r).use_number k (le-ltb _ _ (subst (λ (l : ℕ). l ≤ 1024) (sym (turns-length row acts)) short))
      (lt-ltb _ _ (subst (λ (l : ℕ). r < l) (sym (turns-length row acts)) within)) (held-true _ busy) (eq-eqb _ _ ((uses_come_round row acts r within fits some few).1 all));
}
