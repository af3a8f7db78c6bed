-- Rows: proofs of what specs/Teardown.antt says of them. Assumes nothing.
use Prim.Native.Nat.{ℕ, zero, suc, ◌+◌, ◌%◌, ◌<◌}
use mathlib.Core.Path.{◌≡◌, refl, sym, ap, ◌∙◌}
use mathlib.Core.Bool.{Bool, true, false, cond, not, ◌&&◌, ◌||◌, and-true, and-false}
use mathlib.Core.List.{List, [], ◌∷◌, ◌++◌, map}
use mathlib.Core.Logic.{◌≢◌}
use lib.ListN.{length, set, length-set, replicate}
use lib.Seq.{get_or-set_same, get_or-set_other}
use borrow.Author.Tests.{eqb-true, eqb-false, ltb-true, eq-eqb}
use lib.Dec.{T, T_not, ltb, eqb, ltb→lt, lt→ltb}
use native.Mathlib.Omega.{arith}
use native.Mathlib.Nat.{mod-add-mod}
use Rattle.refusal.specs.declared.Refusal.TheVariants.{NoSuchCall, NoFreeRecord, RowTooLong}
use Rattle.call.specs.declared.Call.{Call}
use Rattle.call.specs.declared.Command.{Command}
use Rattle.ends.specs.declared.Side.{Side}
use Rattle.ends.specs.declared.Side.TheVariants.{Caller, Callee}
use Rattle.call.specs.declared.Command.TheVariants.{Accept, Busy, Unobtainable, Send, Teardown as Hang-up, Deliver}
use Rattle.ends.specs.declared.Status.{Status}
use Rattle.ends.specs.declared.Signal.{Signal}
use Rattle.ends.specs.declared.Signal.TheVariants.{Ordinary}
use Rattle.ends.specs.Ends.{fits}
use Rattle.call.specs.Protocol.{end_of, waiting, is_free, step, number_in, next_use, placed, cleared}
use Rattle.call.specs.History.{allows, after}
use Rattle.call.specs.Row.{Act, place, command, placed_at, says, Turn, record_at, lowest_free, named, refuses, place_at, put, turn, turns, number_of_reply, granted, Event, placing, doing, happen, lives, places_in, own_of, own, placings, use_after}
use Rattle.teardown.specs.Teardown.{ByItsOwn, AnswersOwn, PlacedLowest, Placing, ClearedRow, Came, still_free, by_placing, EachCame, Never17InRow, NeverUnfitInRow, Reached, ReachedByName, NoDeadlockInRow, InOrderInRow, Demand3InRow, UseByPlacings, UsesComeRound}
use Rattle.teardown.proofs.Theorem.{demand3, no_deadlock, in_order, never17, never_unfit, ends_idle, refused_same, keeps_its_use, after-use, and_left, and_right, is_true}

-- A ROW KEEPS ITS LENGTH
pick-length : (n : ℕ) (b : Bool) (s t : Turn) → length s.row ≡ n → length t.row ≡ n → length (cond b s t).row ≡ n
pick-length n true s t p q = p
pick-length n false s t p q = q

turn-length : (row : List Call) (a : Act) → length (turn row a).row ≡ length row
turn-length row place =
    pick-length (length row) (ltb 1024 (length row)) _ _ refl (pick-length (length row) (ltb (lowest_free row) (length row)) _ _ (simp length-set) refl)
turn-length row (command r n k) =
    pick-length (length row) (ltb 1024 (length row)) _ _ refl (pick-length (length row) (named row r n) _ _ (simp length-set) refl)

pub turns-length : (row : List Call) (acts : List Act) → length (turns row acts) ≡ length row
turns-length row [] = refl
turns-length row (a ∷ acts) = turns-length (turn row a).row acts ∙ turn-length row a

-- WHAT AN ACT DOES TO RECORD r
does-set : (r r' : ℕ) (row : List Call) (x : Event) (e : Bool) → r < length row → eqb r r' ≡ e
    → record_at (set row r' (happen (record_at row r') x)) r ≡ lives (record_at row r) (cond e (x ∷ []) [])
does-set r r' row x true h p = rw (← (eqb-true r r' p)) (get_or-set_same row r (happen (record_at row r) x) cleared h)
does-set r r' row x false h p = get_or-set_other row r' r (happen (record_at row r') x) cleared (eqb-false r r' p)

module _ (r : ℕ) (row : List Call) (h : r < length row) where
  does-place : (b d : Bool)
      → record_at (cond b (refuses RowTooLong row) (cond d (place_at row (lowest_free row)) (refuses NoFreeRecord row))).row r
      ≡ lives (record_at row r) (cond (places_in r (cond b (refuses RowTooLong row) (cond d (place_at row (lowest_free row)) (refuses NoFreeRecord row))).reply) (placing ∷ []) [])
  does-place true d = refl
  does-place false false = refl
  does-place false true = does-set r (lowest_free row) row placing (eqb r (lowest_free row)) h refl

  does-command : (r' : ℕ) (k : Command) (b d : Bool)
      → record_at (cond b (refuses RowTooLong row) (cond d (put row r' (step (record_at row r') k)) (refuses NoSuchCall row))).row r
      ≡ lives (record_at row r) (cond (eqb r r' && (not b && d)) (doing k ∷ []) [])
  does-command r' k true d = simp and-false
  does-command r' k false false = simp and-false
  does-command r' k false true = simp and-true (does-set r r' row (doing k) (eqb r r') h refl)

  does : (a : Act) → record_at (turn row a).row r ≡ lives (record_at row r) (own_of r row a)
  does place = does-place (ltb 1024 (length row)) (ltb (lowest_free row) (length row))
  does (command r' n k) = does-command r' k (ltb 1024 (length row)) (named row r' n)

pub lives-append : (c : Call) (xs ys : List Event) → lives c (xs ++ ys) ≡ lives (lives c xs) ys
lives-append c [] ys = refl
lives-append c (x ∷ xs) ys = lives-append (happen c x) xs ys

pub by_its_own : ByItsOwn
by_its_own row [] r h = refl
by_its_own row (a ∷ acts) r h =
    by_its_own (turn row a).row acts r (omega (arith, turn-length row a))
    ∙ ap (λ z. lives z (own r (turn row a).row acts)) (does r row h a)
    ∙ sym (lives-append (record_at row r) (own_of r row a) (own r (turn row a).row acts))

-- A COMMAND IS ANSWERED BY ITS RECORD
answers_by : (row : List Call) (r : ℕ) (k : Command) (b d : Bool) → T (not b) → T d
    → (cond b (refuses RowTooLong row) (cond d (put row r (step (record_at row r) k)) (refuses NoSuchCall row))).reply ≡ says (step (record_at row r) k).answer
answers_by row r k true d h g = absurd h
answers_by row r k false true h g = refl
answers_by row r k false false h g = absurd g

pub answers_own : AnswersOwn
answers_own row r n k h g = answers_by row r k (ltb 1024 (length row)) (named row r n) h g

-- A PLACING
module _ (c : Call) (n : ℕ) (cs : List Call) where
  free-at : (b : Bool) → is_free c ≡ b → (n < length cs → T (is_free (record_at cs n)))
      → cond b 0 (suc n) < suc (length cs) → T (is_free (record_at (c ∷ cs) (cond b 0 (suc n))))
  free-at true e f h = rw e tt
  free-at false e f h = f (omega arith)

  lower-at : (b : Bool) → is_free c ≡ b → ((j : ℕ) → j < n → T (not (is_free (record_at cs j))))
      → (j : ℕ) → j < cond b 0 (suc n) → T (not (is_free (record_at (c ∷ cs) j)))
  lower-at true e f j h = absurd (omega arith)
  lower-at false e f zero h = rw e tt
  lower-at false e f (suc j) h = f j (omega arith)

free-at-lowest : (row : List Call) → lowest_free row < length row → T (is_free (record_at row (lowest_free row)))
free-at-lowest [] h = absurd (omega arith)
free-at-lowest (c ∷ cs) h = free-at c (lowest_free cs) cs (is_free c) refl (λ g. free-at-lowest cs g) h

none-lower : (row : List Call) (j : ℕ) → j < lowest_free row → T (not (is_free (record_at row j)))
none-lower [] j h = absurd (omega arith)
none-lower (c ∷ cs) j h = lower-at c (lowest_free cs) cs (is_free c) refl (none-lower cs) j h

placed-lowest : (row : List Call) → lowest_free row < length row → PlacedLowest row (lowest_free row) (next_use (record_at row (lowest_free row)).use_number) (set row (lowest_free row) (placed (record_at row (lowest_free row))))
placed-lowest row h =
    let r : ℕ = lowest_free row in
    record {
      inside = h;
      free = free-at-lowest row h;
      lower = none-lower row;
      there = get_or-set_same row r (placed (record_at row r)) cleared h;
      number = sym (ap (λ (c : Call). c.use_number) (get_or-set_same row r (placed (record_at row r)) cleared h));
      others = λ j n. get_or-set_other row r j (placed (record_at row r)) cleared n;
      same_length = simp length-set;
    }

placing-by : (row : List Call) (r n : ℕ) (b d : Bool) → ltb (lowest_free row) (length row) ≡ d
    → (cond b (refuses RowTooLong row) (cond d (place_at row (lowest_free row)) (refuses NoFreeRecord row))).reply ≡ placed_at r n
    → PlacedLowest row r n (cond b (refuses RowTooLong row) (cond d (place_at row (lowest_free row)) (refuses NoFreeRecord row))).row
placing-by row r n true d e h = let z : ◌≡◌ {A = ℕ} 0 1 = cc in absurd (omega arith)
placing-by row r n false false e h = let z : ◌≡◌ {A = ℕ} 0 1 = cc in absurd (omega arith)
placing-by row r n false true e h =
    let p : lowest_free row ≡ r = cc in
    let q : next_use (record_at row (lowest_free row)).use_number ≡ n = cc in
    rw (← q, ← p) (placed-lowest row (ltb-true (lowest_free row) (length row) e))

pub placing-law : Placing
placing-law row r n h = placing-by row r n (ltb 1024 (length row)) (ltb (lowest_free row) (length row)) refl h

pub lives-commands : (c : Call) (ks : List Command) → lives c (map doing ks) ≡ after c ks
lives-commands c [] = refl
lives-commands c (k ∷ ks) = lives-commands (step c k).call ks

-- EVERY RECORD CAME BY ITS LAST PLACING, or is as it was
data Split (xs : List Event) : Type 0 where
  all-commands : (ks : List Command) → xs ≡ map doing ks → Split xs
  last-placing : (ys : List Event) (ks : List Command) → xs ≡ ys ++ placing ∷ map doing ks → Split xs

split-cons : (x : Event) {xs : List Event} → Split xs → Split (x ∷ xs)
split-cons placing (all-commands ks e) = last-placing [] ks (ap (◌∷◌ placing) e)
split-cons placing (last-placing ys ks e) = last-placing (placing ∷ ys) ks (ap (◌∷◌ placing) e)
split-cons (doing k) (all-commands ks e) = all-commands (k ∷ ks) (ap (◌∷◌ (doing k)) e)
split-cons (doing k) (last-placing ys ks e) = last-placing (doing k ∷ ys) ks (ap (◌∷◌ (doing k)) e)

split : (xs : List Event) → Split xs
split [] = all-commands [] refl
split (x ∷ xs) = split-cons x (split xs)

free_stays : (c : Call) (ks : List Command) → T (is_free c) → after c ks ≡ c
free_stays c [] f = refl
free_stays c (k ∷ ks) f = ap (λ y. after y ks) (refused_same c k (ends_idle c k f)) ∙ free_stays c ks f

came : (c : Call) (xs : List Event) → T (is_free c) → Split xs → Came c xs (lives c xs)
came c xs f (all-commands ks e) = still_free ks e (ap (lives c) e ∙ lives-commands c ks ∙ free_stays c ks f)
came c xs f (last-placing ys ks e) =
    by_placing ys ks e (ap (lives c) e ∙ lives-append c ys (placing ∷ map doing ks) ∙ lives-commands (placed (lives c ys)) ks)

pub each_came : EachCame
each_came row f acts r h = rw (by_its_own row acts r h) (came (record_at row r) (own r row acts) (f r h) (split (own r row acts)))

cleared_at : (n r : ℕ) → T (is_free (record_at (replicate n cleared) r))
cleared_at zero r = tt
cleared_at (suc n) zero = tt
cleared_at (suc n) (suc r) = cleared_at n r

pub cleared_row : ClearedRow
cleared_row n r h = cleared_at n r

-- 17 NEVER OCCURS
-- a record that came from c
answers-not-17 : {c z : Call} {xs : List Event} (k : Command) → (z ≡ c → number_in (step z k).answer ≢ 17) → Came c xs z → number_in (step z k).answer ≢ 17
answers-not-17 k f (still_free ks e p) = f p
answers-not-17 {c} k f (by_placing ys ks e p) = rw p (never17 (lives c ys) ks k)

-- a record that began cleared
cleared-not-17 : (k : Command) → number_in (step cleared k).answer ≢ 17
cleared-not-17 Accept = λ p. omega arith
cleared-not-17 Busy = λ p. omega arith
cleared-not-17 Unobtainable = λ p. omega arith
cleared-not-17 (Send Caller t x) = λ p. omega arith
cleared-not-17 (Send Callee t x) = λ p. omega arith
cleared-not-17 (Hang-up Caller) = λ p. omega arith
cleared-not-17 (Hang-up Callee) = λ p. omega arith
cleared-not-17 (Deliver Caller) = λ p. omega arith
cleared-not-17 (Deliver Callee) = λ p. omega arith

pub lived-not-17 : (xs : List Event) (k : Command) → number_in (step (lives cleared xs) k).answer ≢ 17
lived-not-17 xs k = answers-not-17 k (λ p. rw p (cleared-not-17 k)) (came cleared xs tt (split xs))

-- a row
place-not-17 : (row : List Call) (b d : Bool)
    → number_of_reply (cond b (refuses RowTooLong row) (cond d (place_at row (lowest_free row)) (refuses NoFreeRecord row))).reply ≢ 17
place-not-17 row true d = λ p. omega arith
place-not-17 row false true = λ p. omega arith
place-not-17 row false false = λ p. omega arith

command-not-17 : (row : List Call) (r n : ℕ) (k : Command) → (r < length row → T (not (is_free (record_at row r))) → number_in (step (record_at row r) k).answer ≢ 17) → (b d : Bool) → named row r n ≡ d
    → number_of_reply (cond b (refuses RowTooLong row) (cond d (put row r (step (record_at row r) k)) (refuses NoSuchCall row))).reply ≢ 17
command-not-17 row r n k f true d e = λ p. omega arith
command-not-17 row r n k f false false e = λ p. omega arith
command-not-17 row r n k f false true e =
    let fits : T (not (is_free (record_at row r)) && eqb (record_at row r).use_number n) = and_right (ltb r (length row)) _ (is_true (named row r n) e) in
    f (ltb→lt r (length row) (and_left (ltb r (length row)) _ (is_true (named row r n) e))) (and_left (not (is_free (record_at row r))) _ fits)

pub turn-not-17 : (row : List Call)
    → ((r : ℕ) (k : Command) → r < length row → T (not (is_free (record_at row r))) → number_in (step (record_at row r) k).answer ≢ 17)
    → (a : Act) → number_of_reply (turn row a).reply ≢ 17
turn-not-17 row f place = place-not-17 row (ltb 1024 (length row)) (ltb (lowest_free row) (length row))
turn-not-17 row f (command r n k) = command-not-17 row r n k (f r k) (ltb 1024 (length row)) (named row r n) refl

unfit-not : {c z : Call} {xs : List Event} → T (is_free c) → Came c xs z → T (not (is_free z)) → (s : Side) (t : ℕ) (x : Status) (w : List Signal)
    → waiting s z ≡ Ordinary t x ∷ w → fits s false t x (end_of s z).channels ≡ true
unfit-not {z = z} f (still_free ks e p) n s t x w q = absurd (T_not (is_free z) n (rw p f))
unfit-not {c} f (by_placing ys ks e p) n s t x w q = rw p (never_unfit (lives c ys) ks s t x w (rw p at q))

-- of a record that began cleared
pub lived-fit : (xs : List Event) → T (not (is_free (lives cleared xs))) → (s : Side) (t : ℕ) (x : Status) (w : List Signal)
    → waiting s (lives cleared xs) ≡ Ordinary t x ∷ w → fits s false t x (end_of s (lives cleared xs)).channels ≡ true
lived-fit xs n s t x w q = unfit-not tt (came cleared xs tt (split xs)) n s t x w q

pub never_unfit_in_row : NeverUnfitInRow
never_unfit_in_row row f acts r h n s t x w q = unfit-not (f r h) (each_came row f acts r h) n s t x w q

pub never17_in_row : Never17InRow
never17_in_row row f acts a =
    turn-not-17 (turns row acts)
    (λ r k h busy.
    (let g : r < length row = omega (arith, turns-length row acts) in
    answers-not-17 k (λ p. absurd (T_not (is_free (record_at (turns row acts) r)) busy (rw p (f r g)))) (each_came row f acts r g)))
    a

-- A CALL IN A ROW
both : (a b : Bool) → T a → T b → T (a && b)
both true b p q = q
both false b p q = absurd p

names-it : (row : List Call) (r n : ℕ) → r < length row → T (not (is_free (record_at row r))) → (record_at row r).use_number ≡ n → T (named row r n)
names-it row r n h f e =
    both (ltb r (length row)) (not (is_free (record_at row r)) && eqb (record_at row r).use_number n) (lt→ltb r (length row) h)
    (both (not (is_free (record_at row r))) (eqb (record_at row r).use_number n) f (is_true (eqb (record_at row r).use_number n) (eq-eqb (record_at row r).use_number n e)))

-- a row in which a call was placed is not too long
short-by : (row : List Call) (r n : ℕ) (b : Bool) (t : Turn) → (cond b (refuses RowTooLong row) t).reply ≡ placed_at r n → T (not b)
short-by row r n true t h = let z : ◌≡◌ {A = ℕ} 0 1 = cc in absurd (omega arith)
short-by row r n false t h = tt

pub reached_by_name : ReachedByName
reached_by_name row r n acts ks h =
    let row' : List Call = (turn row place).row in
    let last : List Call = turns row' acts in
    let c : Call = record_at row r in
    let p = placing-law row r n h.places in
    let len : length last ≡ length row = turns-length row' acts ∙ turn-length row place in
    let z : record_at last r ≡ after (placed c) ks =
    by_its_own row' acts r (omega (arith, turn-length row place, p.inside))
    ∙ ap (λ y. lives y (own r row' acts)) p.there
    ∙ ap (lives (placed c)) h.own_commands
    ∙ lives-commands (placed c) ks in
    let u : (record_at last r).use_number ≡ n =
    ap (λ (y : Call). y.use_number) z ∙ after-use (placed c) ks ∙ sym (p.number ∙ ap (λ (y : Call). y.use_number) p.there) in
    let short : T (not (ltb 1024 (length row))) = short-by row r n (ltb 1024 (length row)) _ h.places in
    record {
      record_is = z;
      answers = λ f k. answers_own last r n k (rw len short) (names-it last r n (omega (arith, len, p.inside)) f u);
    }

-- what the record accepts is accepted by name
by_name : {row : List Call} {r n : ℕ} {acts : List Act} {ks : List Command} → Reached row r n acts ks
    → T (not (is_free (record_at (turns row (place ∷ acts)) r))) → (k : Command) → T (allows (record_at (turns row (place ∷ acts)) r) k)
    → T (granted (turn (turns row (place ∷ acts)) (command r n k)).reply)
by_name g f k t = rw (g.answers f k) t

pub no_deadlock_in_row : NoDeadlockInRow
no_deadlock_in_row row r n acts ks h f =
    let g = reached_by_name row r n acts ks h in
    let w = no_deadlock (record_at row r) ks (rw g.record_is at f) in
    (w.0, w.1, by_name g f w.0 (rw g.record_is w.2))

pub in_order_in_row : InOrderInRow
in_order_in_row row r n acts ks h s = rw (reached_by_name row r n acts ks h).record_is (in_order (record_at row r) ks s)

-- THE THIRD DEMAND IN A ROW
one_side : (c : Call) (a b : Bool) → allows c (Deliver Caller) ≡ a → allows c (Deliver Callee) ≡ b → T (a || b) → (s : Side) × T (allows c (Deliver s))
one_side c true b p q t = (Caller, is_true (allows c (Deliver Caller)) p)
one_side c false true p q t = (Callee, is_true (allows c (Deliver Callee)) q)
one_side c false false p q t = absurd t

pub demand3_in_row : Demand3InRow
demand3_in_row row r n acts before k later h =
    let z : Call = record_at (turns row (place ∷ acts)) r in
    let g = reached_by_name row r n acts (before ++ k ∷ later) h.call_in in
    let d = demand3 (record_at row r) before k later h.first in
    record {
      closes = rw g.record_is d;
      moves_by_name =
          λ f.
          (let w = one_side z (allows z (Deliver Caller)) (allows z (Deliver Callee)) refl refl (rw g.record_is (d.moves (rw g.record_is at f))) in
          (w.0, by_name g f (Deliver w.0) w.1));
    }

-- THE USE NUMBER COMES ROUND
use-next : (k n : ℕ) → use_after k (next_use n) ≡ use_after (suc k) n
use-next zero n = refl
use-next (suc k) n = ap next_use (use-next k n)

pub use_by_placings : UseByPlacings
use_by_placings c [] = refl
use_by_placings c (placing ∷ xs) = use_by_placings (placed c) xs ∙ use-next (placings xs) c.use_number
use_by_placings c (doing k ∷ xs) = use_by_placings (step c k).call xs ∙ ap (use_after (placings xs)) (keeps_its_use c k)

use-after : (k n : ℕ) → n < 65536 → use_after k n ≡ (n + k) % 65536
use-after zero n h = omega arith
use-after (suc k) n h =
    ap (λ m. (m + 1) % 65536) (use-after k n h) ∙ mod-add-mod (n + k) 65536 1 ∙ ap (λ m. m % 65536) (omega arith)

pub uses_come_round : UsesComeRound
uses_come_round row acts r h n p q =
    let xs : List Event = own r row acts in
    let u : (record_at (turns row acts) r).use_number ≡ use_after (placings xs) (record_at row r).use_number =
    ap (λ (c : Call). c.use_number) (by_its_own row acts r h) ∙ use_by_placings (record_at row r) xs in
    let v = use-after (placings xs) (record_at row r).use_number n in
    (λ e. omega (arith, u, v), λ e. omega (arith, u, v))
