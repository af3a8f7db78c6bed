-- How far reading came, whatever the bytes: the fields that it passed are those of the plan so far. So bytes that are accepted are the file of what was read (F14).
-- Assumes nothing.
use Rattle.std.specs.Prelude.{Some, Result, Ok, Err, ⊤}
use mathlib.Core.Path.{◌≡◌, refl, sym, ap, ◌∙◌}
use mathlib.Core.Logic.{◌⊎◌, inl, inr, ⊎_elim}
use mathlib.Core.Bool.{Bool, true, false, not, ◌&&◌, cond, true≢false}
use mathlib.Core.List.{List, [], ◌∷◌, ◌++◌, append_assoc, append-nil}
use Prim.Native.Nat.{ℕ, zero, suc, ◌+◌, ◌-◌, ◌*◌, ◌/◌, ◌^◌, ◌≤◌, min}
use native.Mathlib.Omega.{arith}
use lib.Dec.{eqb, ltb, leb}
use lib.ListN.{length, replicate, length-append}
use borrow.Author.Tests.{eqb-true, eqb-false, le-leb, ne_eqb}
use Rattle.typeset.specs.Sets.{every}
use Rattle.typeset.proofs.Bools.{yes_or_no, and-make}
use Rattle.typeset.proofs.Below.{every-none, every_more}
use Rattle.refusal.specs.declared.Refusal.{Refusal}
use Rattle.refusal.specs.declared.Refusal.TheVariants.{WrongEnd, WrongTag, WrongLength, RuleBroken, TooManySubscribers}
use Rattle.refusal.specs.Numbers.{place_of}
use Rattle.plan.specs.declared.Types.{Types}
use Rattle.plan.specs.declared.Subscriber.{Subscriber}
use Rattle.plan.specs.declared.Plan.{Plan}
use Rattle.plan.specs.Sound.{types_sound, source_sound, target_sound, subscriber_sound, sound}
use Rattle.planbytes.specs.Numbers.{high, number, Below}
use Rattle.planbytes.specs.Format.{field, version_body, sets_of, types_body, order_body, subscriber_body, subscriber_fields, head_fields, end_field, bytes_of}
use Rattle.planbytes.proofs.Lengths.{field-length}
use Rattle.planbytes.proofs.Rounds.{high-number, below-drop}
use Rattle.planread.specs.Reading.{plan_of, blank_plan, tag_of, length_of, body_of, after, types_in, order_in, subscriber_in, allowed, ever_long, header, entered, kept, ended, read_from, read_of}
use Rattle.plan.specs.Parts.{no_subscriber}
use Rattle.planread.proofs.Places.{every-alike}
use Rattle.planread.proofs.Steps.{header-passed, read-refused, read-broken, read-on, read-end, version-next, types-next, source-next, target-next, end-next, subscriber-next}
use Rattle.planfile.specs.Typed.{TypedSubscriber, AllTyped, Typed}
use Rattle.planfile.proofs.Bodies.{types-back, types-fit, order-back, order-fits, order-rows, subscriber-back, subscriber-fits}
use Rattle.planfile.proofs.Passing.{body-size, body_below, field_back}
use Rattle.planfile.proofs.States.{filled, state, filled-length, filled-set, filled-alike, filled-take, filled-rest}

-- ---- what the four fixed fields said
pub record HeadRead (t : Types) (source target : List ℕ) : Type 0 where
  pub sets_fit : Below (2 ^ 32) (sets_of t)
  pub types-ok : types_sound t ≡ true
  pub source_fits : Below (2 ^ 32) source
  pub source_rows : length source ≡ 32
  pub source_ok : source_sound t source ≡ true
  pub target_fits : Below (2 ^ 32) target
  pub target_rows : length target ≡ 32
  pub target_ok : target_sound t source target ≡ true

-- the stage, the plan so far, and the bytes so far
pub data Reached : ℕ → Plan → List ℕ → Type 0 where
  at_start : Reached 0 blank_plan []
  at_types : Reached 1 blank_plan (field 1 version_body)
  at_source : (t : Types) → Below (2 ^ 32) (sets_of t) → types_sound t ≡ true
      → Reached 2 (plan_of t (replicate 32 0) (replicate 32 0) (replicate 256 no_subscriber) 0) (field 1 version_body ++ field 2 (types_body t))
  at_target : (t : Types) (source : List ℕ) → Below (2 ^ 32) (sets_of t) → types_sound t ≡ true → Below (2 ^ 32) source → length source ≡ 32 → source_sound t source ≡ true
      → Reached 3 (plan_of t source (replicate 32 0) (replicate 256 no_subscriber) 0) (field 1 version_body ++ field 2 (types_body t) ++ field 3 (order_body source))
  at_subscribers : (t : Types) (source target : List ℕ) (xs : List Subscriber) → HeadRead t source target → length xs ≤ 256 → AllTyped xs
      → every (length xs) (subscriber_sound t (filled xs)) ≡ true → Reached 4 (state t source target xs) (head_fields t source target ++ subscriber_fields xs)

move : {stage : ℕ} {q : Plan} {pre pre' : List ℕ} → pre ≡ pre' → Reached stage q pre → Reached stage q pre'
move e x = rw e at x

pub none-typed : AllTyped []
unfolding AllTyped
none-typed = tt

-- ---- a field that is passed

fields-last : (xs : List Subscriber) (s : Subscriber) → subscriber_fields (xs ++ (s ∷ [])) ≡ subscriber_fields xs ++ field 5 (subscriber_body s)
unfolding subscriber_fields
fields-last [] s = append-nil (field 5 (subscriber_body s))
fields-last (x ∷ xs) s = ap (λ (l : List ℕ). field 5 (subscriber_body x) ++ l) (fields-last xs s) ∙ sym (append_assoc (field 5 (subscriber_body x)) (subscriber_fields xs) (field 5 (subscriber_body s)))

typed-last : (xs : List Subscriber) (s : Subscriber) → AllTyped xs → TypedSubscriber s → AllTyped (xs ++ (s ∷ []))
unfolding AllTyped
typed-last [] s p q = (q, tt)
typed-last (x ∷ xs) s p q = (p.0, typed-last xs s p.1 q)

-- a plan of these parts is a sound one
pub state-sound : (t : Types) (source target : List ℕ) (xs : List Subscriber) → HeadRead t source target → length xs ≤ 256
    → every (length xs) (subscriber_sound t (filled xs)) ≡ true → sound (state t source target xs) ≡ true
unfolding sound
state-sound t source target xs 𝓗 few ok =
    and-make (and-make (and-make (and-make (and-make (le-leb (length xs) 256 few) 𝓗.types-ok) 𝓗.source_ok) 𝓗.target_ok) ok) (filled-rest xs)

filled-typed : (xs : List Subscriber) → AllTyped xs → AllTyped (filled xs)
unfolding filled AllTyped Below
filled-typed xs p = both xs (256 - length xs) p
  where
    empties : (n : ℕ) → AllTyped (replicate n no_subscriber)
    empties zero = tt
    empties (suc n) = (record { kind_fits = omega arith; fixed_fit = (omega arith, (omega arith, (omega arith, tt))); boxes_fit = (omega arith, (omega arith, (omega arith, (omega arith, tt)))); four_boxes = refl }, empties n)

    both : (xs : List Subscriber) (n : ℕ) → AllTyped xs → AllTyped (xs ++ replicate n no_subscriber)
    both [] n p = empties n
    both (x ∷ xs) n p = (p.0, both xs n p.1)

pub state-typed : (t : Types) (source target : List ℕ) (xs : List Subscriber) → HeadRead t source target → length xs ≤ 256 → AllTyped xs → Typed (state t source target xs)
state-typed t source target xs 𝓗 few p =
    record {
      sets_fit = 𝓗.sets_fit;
      source_fits = 𝓗.source_fits;
      source_rows = 𝓗.source_rows;
      target_fits = 𝓗.target_fits;
      target_rows = 𝓗.target_rows;
      each_fits = filled-typed xs p;
      places = filled-length xs few;
    }

pub state-bytes : (t : Types) (source target : List ℕ) (xs : List Subscriber) → bytes_of (state t source target xs) ≡ head_fields t source target ++ subscriber_fields xs ++ end_field
unfolding bytes_of
state-bytes t source target xs = rw (filled-take xs)

module _ (at : ℕ) (left : List ℕ) (p : Below 256 left) where
  -- a subscriber that passed
  subscriber-on : (t : Types) (source target : List ℕ) (xs : List Subscriber) → HeadRead t source target → length xs ≤ 256 → AllTyped xs
      → every (length xs) (subscriber_sound t (filled xs)) ≡ true
      → header 4 (length xs) at left ≡ Ok tt
      → kept (tag_of left) (body_of left) (entered (tag_of left) (body_of left) (state t source target xs)) ≡ true → ¬ (tag_of left ≡ 127)
      → Reached 4 (entered (tag_of left) (body_of left) (state t source target xs)) (head_fields t source target ++ subscriber_fields xs ++ field (tag_of left) (body_of left))
  unfolding entered kept
  subscriber-on t source target xs 𝓗 few 𝓣 ok h k other =
      let 𝓟 = header-passed 4 (length xs) at left h in
      let 𝓝 = subscriber-next (length xs) left 𝓟 other in
      let size = body-size left p 𝓟.body in
      let boxes : (length_of left - 13) / 2 ≤ 4 = omega (arith, 𝓝.high) in
      let long : length (body_of left) ≡ 13 + 2 * ((length_of left - 13) / 2) = size ∙ omega (arith, 𝓝.low, 𝓝.odd) in
      let s : Subscriber = subscriber_in (body_of left) in
      let body = subscriber-back (body_of left) ((length_of left - 13) / 2) boxes long (body_below left p 𝓟.body) in
      let typed = subscriber-fits (body_of left) ((length_of left - 13) / 2) boxes long (body_below left p 𝓟.body) in
      let room = 𝓝.room in
      let next = filled-set xs s room in
      let back : length xs + 1 - 1 ≡ length xs = omega arith in
      let count : length xs + 1 ≡ length (xs ++ (s ∷ [])) = sym (length-append xs (s ∷ [])) in
      let sound-one : subscriber_sound t (filled (xs ++ (s ∷ []))) (length xs) ≡ true = rw (𝓝.tag, next, back) at k in
      let all : every (length (xs ++ (s ∷ []))) (subscriber_sound t (filled (xs ++ (s ∷ [])))) ≡ true =
      rw (← count) (every_more (length xs) (subscriber_sound t (filled (xs ++ (s ∷ []))))
      (sym (every-alike t (filled xs) (filled (xs ++ (s ∷ []))) (length xs) (filled-alike xs (s ∷ []))) ∙ ok) sound-one) in
      let fits : length (xs ++ (s ∷ [])) ≤ 256 = rw (← count) (omega arith) in
      let bytes : head_fields t source target ++ subscriber_fields xs ++ field 5 (body_of left) ≡ head_fields t source target ++ subscriber_fields (xs ++ (s ∷ [])) =
      append_assoc (head_fields t source target) (subscriber_fields xs) (field 5 (body_of left))
      ∙ ap (λ (l : List ℕ). head_fields t source target ++ l) (ap (λ (l : List ℕ). subscriber_fields xs ++ field 5 l) (sym body) ∙ sym (fields-last xs s)) in
      rw (𝓝.tag, next, count, bytes)
      (at_subscribers t source target (xs ++ (s ∷ [])) 𝓗 fits (typed-last xs s 𝓣 typed) all)

  -- the field is passed: the plan so far has it, and so have the bytes so far
  step-on : {stage : ℕ} {q : Plan} {pre : List ℕ} → Reached stage q pre → header stage q.count at left ≡ Ok tt
      → kept (tag_of left) (body_of left) (entered (tag_of left) (body_of left) q) ≡ true → ¬ (tag_of left ≡ 127)
      → Reached (min (stage + 1) 4) (entered (tag_of left) (body_of left) q) (pre ++ field (tag_of left) (body_of left))
  unfolding entered kept version_body blank_plan filled head_fields subscriber_fields
  step-on at_start h k other =
      let 𝓟 = header-passed 0 0 at left h in
      let is = version-next 0 left 𝓟 in
      let one : number (body_of left) ≡ 1 = eqb-true (number (body_of left)) 1 (rw is.0 at k) in
      let body : high 1 1 ≡ body_of left = ap (high 1) (sym one) ∙ high-number 1 (body_of left) (body-size left p 𝓟.body ∙ is.1) (body_below left p 𝓟.body) in
      rw is.0 (move (ap (field 1) body) at_types)
  step-on at_types h k other =
      let 𝓟 = header-passed 1 0 at left h in
      let is = types-next 0 left 𝓟 in
      let long = body-size left p 𝓟.body ∙ is.1 in
      let below = body_below left p 𝓟.body in
      rw is.0 (move (ap (λ (l : List ℕ). field 1 version_body ++ field 2 l) (types-back (body_of left) long below))
      (at_source (types_in (body_of left)) (types-fit (body_of left) long below) (rw is.0 at k)))
  step-on (at_source t fit ok) h k other =
      let 𝓟 = header-passed 2 0 at left h in
      let is = source-next 0 left 𝓟 in
      let long = body-size left p 𝓟.body ∙ is.1 in
      let below = body_below left p 𝓟.body in
      rw is.0 (move (ap (λ (l : List ℕ). field 1 version_body ++ field 2 (types_body t) ++ field 3 l) (order-back (body_of left) long below))
      (at_target t (order_in (body_of left)) fit ok (order-fits (body_of left) long below) (order-rows (body_of left)) (rw is.0 at k)))
  step-on (at_target t source fit ok source-fit rows source_ok) h k other =
      let 𝓟 = header-passed 3 0 at left h in
      let is = target-next 0 left 𝓟 in
      let long = body-size left p 𝓟.body ∙ is.1 in
      let below = body_below left p 𝓟.body in
      let 𝓗 : HeadRead t source (order_in (body_of left)) =
      record {
        sets_fit = fit;
        types-ok = ok;
        source_fits = source-fit;
        source_rows = rows;
        source_ok = source_ok;
        target_fits = order-fits (body_of left) long below;
        target_rows = order-rows (body_of left);
        target_ok = rw is.0 at k;
      } in
      rw is.0 (move (append-nil (head_fields t source (order_in (body_of left)))
      ∙ ap (λ (l : List ℕ). field 1 version_body ++ field 2 (types_body t) ++ field 3 (order_body source) ++ field 4 l) (order-back (body_of left) long below))
      (at_subscribers t source (order_in (body_of left)) [] 𝓗 (omega arith) none-typed (every-none (subscriber_sound t (filled [])))))
  step-on (at_subscribers t source target xs 𝓗 few 𝓣 ok) h k other = subscriber-on t source target xs 𝓗 few 𝓣 ok h k other

-- ---- what a refusal before the rules says of its place

pub verdict-cases : (v : (Result ⊤ Refusal)) → (v ≡ (Ok tt)) ⊎ ((r : Refusal) × (v ≡ Err r))
verdict-cases (Ok _) = inl refl
verdict-cases (Err r) = inr (r, refl)

refused-is : (v : Result ⊤ Refusal) (r s : Refusal) → ◌≡◌ {A = Result ⊤ Refusal} (Err r) (Err s) → r ≡ s
refused-is v r s e = cc

cond-place : (b : Bool) (at : ℕ) (r s : Refusal) (v : (Result ⊤ Refusal)) → place_of r ≡ Some at → (v ≡ Err s → place_of s ≡ Some at) → cond b (Err r) v ≡ Err s → place_of s ≡ Some at
cond-place true at r s v e f q = ap place_of (sym (refused-is v r s q)) ∙ e
cond-place false at r s v e f q = f q

pub header-place : (stage count at : ℕ) (left : List ℕ) (s : Refusal) → header stage count at left ≡ Err s → place_of s ≡ Some at
unfolding header
header-place stage count at left s e =
    cond-place (ltb (length left) 3) at (WrongEnd at) s _ refl (λ e.
    cond-place (not (allowed stage (tag_of left))) at (WrongTag at) s _ refl (λ e.
    cond-place (eqb (tag_of left) 5 && leb 256 count) at (TooManySubscribers at) s _ refl (λ e.
    cond-place (not (ever_long (tag_of left) (length_of left))) at (WrongLength at) s _ refl (λ e.
    cond-place (ltb (length left) (3 + length_of left)) at (WrongEnd at) s (Ok tt) refl (λ e. let z : ◌≡◌ {A = ℕ} 0 1 = cc in let no : ⊥ = omega arith in absurd no) e) e) e) e) e

-- ---- what reading finds, from any place that it reached

pub data Outcome (bs : List ℕ) : Result Plan Refusal → Type 0 where
  -- the file of a sound plan, which is the answer
  whole : (q : Plan) → Typed q → sound q ≡ true → bs ≡ bytes_of q → Outcome bs (Ok q)
  -- a refusal at the first byte of the field that it came to
  stopped : (r : Refusal) {stage : ℕ} {q : Plan} {pre : List ℕ} (left : List ℕ) → Reached stage q pre → bs ≡ pre ++ left → place_of r ≡ Some (length pre) → Outcome bs (Err r)
  -- the file of a sound plan, and bytes too many: a refusal at the first of them
  trailing : (q : Plan) (left : List ℕ) → Typed q → sound q ≡ true → bs ≡ bytes_of q ++ left → ¬ (length left ≡ 0) → Outcome bs (Err (WrongEnd (length (bytes_of q))))

empty_of : (l : List ℕ) → length l ≡ 0 → l ≡ []
empty_of [] e = refl
empty_of (x ∷ l) e = let no : ¬ (suc (length l) ≡ 0) = λ z. omega arith in absurd (no e)

end-size : length end_field ≡ 3
unfolding end_field
end-size = field-length 127 []

pub read_none : (stage : ℕ) (q : Plan) (at : ℕ) (left : List ℕ) → read_from zero stage q at left ≡ Err (TooManySubscribers at)
unfolding read_from
read_none stage q at left = refl

pub ended-none : (q : Plan) (at : ℕ) (left : List ℕ) → length left ≡ 0 → ended q at left ≡ Ok q
unfolding ended
ended-none q at left e = rw e

pub ended_some : (q : Plan) (at : ℕ) (left : List ℕ) → ¬ (length left ≡ 0) → ended q at left ≡ Err (WrongEnd at)
unfolding ended
ended_some q at left e = rw (ne_eqb (length left) 0 e)

module _ (bs left : List ℕ) (at : ℕ) (p : Below 256 left) where
  -- the end field
  end-left : 3 + length_of left ≤ length left → tag_of left ≡ 127 → length_of left ≡ 0 → left ≡ end_field ++ after left
  unfolding end_field
  end-left whole-body tag none =
      let empty : body_of left ≡ [] = empty_of (body_of left) (body-size left p whole-body ∙ none) in
      field_back left p whole-body ∙ rw (tag, empty)

  end-outcome : {stage : ℕ} {q : Plan} {pre : List ℕ} → Reached stage q pre → bs ≡ pre ++ left → at ≡ length pre
      → header stage q.count at left ≡ Ok tt → tag_of left ≡ 127 → Outcome bs (ended q (at + 3) (after left))
  unfolding blank_plan
  end-outcome at_start b l h tag = let no : ⊥ = omega (arith, (version-next 0 left (header-passed 0 0 at left h)).0) in absurd no
  end-outcome at_types b l h tag = let no : ⊥ = omega (arith, (types-next 0 left (header-passed 1 0 at left h)).0) in absurd no
  end-outcome (at_source t f o) b l h tag = let no : ⊥ = omega (arith, (source-next 0 left (header-passed 2 0 at left h)).0) in absurd no
  end-outcome (at_target t s f o g r e) b l h tag = let no : ⊥ = omega (arith, (target-next 0 left (header-passed 3 0 at left h)).0) in absurd no
  end-outcome (at_subscribers t source target xs 𝓗 few 𝓣 ok) b l h tag =
      let 𝓟 = header-passed 4 (length xs) at left h in
      let split = end-left 𝓟.body tag (end-next (length xs) left 𝓟 tag) in
      let q : Plan = state t source target xs in
      let pre : List ℕ = head_fields t source target ++ subscriber_fields xs in
      let file : bytes_of (state t source target xs) ≡ pre ++ end_field = state-bytes t source target xs in
      let all : bs ≡ bytes_of (state t source target xs) ++ after left =
      b ∙ ap (λ (z : List ℕ). pre ++ z) split ∙ sym (append_assoc pre end_field (after left)) ∙ ap (λ (z : List ℕ). z ++ after left) (sym file) in
      let size : length (bytes_of (state t source target xs)) ≡ at + 3 = ap length file ∙ length-append pre end_field ∙ rw (end-size, l) in
      let typed = state-typed t source target xs 𝓗 few 𝓣 in
      let kept-all = state-sound t source target xs 𝓗 few ok in
      ⊎_elim
      (λ (z : eqb (length (after left)) 0 ≡ true).
      let none = eqb-true (length (after left)) 0 z in
      rw (ended-none (state t source target xs) (at + 3) (after left) none)
      (whole (state t source target xs) typed kept-all (all ∙ ap (λ (z : List ℕ). bytes_of (state t source target xs) ++ z) (empty_of (after left) none) ∙ append-nil (bytes_of (state t source target xs)))))
      (λ (z : eqb (length (after left)) 0 ≡ false).
      let some = eqb-false (length (after left)) 0 z in
      rw (ended_some (state t source target xs) (at + 3) (after left) some, ← size)
      (trailing (state t source target xs) (after left) typed kept-all all some))
      (yes_or_no (eqb (length (after left)) 0))

pub outcome : (n : ℕ) {stage : ℕ} {q : Plan} {pre : List ℕ} (bs left : List ℕ) (at : ℕ) → Reached stage q pre → bs ≡ pre ++ left → at ≡ length pre → Below 256 left
    → Outcome bs (read_from n stage q at left)
unfolding after
outcome zero {stage} {q} bs left at 𝓡 b l p = rw (read_none stage q at left) (stopped (TooManySubscribers at) left 𝓡 b (ap Some l))
outcome (suc n) {stage} {q} {pre} bs left at 𝓡 b l p =
    ⊎_elim
    (λ (h : header stage q.count at left ≡ (Ok tt)).
    ⊎_elim
    (λ (k : kept (tag_of left) (body_of left) (entered (tag_of left) (body_of left) q) ≡ true).
    ⊎_elim
    (λ (z : eqb (tag_of left) 127 ≡ true).
    let tag = eqb-true (tag_of left) 127 z in
    rw (read-end n stage q at left h k tag) (end-outcome bs left at p 𝓡 b l h tag))
    (λ (z : eqb (tag_of left) 127 ≡ false).
    let other = eqb-false (tag_of left) 127 z in
    let 𝓟 = header-passed stage q.count at left h in
    let size = body-size left p 𝓟.body in
    let F : List ℕ = field (tag_of left) (body_of left) in
    let long : length F ≡ 3 + length_of left = field-length (tag_of left) (body_of left) ∙ ap (λ (m : ℕ). 3 + m) size in
    rw (read-on n stage q at left h k other)
    (outcome n bs (after left) (at + (3 + length_of left)) (step-on at left p 𝓡 h k other)
    (b ∙ ap (λ (z : List ℕ). pre ++ z) (field_back left p 𝓟.body) ∙ sym (append_assoc pre F (after left)))
    (sym (length-append pre F ∙ rw (long, l)))
    (below-drop 256 (3 + length_of left) left p)))
    (yes_or_no (eqb (tag_of left) 127)))
    (λ (k : kept (tag_of left) (body_of left) (entered (tag_of left) (body_of left) q) ≡ false).
    rw (read-broken n stage q at left h k) (stopped (RuleBroken at) left 𝓡 b (ap Some l)))
    (yes_or_no (kept (tag_of left) (body_of left) (entered (tag_of left) (body_of left) q))))
    (λ (h : (r : Refusal) × (header stage q.count at left ≡ Err r)).
    rw (read-refused n stage q at left h.1) (stopped h.0 left 𝓡 b (header-place stage q.count at left h.0 h.1 ∙ ap Some l)))
    (verdict-cases (header stage q.count at left))

-- whatever the bytes
pub reads : (bs : List ℕ) → Below 256 bs → Outcome bs (read_of bs)
unfolding read_of
reads bs p = outcome 261 bs bs 0 at_start refl refl p

-- ---- F14: bytes that are accepted are the file of the plan that was read, and that plan is sound

pub record File (bs : List ℕ) (q : Plan) : Type 0 where
  pub typed : Typed q
  pub kept-all : sound q ≡ true
  pub bytes : bytes_of q ≡ bs

same-plan : (a b : Plan) → ◌≡◌ {A = Result Plan Refusal} (Ok a) (Ok b) → a ≡ b
same-plan a b e = cc

pub never : (r : Refusal) (b : Plan) → ◌≡◌ {A = Result Plan Refusal} (Err r) (Ok b) → ⊥
never r b e = let z : ◌≡◌ {A = ℕ} 0 1 = cc in omega (arith, z)

file-of : (bs : List ℕ) (x : Result Plan Refusal) (q : Plan) → Outcome bs x → x ≡ Ok q → File bs q
file-of bs x q (whole a t s b) e = let f : File bs a = record { typed = t; kept-all = s; bytes = sym b } in rw (same-plan a q e) at f
file-of bs x q (stopped r left 𝓡 b l) e = absurd (never r q e)
file-of bs x q (trailing a left t s b n) e = absurd (never (WrongEnd (length (bytes_of a))) q e)

pub back-and-there : (bs : List ℕ) → Below 256 bs → (q : Plan) → read_of bs ≡ Ok q → File bs q
back-and-there bs p q e = file-of bs (read_of bs) q (reads bs p) e
