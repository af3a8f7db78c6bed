-- The place of a refusal: up to it the bytes are the first fields, whole, of a sound plan's file, and up to no later place are they. Assumes nothing.
use Rattle.std.specs.Prelude.{Some, Ok, Err, Result}
use mathlib.Core.Path.{◌≡◌, refl, sym, ap, ◌∙◌}
use mathlib.Core.Logic.{⊎_elim}
use mathlib.Core.Bool.{true, false}
use mathlib.Core.List.{List, [], ◌∷◌, ◌++◌, map, append_assoc, append-nil}
use Prim.Native.Nat.{ℕ, zero, suc, ◌+◌, ◌-◌, ◌^◌, ◌≤◌, ◌<◌, min}
use native.Mathlib.Omega.{arith}
use lib.Dec.{eqb, ltb}
use lib.ListN.{length, take, replicate, length-append, length-map}
use lib.Seq.{take_all, take-append-le, take-take}
use borrow.Author.Tests.{eqb-true, eqb-false}
use Rattle.typeset.specs.Sets.{has, every, within, meet, set_of}
use Rattle.typeset.proofs.Bools.{yes_or_no}
use Rattle.typeset.proofs.Below.{every-none}
use Rattle.typeset.proofs.Laws.{split}
use Rattle.refusal.specs.declared.Refusal.{Refusal}
use Rattle.refusal.specs.declared.Refusal.TheVariants.{WrongEnd, RuleBroken, TooManySubscribers}
use Rattle.refusal.specs.Numbers.{place_of}
use Rattle.plan.specs.declared.Types.{Types}
use Rattle.plan.specs.declared.Subscriber.{Subscriber}
use Rattle.plan.specs.declared.Plan.{Plan}
use Rattle.plan.specs.Rules.{types_exist, reversible_in_both, bound_in_both}
use Rattle.plan.specs.Sound.{types_sound, source_sound, subscriber_sound, sound}
use Rattle.plan.proofs.Laws.{types-kept, source-kept}
use Rattle.planbytes.specs.Numbers.{Below}
use Rattle.planbytes.specs.Format.{field, version_body, sets_of, types_body, order_body, subscriber_body, subscriber_fields, head_fields, end_field, bytes_of}
use Rattle.planbytes.proofs.Lengths.{high-length, field-length, types-length, order-length, head-length}
use Rattle.planread.specs.Reading.{no_types, blank_plan, tag_of, length_of, body_of, after, header, entered, kept, ended, read_from, read_of}
use Rattle.planread.proofs.Steps.{read-refused, read-broken, read-on, read-end}
use Rattle.planfile.specs.Typed.{Typed}
use Rattle.planfile.specs.Beginning.{fields_of, joined, Follows}
use Rattle.planfile.proofs.States.{filled, state, filled-take, used-length}
use Rattle.planfile.proofs.There.{read-version, read-types, read-source, read-used, read-file}
use Rattle.planfile.proofs.Back.{HeadRead, Reached, at_start, at_types, at_source, at_target, at_subscribers, none-typed, state-sound, state-typed, verdict-cases, header-place, ended-none, ended_some, read_none, Outcome, whole, stopped, trailing, reads, never}
use Rattle.planfile.proofs.Complete.{rows_long, rows_fit, source_for, target_for, source-for, target-for}

-- ---- the fields of a file, joined

joined-one : (f : List ℕ) → joined (f ∷ []) ≡ f
unfolding joined
joined-one f = append-nil f

abbrev field_of : Subscriber → List ℕ
field_of s = field 5 (subscriber_body s)

joined-subscribers : (xs : List Subscriber) → joined (map field_of xs) ≡ subscriber_fields xs
unfolding joined subscriber_fields
joined-subscribers [] = refl
joined-subscribers (x ∷ xs) = ap (λ (l : List ℕ). field_of x ++ l) (joined-subscribers xs)

joined-append : (a b : List (List ℕ)) → joined (a ++ b) ≡ joined a ++ joined b
unfolding joined
joined-append [] b = refl
joined-append (f ∷ a) b = ap (λ (l : List ℕ). f ++ l) (joined-append a b) ∙ sym (append_assoc f (joined a) (joined b))

-- the head and any fields after it
joined-head : (p : Plan) (fs : List (List ℕ))
    → joined (field 1 version_body ∷ field 2 (types_body p.types) ∷ field 3 (order_body p.source_order) ∷ field 4 (order_body p.target_order) ∷ fs)
    ≡ head_fields p.types p.source_order p.target_order ++ joined fs
unfolding joined head_fields
joined-head p fs = simp append_assoc

map-take : (k : ℕ) (xs : List Subscriber) → take k (map field_of xs) ≡ map field_of (take k xs)
map-take zero xs = refl
map-take (suc k) [] = refl
map-take (suc k) (x ∷ xs) = ap (λ (l : List (List ℕ)). field_of x ∷ l) (map-take k xs)

-- the head and k subscribers
joined-some : (p : Plan) (k : ℕ) → k ≤ length (take p.count p.subscribers)
    → joined (take (suc (suc (suc (suc k)))) (fields_of p)) ≡ head_fields p.types p.source_order p.target_order ++ subscriber_fields (take k (take p.count p.subscribers))
unfolding fields_of
joined-some p k h =
    let fs : take k (map field_of (take p.count p.subscribers) ++ (end_field ∷ [])) ≡ map field_of (take k (take p.count p.subscribers)) =
    take-append-le k (map field_of (take p.count p.subscribers)) (end_field ∷ []) (rw (length-map (take p.count p.subscribers) field_of) h)
    ∙ map-take k (take p.count p.subscribers) in
    ap (λ (l : List (List ℕ)). joined (field 1 version_body ∷ field 2 (types_body p.types) ∷ field 3 (order_body p.source_order) ∷ field 4 (order_body p.target_order) ∷ l)) fs
    ∙ joined-head p (map field_of (take k (take p.count p.subscribers)))
    ∙ ap (λ (l : List ℕ). head_fields p.types p.source_order p.target_order ++ l) (joined-subscribers (take k (take p.count p.subscribers)))

-- all of them
-- the fields of a plan's file, one after the other, are its bytes
pub joined-all : (p : Plan) (k : ℕ) → length (take p.count p.subscribers) < k → joined (take (suc (suc (suc (suc k)))) (fields_of p)) ≡ bytes_of p
unfolding fields_of bytes_of
joined-all p k h =
    let size : length (map field_of (take p.count p.subscribers) ++ (end_field ∷ [])) ≤ k =
    rw (length-append (map field_of (take p.count p.subscribers)) (end_field ∷ []), length-map (take p.count p.subscribers) field_of) (omega arith) in
    ap (λ (l : List (List ℕ)). joined (field 1 version_body ∷ field 2 (types_body p.types) ∷ field 3 (order_body p.source_order) ∷ field 4 (order_body p.target_order) ∷ l))
    (take_all k (map field_of (take p.count p.subscribers) ++ (end_field ∷ [])) size)
    ∙ joined-head p (map field_of (take p.count p.subscribers) ++ (end_field ∷ []))
    ∙ ap (λ (l : List ℕ). head_fields p.types p.source_order p.target_order ++ l)
    (joined-append (map field_of (take p.count p.subscribers)) (end_field ∷ [])
    ∙ rw (joined-subscribers (take p.count p.subscribers), joined-one end_field))
    ∙ sym (append_assoc (head_fields p.types p.source_order p.target_order) (subscriber_fields (take p.count p.subscribers)) end_field)

-- ---- as far as reading came, the bytes follow some sound plan

no-types : types_sound no_types ≡ true
unfolding types_sound types_exist reversible_in_both bound_in_both within meet every has set_of
no-types = refl

no-sets : Below (2 ^ 32) (sets_of no_types)
unfolding Below
no-sets = (omega arith, (omega arith, (omega arith, (omega arith, (omega arith, tt)))))

head-for : (t : Types) → Below (2 ^ 32) (sets_of t) → types_sound t ≡ true → HeadRead t (source_for t) (target_for t (source_for t))
head-for t fit ok =
    record {
      sets_fit = fit;
      types-ok = ok;
      source_fits = rows_fit t.reversible ltb;
      source_rows = rows_long t.reversible ltb;
      source_ok = source-for t ok;
      target_fits = rows_fit _ _;
      target_rows = rows_long _ _;
      target_ok = target-for t ok (source_for t) (source-for t ok);
    }

head-with : (t : Types) (source : List ℕ) → Below (2 ^ 32) (sets_of t) → types_sound t ≡ true → Below (2 ^ 32) source → length source ≡ 32 → source_sound t source ≡ true
    → HeadRead t source (target_for t source)
head-with t source fit ok source-fit rows source_ok =
    record {
      sets_fit = fit;
      types-ok = ok;
      source_fits = source-fit;
      source_rows = rows;
      source_ok = source_ok;
      target_fits = rows_fit _ _;
      target_rows = rows_long _ _;
      target_ok = target-for t ok source source_ok;
    }

-- a plan with these parts and no subscribers, and the first fields of its file
bare-follows : (t : Types) (source target : List ℕ) → HeadRead t source target → (bs pre left : List ℕ) (k : ℕ) → bs ≡ pre ++ left
    → joined (take k (fields_of (state t source target []))) ≡ pre → Follows bs (length pre)
bare-follows t source target 𝓗 bs pre left k b e =
    record {
      plan = state t source target [];
      plan_typed = state-typed t source target [] 𝓗 (omega arith) none-typed;
      plan_sound = state-sound t source target [] 𝓗 (omega arith) (every-none (subscriber_sound t (filled [])));
      fields = k;
      rest = left;
      begins = b ∙ ap (λ (l : List ℕ). l ++ left) (sym e);
      here = ap length e;
    }

reached-follows : {stage : ℕ} {q : Plan} {pre : List ℕ} (bs left : List ℕ) → Reached stage q pre → bs ≡ pre ++ left → Follows bs (length pre)
unfolding joined fields_of
reached-follows bs left at_start b =
    bare-follows no_types (source_for no_types) (target_for no_types (source_for no_types)) (head-for no_types no-sets no-types) bs [] left 0 b refl
reached-follows bs left at_types b =
    bare-follows no_types (source_for no_types) (target_for no_types (source_for no_types)) (head-for no_types no-sets no-types) bs (field 1 version_body) left 1 b (append-nil (field 1 version_body))
reached-follows bs left (at_source t fit ok) b =
    bare-follows t (source_for t) (target_for t (source_for t)) (head-for t fit ok) bs (field 1 version_body ++ field 2 (types_body t)) left 2 b
    (ap (λ (l : List ℕ). field 1 version_body ++ l) (append-nil (field 2 (types_body t))))
reached-follows bs left (at_target t source fit ok source-fit rows source_ok) b =
    bare-follows t source (target_for t source) (head-with t source fit ok source-fit rows source_ok) bs
    (field 1 version_body ++ field 2 (types_body t) ++ field 3 (order_body source)) left 3 b
    (simp (append-nil, append_assoc))
reached-follows bs left (at_subscribers t source target xs 𝓗 room 𝓣 ok) b =
    let used : take (length xs) (filled xs) ≡ xs = filled-take xs in
    let e : joined (take (suc (suc (suc (suc (length xs))))) (fields_of (state t source target xs))) ≡ head_fields t source target ++ subscriber_fields xs =
    joined-some (state t source target xs) (length xs) (rw used (omega arith)) ∙ rw (used, take_all (length xs) xs (omega arith)) in
    record {
      plan = state t source target xs;
      plan_typed = state-typed t source target xs 𝓗 room 𝓣;
      plan_sound = state-sound t source target xs 𝓗 room ok;
      fields = suc (suc (suc (suc (length xs))));
      rest = left;
      begins = b ∙ ap (λ (l : List ℕ). l ++ left) (sym e);
      here = ap length e;
    }

-- ---- reading from a place on refuses at no earlier place

abbrev NotBefore : ℕ → Result Plan Refusal → Type 0
NotBefore at x = (r : Refusal) (place : ℕ) → x ≡ Err r → place_of r ≡ Some place → at ≤ place

same-refusal : (r s : Refusal) → ◌≡◌ {A = Result Plan Refusal} (Err r) (Err s) → r ≡ s
same-refusal r s e = cc

same_place : (a b : ℕ) → Some a ≡ Some b → a ≡ b
same_place a b e = cc

at_place : (at : ℕ) (s : Refusal) → place_of s ≡ Some at → NotBefore at (Err s)
at_place at s p r place e q =
    let same : at ≡ place = same_place at place (sym p ∙ ap place_of (same-refusal s r e) ∙ q) in omega arith

ended-place : (p : Plan) (at : ℕ) (left : List ℕ) → NotBefore at (ended p at left)
ended-place p at left =
    ⊎_elim
    (λ (z : eqb (length left) 0 ≡ true). rw (ended-none p at left (eqb-true (length left) 0 z)) (λ r place e q. absurd (never r p (sym e))))
    (λ (z : eqb (length left) 0 ≡ false). rw (ended_some p at left (eqb-false (length left) 0 z)) (at_place at (WrongEnd at) refl))
    (yes_or_no (eqb (length left) 0))

later : (at to : ℕ) (x : Result Plan Refusal) → at ≤ to → NotBefore to x → NotBefore at x
later at to x h f r place e q = let g = f r place e q in omega arith

not-before : (n stage : ℕ) (p : Plan) (at : ℕ) (left : List ℕ) → NotBefore at (read_from n stage p at left)
not-before zero stage p at left = rw (read_none stage p at left) (at_place at (TooManySubscribers at) refl)
not-before (suc n) stage p at left =
    ⊎_elim
    (λ (h : header stage p.count at left ≡ (Ok tt)).
    ⊎_elim
    (λ (k : kept (tag_of left) (body_of left) (entered (tag_of left) (body_of left) p) ≡ true).
    ⊎_elim
    (λ (z : eqb (tag_of left) 127 ≡ true).
    rw (read-end n stage p at left h k (eqb-true (tag_of left) 127 z))
    (later at (at + 3) (ended p (at + 3) (after left)) (omega arith) (ended-place p (at + 3) (after left))))
    (λ (z : eqb (tag_of left) 127 ≡ false).
    rw (read-on n stage p at left h k (eqb-false (tag_of left) 127 z))
    (later at (at + (3 + length_of left)) (read_from n (min (stage + 1) 4) (entered (tag_of left) (body_of left) p) (at + (3 + length_of left)) (after left)) (omega arith)
    (not-before n (min (stage + 1) 4) (entered (tag_of left) (body_of left) p) (at + (3 + length_of left)) (after left))))
    (yes_or_no (eqb (tag_of left) 127)))
    (λ (k : kept (tag_of left) (body_of left) (entered (tag_of left) (body_of left) p) ≡ false).
    rw (read-broken n stage p at left h k) (at_place at (RuleBroken at) refl))
    (yes_or_no (kept (tag_of left) (body_of left) (entered (tag_of left) (body_of left) p))))
    (λ (h : (r : Refusal) × (header stage p.count at left ≡ Err r)).
    rw (read-refused n stage p at left h.1) (at_place at h.0 (header-place stage p.count at left h.0 h.1)))
    (verdict-cases (header stage p.count at left))

-- ---- bytes that begin with fields of a sound plan's file are refused behind them, if at all
module _ (p : Plan) (𝓣 : Typed p) (𝓢 : sound p ≡ true) where
  one-length : length (field 1 version_body) ≡ 4
  unfolding version_body
  one-length = field-length 1 _ ∙ rw (high-length 1 1)

  behind-all : (k : ℕ) (rest : List ℕ) → length (take p.count p.subscribers) < k
      → NotBefore (length (joined (take (suc (suc (suc (suc k)))) (fields_of p)))) (read_of (joined (take (suc (suc (suc (suc k)))) (fields_of p)) ++ rest))
  behind-all k rest l = rw (joined-all p k l, read-file p 𝓣 𝓢 rest) (ended-place p (length (bytes_of p)) rest)

  behind-some : (k : ℕ) (rest : List ℕ) → k ≤ length (take p.count p.subscribers)
      → NotBefore (length (joined (take (suc (suc (suc (suc k)))) (fields_of p)))) (read_of (joined (take (suc (suc (suc (suc k)))) (fields_of p)) ++ rest))
  behind-some k rest l =
      let head : List ℕ = head_fields p.types p.source_order p.target_order in
      let in_use : k ≤ p.count = rw (used-length p 𝓣 𝓢) at l in
      let pre : joined (take (suc (suc (suc (suc k)))) (fields_of p)) ≡ head ++ subscriber_fields (take k p.subscribers) =
      joined-some p k l ∙ ap (λ (z : List Subscriber). head ++ subscriber_fields z) (take-take k p.count p.subscribers in_use) in
      let size : length (head ++ subscriber_fields (take k p.subscribers)) ≡ 289 + length (subscriber_fields (take k p.subscribers)) =
      length-append head (subscriber_fields (take k p.subscribers))
      ∙ ap (λ (n : ℕ). n + length (subscriber_fields (take k p.subscribers))) (head-length p.types p.source_order p.target_order 𝓣.source_rows 𝓣.target_rows) in
      rw (pre, size, append_assoc head (subscriber_fields (take k p.subscribers)) rest, read-used p 𝓣 𝓢 k rest in_use)
      (not-before (257 - k) 4 _ (289 + length (subscriber_fields (take k p.subscribers))) rest)

  behind : (k : ℕ) (rest : List ℕ) → NotBefore (length (joined (take k (fields_of p)))) (read_of (joined (take k (fields_of p)) ++ rest))
  unfolding fields_of joined read_of
  behind zero rest = λ r place e q. omega arith
  behind (suc zero) rest =
      let size : length (field 1 version_body ++ []) ≡ 4 = ap length (append-nil (field 1 version_body)) ∙ one-length in
      rw (size, append-nil (field 1 version_body), read-version rest) (not-before 260 1 blank_plan 4 rest)
  behind (suc (suc zero)) rest =
      let pre : joined (take 2 (fields_of p)) ≡ field 1 version_body ++ field 2 (types_body p.types) = ap (λ (l : List ℕ). field 1 version_body ++ l) (append-nil (field 2 (types_body p.types))) in
      let size : length (field 1 version_body ++ field 2 (types_body p.types)) ≡ 27 =
      length-append (field 1 version_body) (field 2 (types_body p.types)) ∙ rw (one-length, field-length 2 (types_body p.types), types-length p.types) in
      rw (
        pre,
        size,
        append_assoc (field 1 version_body) (field 2 (types_body p.types)) rest,
        read-version (field 2 (types_body p.types) ++ rest),
        read-types rest p.types 𝓣.sets_fit (types-kept p 𝓢),
      ) (not-before 259 2 _ 27 rest)
  behind (suc (suc (suc zero))) rest =
      let one : List ℕ = field 1 version_body in
      let two : List ℕ = field 2 (types_body p.types) in
      let three : List ℕ = field 3 (order_body p.source_order) in
      let pre : joined (take 3 (fields_of p)) ≡ one ++ (two ++ three) = ap (λ (l : List ℕ). one ++ (two ++ l)) (append-nil three) in
      let size : length (one ++ (two ++ three)) ≡ 158 =
      length-append one (two ++ three) ∙ rw (
        one-length,
        length-append two three,
        field-length 2 (types_body p.types),
        types-length p.types,
        field-length 3 (order_body p.source_order),
        order-length p.source_order 𝓣.source_rows,
      ) in
      let split-three : (one ++ (two ++ three)) ++ rest ≡ one ++ (two ++ (three ++ rest)) = append_assoc one (two ++ three) rest ∙ ap (λ (l : List ℕ). one ++ l) (append_assoc two three rest) in
      rw (
        pre,
        size,
        split-three,
        read-version (two ++ (three ++ rest)),
        read-types (three ++ rest) p.types 𝓣.sets_fit (types-kept p 𝓢),
        read-source rest p.types (replicate 32 0) p.source_order 𝓣.source_rows 𝓣.source_fits (source-kept p 𝓢),
      ) (not-before 258 3 _ 158 rest)
  behind (suc (suc (suc (suc k)))) rest = ⊎_elim (λ (l : length (take p.count p.subscribers) < k). behind-all k rest l) (λ (l : k ≤ length (take p.count p.subscribers)). behind-some k rest l) (split (length (take p.count p.subscribers)) k)

-- ---- the place of a refusal

-- it has one; up to it the bytes are the first fields, whole, of a sound plan's file, and up to no later place are they. So it is the first byte of the first field
-- with which they are not, or, where all fields up to the end field are a sound plan's, the first byte too many.
pub record PlaceIs (bs : List ℕ) (r : Refusal) : Type 0 where
  pub place : ℕ
  pub is : place_of r ≡ Some place
  pub follows : Follows bs place
  pub greatest : (later : ℕ) → Follows bs later → later ≤ place

bound : (bs : List ℕ) (r : Refusal) (place : ℕ) → read_of bs ≡ Err r → place_of r ≡ Some place → (later : ℕ) → Follows bs later → later ≤ place
bound bs r place e q to 𝓕 =
    let h = behind 𝓕.plan 𝓕.plan_typed 𝓕.plan_sound 𝓕.fields 𝓕.rest r place (ap read_of (sym 𝓕.begins) ∙ e) q in
    rw 𝓕.here at h

place-of : (bs : List ℕ) (x : Result Plan Refusal) (r : Refusal) → Outcome bs x → x ≡ Err r → read_of bs ≡ Err r → PlaceIs bs r
unfolding fields_of
place-of bs x r (whole q t s b) e f = absurd (never r q (sym e))
place-of bs x r (stopped s {pre = pre} left 𝓡 b l) e f =
    let is : place_of r ≡ Some (length pre) = ap place_of (sym (same-refusal s r e)) ∙ l in
    record { place = length pre; is = is; follows = reached-follows bs left 𝓡 b; greatest = bound bs r (length pre) f is }
place-of bs x r (trailing q left t s b n) e f =
    let is : place_of r ≡ Some (length (bytes_of q)) = ap place_of (sym (same-refusal (WrongEnd (length (bytes_of q))) r e)) in
    let all = joined-all q (suc (length (take q.count q.subscribers))) (omega arith) in
    let 𝓕 : Follows bs (length (bytes_of q)) =
    record {
      plan = q;
      plan_typed = t;
      plan_sound = s;
      fields = suc (suc (suc (suc (suc (length (take q.count q.subscribers))))));
      rest = left;
      begins = b ∙ ap (λ (z : List ℕ). z ++ left) (sym all);
      here = ap length all;
    } in
    record { place = length (bytes_of q); is = is; follows = 𝓕; greatest = bound bs r (length (bytes_of q)) f is }

pub place_is : (bs : List ℕ) → Below 256 bs → (r : Refusal) → read_of bs ≡ Err r → PlaceIs bs r
place_is bs b r e = place-of bs (read_of bs) r (reads bs b) e e

-- there is only one such place
pub one_place : (bs : List ℕ) (a b : ℕ) → Follows bs a → ((later : ℕ) → Follows bs later → later ≤ a) → Follows bs b → ((later : ℕ) → Follows bs later → later ≤ b) → a ≡ b
one_place bs a b fa ga fb gb = omega (arith, ga b fb, gb a fa)
