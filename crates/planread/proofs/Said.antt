-- The numbers and the places of what reading answers are those of document 01, in its order. Assumes nothing.
use Rattle.std.specs.Prelude.{Some, None, Result, Ok, Err, ⊤}
use mathlib.Core.Path.{◌≡◌, refl, ap, ◌∙◌}
use mathlib.Core.Bool.{Bool, true, false, not, ◌&&◌, ◌||◌, cond}
use mathlib.Core.List.{List}
use Prim.Native.Nat.{ℕ, zero, suc, ◌+◌, min}
use lib.Dec.{eqb, ltb, leb}
use lib.ListN.{length}
use Rattle.refusal.specs.declared.Refusal.TheVariants.{WrongEnd, WrongTag, WrongLength, TooManySubscribers}
use Rattle.plan.specs.declared.Plan.{Plan}
use Rattle.refusal.specs.Numbers.{◌>>=◌, number_said, place_said}
use Rattle.planread.specs.Reading.{allowed, ever_long, tag_of, length_of, body_of, after, kept, entered, header, then_rule, verdict_at, ended, read_from, read_of, blank_plan}
use Rattle.planread.specs.Scanning.{judged}
use Rattle.planread.specs.Said.{number_from, faulty, place_from, number_read, place_read}
use Rattle.refusal.specs.declared.Refusal.{Refusal}

abbrev tests : Bool → Bool → Bool → Bool → Bool → Bool → ℕ → Result ⊤ Refusal
tests few tag many long cut rule at =
    then_rule (cond few (Err (WrongEnd at)) (cond tag (Err (WrongTag at)) (cond many (Err (TooManySubscribers at))
    (cond long (Err (WrongLength at)) (cond cut (Err (WrongEnd at)) (Ok tt)))))) at rule

-- a field, and what is said of those after it
number : (few tag many long cut rule : Bool) (at : ℕ) (next : Result Plan Refusal)
    → number_said (tests few tag many long cut rule at >>= λ ok. next)
    ≡ cond few 20 (cond tag 21 (cond many 24 (cond long 22 (cond cut 20 (cond (not rule) 23 (number_said next))))))
number true tag many long cut rule at next = refl
number false true many long cut rule at next = refl
number false false true long cut rule at next = refl
number false false false true cut rule at next = refl
number false false false false true rule at next = refl
number false false false false false true at next = refl
number false false false false false false at next = refl

place : (few tag many long cut rule : Bool) (at : ℕ) (next : Result Plan Refusal)
    → place_said (tests few tag many long cut rule at >>= λ ok. next)
    ≡ cond (few || tag || many || long || cut || not rule) (Some at) (place_said next)
place true tag many long cut rule at next = refl
place false true many long cut rule at next = refl
place false false true long cut rule at next = refl
place false false false true cut rule at next = refl
place false false false false true rule at next = refl
place false false false false false true at next = refl
place false false false false false false at next = refl

number-which : (b : Bool) (x y : Result Plan Refusal) → number_said (cond b x y) ≡ cond b (number_said x) (number_said y)
number-which true x y = refl
number-which false x y = refl

place-which : (b : Bool) (x y : Result Plan Refusal) → place_said (cond b x y) ≡ cond b (place_said x) (place_said y)
place-which true x y = refl
place-which false x y = refl

number-ended : (p : Plan) (at : ℕ) (left : List ℕ) → number_said (ended p at left) ≡ cond (eqb (length left) 0) 0 20
unfolding ended
number-ended p at left = number-which (eqb (length left) 0) _ _

place-ended : (p : Plan) (at : ℕ) (left : List ℕ) → place_said (ended p at left) ≡ cond (eqb (length left) 0) None (Some at)
unfolding ended
place-ended p at left = place-which (eqb (length left) 0) _ _

pub number-from : (n stage : ℕ) (p : Plan) (at : ℕ) (left : List ℕ) → number_said (read_from n stage p at left) ≡ number_from n stage p left
unfolding read_from number_from verdict_at header
number-from zero stage p at left = refl
number-from (suc n) stage p at left =
    number (ltb (length left) 3) (not (allowed stage (tag_of left))) (eqb (tag_of left) 5 && leb 256 p.count) (not (ever_long (tag_of left) (length_of left)))
    (ltb (length left) (3 + length_of left)) (kept (tag_of left) (body_of left) (entered (tag_of left) (body_of left) p)) at
    (cond (eqb (tag_of left) 127) (ended p (at + 3) (after left))
    (read_from n (min (stage + 1) 4) (entered (tag_of left) (body_of left) p) (at + (3 + length_of left)) (after left)))
    ∙ rw (
      number-which (eqb (tag_of left) 127) (ended p (at + 3) (after left))
          (read_from n (min (stage + 1) 4) (entered (tag_of left) (body_of left) p) (at + (3 + length_of left)) (after left)),
      number-ended p (at + 3) (after left),
      number-from n (min (stage + 1) 4) (entered (tag_of left) (body_of left) p) (at + (3 + length_of left)) (after left),
    )

pub place-from : (n stage : ℕ) (p : Plan) (at : ℕ) (left : List ℕ) → place_said (read_from n stage p at left) ≡ place_from n stage p at left
unfolding read_from place_from faulty verdict_at header
place-from zero stage p at left = refl
place-from (suc n) stage p at left =
    place (ltb (length left) 3) (not (allowed stage (tag_of left))) (eqb (tag_of left) 5 && leb 256 p.count) (not (ever_long (tag_of left) (length_of left)))
    (ltb (length left) (3 + length_of left)) (kept (tag_of left) (body_of left) (entered (tag_of left) (body_of left) p)) at
    (cond (eqb (tag_of left) 127) (ended p (at + 3) (after left))
    (read_from n (min (stage + 1) 4) (entered (tag_of left) (body_of left) p) (at + (3 + length_of left)) (after left)))
    ∙ rw (
      place-which (eqb (tag_of left) 127) (ended p (at + 3) (after left))
          (read_from n (min (stage + 1) 4) (entered (tag_of left) (body_of left) p) (at + (3 + length_of left)) (after left)),
      place-ended p (at + 3) (after left),
      place-from n (min (stage + 1) 4) (entered (tag_of left) (body_of left) p) (at + (3 + length_of left)) (after left),
    )

-- what is read, with its number and its place
pub said : (bytes : List ℕ) {r : Result Plan Refusal} → r ≡ read_of bytes → (r ≡ read_of bytes) × ((number_said r ≡ number_read bytes) × (place_said r ≡ place_read bytes))
unfolding read_of number_read place_read
said bytes e = (
  e,
  (
    ap (λ (x : Result Plan Refusal). number_said x) e ∙ number-from 261 0 blank_plan 0 bytes,
    ap (λ (x : Result Plan Refusal). place_said x) e ∙ place-from 261 0 blank_plan 0 bytes,
  ),
)

-- and what is answered where the plan is not kept
judged-number : (r : Result Plan Refusal) → number_said (judged r) ≡ number_said r
judged-number (Ok p) = refl
judged-number (Err r) = refl

judged-place : (r : Result Plan Refusal) → place_said (judged r) ≡ place_said r
judged-place (Ok p) = refl
judged-place (Err r) = refl

pub verdict-said : (bytes : List ℕ) {v : Result ⊤ Refusal} → v ≡ judged (read_of bytes) → (v ≡ judged (read_of bytes)) × ((number_said v ≡ number_read bytes) × (place_said v ≡ place_read bytes))
verdict-said bytes e =
    let t = said bytes refl in (
      e,
      (
        ap (λ (x : Result ⊤ Refusal). number_said x) e ∙ judged-number (read_of bytes) ∙ t.1.0,
        ap (λ (x : Result ⊤ Refusal). place_said x) e ∙ judged-place (read_of bytes) ∙ t.1.1,
      ),
    )
