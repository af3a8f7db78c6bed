-- What reading answers in document 01's numbers: 0 for a plan, else the number of the refusal; and the refusal's place. The second clause of `read` says it, so that a
-- renumbered table of refusals would break it. Assumes nothing.
use Rattle.std.specs.Prelude.{ℕ, zero, suc, ◌+◌, min, Bool, not, ◌&&◌, ◌||◌, cond, List, eqb, ltb, leb, length, Option, Some, None}
use Rattle.plan.specs.declared.Plan.{Plan}
use Rattle.planread.specs.Reading.{tag_of, length_of, body_of, after, allowed, ever_long, entered, kept, blank_plan}

-- at each field, in this order: fewer than 3 bytes left 20; tag not allowed here 21; 257th subscriber 24; a length the tag never has 22; body cut short 20;
-- a rule broken with the earlier fields 23. Bytes after the end field: 20
unfoldable pub number_from : ℕ → ℕ → Plan → List ℕ → ℕ
number_from zero stage p left = 24
number_from (suc n) stage p left =
    cond (ltb (length left) 3) 20
    (cond (not (allowed stage (tag_of left))) 21
    (cond (eqb (tag_of left) 5 && leb 256 p.count) 24
    (cond (not (ever_long (tag_of left) (length_of left))) 22
    (cond (ltb (length left) (3 + length_of left)) 20
    (cond (not (kept (tag_of left) (body_of left) (entered (tag_of left) (body_of left) p))) 23
    (cond (eqb (tag_of left) 127) (cond (eqb (length (after left)) 0) 0 20)
    (number_from n (min (stage + 1) 4) (entered (tag_of left) (body_of left) p) (after left))))))))

-- the field is refused by one of these tests
unfoldable pub faulty : ℕ → Plan → List ℕ → Bool
faulty stage p left =
    ltb (length left) 3 || not (allowed stage (tag_of left)) || (eqb (tag_of left) 5 && leb 256 p.count) || not (ever_long (tag_of left) (length_of left))
    || ltb (length left) (3 + length_of left) || not (kept (tag_of left) (body_of left) (entered (tag_of left) (body_of left) p))

-- the place is the field's first byte, counted from 0. Bytes after the end field: at the first
unfoldable pub place_from : ℕ → ℕ → Plan → ℕ → List ℕ → Option ℕ
place_from zero stage p at left = Some at
place_from (suc n) stage p at left =
    cond (faulty stage p left) (Some at)
    (cond (eqb (tag_of left) 127) (cond (eqb (length (after left)) 0) None (Some (at + 3)))
    (place_from n (min (stage + 1) 4) (entered (tag_of left) (body_of left) p) (at + (3 + length_of left)) (after left)))

unfoldable pub number_read : List ℕ → ℕ
number_read bytes = number_from 261 0 blank_plan bytes

unfoldable pub place_read : List ℕ → Option ℕ
place_read bytes = place_from 261 0 blank_plan 0 bytes
