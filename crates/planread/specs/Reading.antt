-- What reading a plan file answers, field by field (document 01, 'File'). `left` is what is left of the file, from the field's first byte on. Assumes nothing.
use Rattle.std.specs.Prelude.{ℕ, zero, suc, ◌+◌, ◌-◌, ◌/◌, ◌%◌, min, Bool, true, not, ◌&&◌, ◌||◌, cond, List, ◌++◌, eqb, ltb, leb, length, take, drop, set, replicate, Result, Ok, Err, ⊤}
use Rattle.refusal.specs.declared.Refusal.{Refusal}
use Rattle.refusal.specs.declared.Refusal.TheVariants.{WrongEnd, WrongTag, WrongLength, RuleBroken, TooManySubscribers}
use Rattle.plan.specs.declared.Types.{Types}
use Rattle.plan.specs.declared.Subscriber.{Subscriber}
use Rattle.plan.specs.declared.Plan.{Plan}
use Rattle.plan.specs.Parts.{no_subscriber}
use Rattle.plan.specs.Sound.{types_sound, source_sound, target_sound, subscriber_sound}
use Rattle.refusal.specs.Numbers.{◌>>=◌, unless}
use Rattle.planbytes.specs.Numbers.{number, numbers}

-- ---- blanks: all zero

abbrev pub no_types : Types
no_types = record { existing = 0; bound = 0; reversible = 0; source_choice = 0; target_choice = 0 }

-- a plan of these parts
abbrev pub plan_of : Types → List ℕ → List ℕ → List Subscriber → ℕ → Plan
plan_of t source target subs count =
    record { types = t; source_order = source; target_order = target; subscribers = subs; count = count }

unfoldable pub blank_plan : Plan
blank_plan = plan_of no_types (replicate 32 0) (replicate 32 0) (replicate 256 no_subscriber) 0

-- ---- the parts of a field: one byte, two bytes, as many bytes as these say, and what comes after

unfoldable pub tag_of : List ℕ → ℕ
tag_of left = number (take 1 left)

unfoldable pub length_of : List ℕ → ℕ
length_of left = number (take 2 (drop 1 left))

unfoldable pub body_of : List ℕ → List ℕ
body_of left = take (length_of left) (drop 3 left)

unfoldable pub after : List ℕ → List ℕ
after left = drop (3 + length_of left) left

-- ---- what a body says

unfoldable pub types_in : List ℕ → Types
types_in body =
    record {
      existing = number (take 4 body);
      bound = number (take 4 (drop 4 body));
      reversible = number (take 4 (drop 8 body));
      source_choice = number (take 4 (drop 12 body));
      target_choice = number (take 4 (drop 16 body));
    }

unfoldable pub order_in : List ℕ → List ℕ
order_in body = numbers 4 32 body

-- how many box numbers a body of this length has
unfoldable pub boxes_in : ℕ → ℕ
boxes_in n = (n - 13) / 2

-- a subscriber with k box numbers; the places past them are zero
unfoldable pub subscriber_with : ℕ → List ℕ → Subscriber
subscriber_with k body =
    record {
      kind = number (take 1 body);
      address = number (take 4 (drop 1 body));
      source = number (take 4 (drop 5 body));
      target = number (take 4 (drop 9 body));
      boxes = numbers 2 k (drop 13 body) ++ replicate (4 - k) 0;
      count = k;
    }

unfoldable pub subscriber_in : List ℕ → Subscriber
subscriber_in body = subscriber_with (boxes_in (length body)) body

-- ---- the tests at a field

-- the fields come in order: tags 1, 2, 3, 4, of which `stage` are read; then any number of tag 5, and tag 127
unfoldable pub allowed : ℕ → ℕ → Bool
allowed stage tag = cond (ltb stage 4) (eqb tag (stage + 1)) (eqb tag 5 || eqb tag 127)

-- the lengths that a tag has: tag 1 has 1, tag 2 has 20, tags 3 and 4 have 128, tag 5 has 13 to 21, odd, and tag 127 has 0
unfoldable pub ever_long : ℕ → ℕ → Bool
ever_long tag n =
    cond (eqb tag 1) (eqb n 1)
    (cond (eqb tag 2) (eqb n 20)
    (cond (eqb tag 3 || eqb tag 4) (eqb n 128)
    (cond (eqb tag 5) (leb 13 n && leb n 21 && eqb (n % 2) 1)
    (eqb n 0))))

-- the plan with what a field says; tags 1 and 127 say nothing of it
unfoldable pub entered : ℕ → List ℕ → Plan → Plan
entered tag body p =
    cond (eqb tag 2) (plan_of (types_in body) p.source_order p.target_order p.subscribers p.count)
    (cond (eqb tag 3) (plan_of p.types (order_in body) p.target_order p.subscribers p.count)
    (cond (eqb tag 4) (plan_of p.types p.source_order (order_in body) p.subscribers p.count)
    (cond (eqb tag 5) (plan_of p.types p.source_order p.target_order (set p.subscribers p.count (subscriber_in body)) (p.count + 1))
    p)))

-- the rules that speak of a field and the earlier ones, of the plan with it
unfoldable pub kept : ℕ → List ℕ → Plan → Bool
kept tag body p =
    cond (eqb tag 1) (eqb (number body) 1)
    (cond (eqb tag 2) (types_sound p.types)
    (cond (eqb tag 3) (source_sound p.types p.source_order)
    (cond (eqb tag 4) (target_sound p.types p.source_order p.target_order)
    (cond (eqb tag 5) (subscriber_sound p.types p.subscribers (p.count - 1))
    true))))

-- F7: at a field at this place, in this order: fewer than 3 bytes left 20; tag not allowed here 21; 257th subscriber 24; a length the tag never has 22;
-- body cut short 20
unfoldable pub header : ℕ → ℕ → ℕ → List ℕ → Result ⊤ Refusal
header stage count at left =
    cond (ltb (length left) 3) (Err (WrongEnd at))
    (cond (not (allowed stage (tag_of left))) (Err (WrongTag at))
    (cond (eqb (tag_of left) 5 && leb 256 count) (Err (TooManySubscribers at))
    (cond (not (ever_long (tag_of left) (length_of left))) (Err (WrongLength at))
    (cond (ltb (length left) (3 + length_of left)) (Err (WrongEnd at))
    (Ok tt)))))

-- a rule broken with the earlier fields 23
abbrev pub then_rule : Result ⊤ Refusal → ℕ → Bool → Result ⊤ Refusal
then_rule v at b = v >>= λ ok. unless b (RuleBroken at) (Ok tt)

unfoldable pub verdict_at : ℕ → Plan → ℕ → List ℕ → Result ⊤ Refusal
verdict_at stage p at left =
    then_rule (header stage p.count at left) at (kept (tag_of left) (body_of left) (entered (tag_of left) (body_of left) p))

-- ---- the file

-- F12: bytes after the end field: 20, at the first
unfoldable pub ended : {A : Type 0} → A → ℕ → List ℕ → Result A Refusal
ended x at left = cond (eqb (length left) 0) (Ok x) (Err (WrongEnd at))

-- the fields from a place on, n of them at most; a field that is refused ends the reading
unfoldable pub read_from : ℕ → ℕ → Plan → ℕ → List ℕ → Result Plan Refusal
read_from zero stage p at left = Err (TooManySubscribers at)
read_from (suc n) stage p at left =
    verdict_at stage p at left >>= λ ok.
    (cond (eqb (tag_of left) 127) (ended p (at + 3) (after left))
    (read_from n (min (stage + 1) 4) (entered (tag_of left) (body_of left) p) (at + (3 + length_of left)) (after left)))

-- a file has 4 fields, 256 subscribers at most, and the end
unfoldable pub read_of : List ℕ → Result Plan Refusal
read_of bytes = read_from 261 0 blank_plan 0 bytes
