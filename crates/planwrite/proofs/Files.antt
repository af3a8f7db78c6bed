-- A file as a whole: how many bytes it has, and what writing it leaves in the room. Assumes nothing.
use Rattle.std.specs.Prelude.{Some, None, Result, Ok, Err}
use mathlib.Core.Path.{◌≡◌, refl, sym, ap, ◌∙◌}
use mathlib.Core.Bool.{Bool, true, false, ◌&&◌, cond}
use mathlib.Core.Logic.{⊎_elim}
use mathlib.Core.List.{List, ◌++◌}
use Prim.Native.Nat.{ℕ, ◌+◌, ◌≤◌, ◌<◌, min}
use native.Mathlib.Nat.{zero-add}
use native.Mathlib.Omega.{arith}
use lib.Dec.{leb}
use lib.ListN.{length, take, length-append}
use lib.Seq.{sets, sets-eq, take_all}
use borrow.Author.Tests.{le-leb, lt-leb}
use Rattle.refusal.specs.declared.Refusal.TheVariants.{RuleBroken, RoomTooShort}
use Rattle.plan.specs.declared.Plan.{Plan}
use Rattle.plan.specs.Sound.{sound}
use Rattle.planbytes.specs.Numbers.{high}
use Rattle.planbytes.specs.Format.{field, head_fields, subscriber_fields, end_field, bytes_of}
use Rattle.refusal.specs.Numbers.{number_said, place_said}
use Rattle.planwrite.specs.Writing.{answer_of, written_by, room_after_by, written, room_after}
use Rattle.planwrite.proofs.Puts.{puts_then}
use Rattle.planbytes.proofs.Lengths.{head-length}
use Rattle.typeset.proofs.Laws.{split}
use Rattle.refusal.specs.declared.Refusal.{Refusal}

pub end_is : end_field ≡ high 1 127 ++ high 2 0
unfolding end_field field high
end_is = refl

-- ---- the numbers of the answer: 23, then 25, at place 0

answer-number : (kept fits : Bool) (n : ℕ) → number_said (answer_of kept fits n) ≡ cond kept (cond fits 0 25) 23
answer-number false fits n = refl
answer-number true false n = refl
answer-number true true n = refl

answer-place : (kept fits : Bool) (n : ℕ) → place_said (answer_of kept fits n) ≡ cond (kept && fits) None (Some 0)
answer-place false fits n = refl
answer-place true false n = refl
answer-place true true n = refl

pub write-number : (p : Plan) (room : List ℕ) → number_said (written p room) ≡ cond (sound p) (cond (leb (length (bytes_of p)) (length room)) 0 25) 23
unfolding written_by
write-number p room = answer-number (sound p) (leb (length (bytes_of p)) (length room)) (length (bytes_of p))

pub write-place : (p : Plan) (room : List ℕ) → place_said (written p room) ≡ cond (sound p && leb (length (bytes_of p)) (length room)) None (Some 0)
unfolding written_by
write-place p room = answer-place (sound p) (leb (length (bytes_of p)) (length room)) (length (bytes_of p))

-- what is answered and left, with its number and its place
pub said : (p : Plan) (room : List ℕ) {w : (Result ℕ Refusal)} {a : List ℕ} → (w ≡ written p room) × (a ≡ room_after p room)
    → ((w ≡ written p room) × (a ≡ room_after p room))
    × ((number_said w ≡ cond (sound p) (cond (leb (length (bytes_of p)) (length room)) 0 25) 23) × (place_said w ≡ cond (sound p && leb (length (bytes_of p)) (length room)) None (Some 0)))
said p room e = (e, (ap (λ (r : Result ℕ Refusal). number_said r) e.0 ∙ write-number p room, ap (λ (r : Result ℕ Refusal). place_said r) e.0 ∙ write-place p room))

-- ---- the file

-- of 256 places no more are taken than there are
pub no_more : {A : Type 0} (n : ℕ) (l : List A) → length l ≡ 256 → take (min n 256) l ≡ take n l
no_more n l e =
    ⊎_elim (λ (h : n < 256). let is : min n 256 ≡ n = omega (arith, h) in ap (λ (k : ℕ). take k l) is)
    (λ (h : 256 ≤ n). take_all (min n 256) l (omega (arith, e, h)) ∙ sym (take_all n l (omega (arith, e, h))))
    (split n 256)

module _ (p : Plan) (rows : length p.source_order ≡ 32) (columns : length p.target_order ≡ 32) where
  head-is : length (head_fields p.types p.source_order p.target_order) ≡ 289
  head-is = head-length p.types p.source_order p.target_order rows columns

  before-end : length (head_fields p.types p.source_order p.target_order ++ subscriber_fields (take p.count p.subscribers))
      ≡ 289 + length (subscriber_fields (take p.count p.subscribers))
  before-end =
      length-append (head_fields p.types p.source_order p.target_order) (subscriber_fields (take p.count p.subscribers))
      ∙ ap (λ (n : ℕ). n + length (subscriber_fields (take p.count p.subscribers))) head-is

  pub file-length : length (bytes_of p) ≡ 292 + length (subscriber_fields (take p.count p.subscribers))
  unfolding bytes_of end_field field high
  file-length =
      length-append (head_fields p.types p.source_order p.target_order ++ subscriber_fields (take p.count p.subscribers)) end_field
      ∙ rw before-end (omega arith)

  module _ (kept : Bool) (room : List ℕ) where
    pub write-broken : kept ≡ false → (Err (RuleBroken 0) ≡ written_by kept p room) × (room ≡ room_after_by kept p room)
    unfolding written_by room_after_by
    write-broken e = (rw e, rw e)

    pub write-short : {a : List ℕ} → a ≡ room → kept ≡ true → length room < 292 + length (subscriber_fields (take p.count p.subscribers))
        → (Err (RoomTooShort 0) ≡ written_by kept p room) × (a ≡ room_after_by kept p room)
    unfolding written_by room_after_by
    write-short same e h =
        let short : leb (length (bytes_of p)) (length room) ≡ false = lt-leb (length (bytes_of p)) (length room) (rw file-length h) in
        (rw (e, short), same ∙ rw (e, short))

    file-put : {a b c : List ℕ} → a ≡ sets room 0 (head_fields p.types p.source_order p.target_order)
        → b ≡ sets a 289 (subscriber_fields (take p.count p.subscribers))
        → c ≡ sets b (289 + length (subscriber_fields (take p.count p.subscribers))) (high 1 127 ++ high 2 0)
        → c ≡ sets room 0 (bytes_of p)
    unfolding bytes_of
    file-put x y z =
        puts_then room (head_fields p.types p.source_order p.target_order ++ subscriber_fields (take p.count p.subscribers)) end_field 0
        (289 + length (subscriber_fields (take p.count p.subscribers))) (289 + length (subscriber_fields (take p.count p.subscribers)))
        (puts_then room (head_fields p.types p.source_order p.target_order) (subscriber_fields (take p.count p.subscribers)) 0 289 289 x y head-is refl)
        (z ∙ rw end_is) before-end (sym (zero-add (289 + length (subscriber_fields (take p.count p.subscribers)))))

    pub write_done : {n : ℕ} {same a b c : List ℕ} → same ≡ room → kept ≡ true → n ≡ 292 + length (subscriber_fields (take p.count p.subscribers)) → n ≤ length same
        → a ≡ sets same 0 (head_fields p.types p.source_order p.target_order)
        → b ≡ sets a 289 (subscriber_fields (take p.count p.subscribers))
        → c ≡ sets b (289 + length (subscriber_fields (take p.count p.subscribers))) (high 1 127 ++ high 2 0)
        → (Ok n ≡ written_by kept p room) × (c ≡ room_after_by kept p room)
    unfolding written_by room_after_by
    write_done {n} {same} {a} {b} {c} s e size h x y z =
        let is : length (bytes_of p) ≡ n = file-length ∙ sym size in
        let fits : length (bytes_of p) ≤ length room = rw (is, ← s) h in
        let yes : leb (length (bytes_of p)) (length room) ≡ true = le-leb (length (bytes_of p)) (length room) fits in
        let put : c ≡ sets room 0 (bytes_of p) = file-put (x ∙ ap (λ (l : List ℕ). sets l 0 (head_fields p.types p.source_order p.target_order)) s) y z in
        (rw (e, yes, is), rw (e, yes) (put ∙ sets-eq (bytes_of p) room 0 (rw zero-add fits) ∙ rw zero-add))
