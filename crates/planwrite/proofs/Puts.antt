-- Filling room from a place on: one run of bytes after the other, and how many bytes each part of a file has. Assumes nothing.
use mathlib.Core.Path.{◌≡◌, refl, sym, ap, ◌∙◌}
use mathlib.Core.Bool.{Bool, true, false, not, cond, true≢false}
use mathlib.Core.List.{List, [], ◌∷◌, ◌++◌, append_assoc}
use Prim.Native.Nat.{ℕ, zero, suc, ◌+◌, ◌-◌, ◌*◌, ◌%◌, ◌≤◌, ◌<◌}
use native.Mathlib.Numerals.{add-one}
use native.Mathlib.Omega.{arith}
use lib.ListN.{length, get_or, take, drop, set, length-append, length-take, drop_of_length-le}
use lib.Seq.{drop-cons, sets, sets-eq, get_or-take, length-sets}
use borrow.Rule.Slice.PartMut.{put_mid, post_of, Post-is}
use Rattle.plan.specs.declared.Types.{Types}
use Rattle.plan.specs.declared.Subscriber.{Subscriber}
use Rattle.plan.specs.Parts.{nobody, at}
use Rattle.planbytes.specs.Numbers.{high, row}
use Rattle.planbytes.proofs.Lengths.{high-length, row-length, field-length, types-length, order-length}
use Rattle.planbytes.specs.Format.{field, version_body, types_body, order_body, subscriber_body, subscriber_fields, head_fields}

-- ---- one run after the other

pub sets-append : (xs ys l : List ℕ) (at : ℕ) → sets l at (xs ++ ys) ≡ sets (sets l at xs) (at + length xs) ys
sets-append [] ys l at = let e : at + 0 ≡ at = omega arith in rw e
sets-append (x ∷ xs) ys l at =
    let e : at + suc (length xs) ≡ suc at + length xs = omega arith in
    sets-append xs ys (set l at x) (suc at) ∙ rw e

pub puts_then : (l xs ys : List ℕ) (at n to : ℕ) {m r : List ℕ} → m ≡ sets l at xs → r ≡ sets m to ys → length xs ≡ n → to ≡ at + n → r ≡ sets l at (xs ++ ys)
puts_then l xs ys at n to p q e f = q ∙ rw (f, ← e, p) (sym (sets-append xs ys l at))

-- a part of the room that is overwritten
pub part-stored : (l part : List ℕ) (at n : ℕ) → at + length part ≤ length l → n ≡ length part → put_mid at (at + n - at) l part ≡ sets l at part
part-stored l part at n h e =
    let rest : post_of at (at + n - at) l ≡ drop (at + n) l = Post-is at (at + n) l (omega arith) in
    rw (rest, e) (sym (sets-eq part l at h ∙ append_assoc (take at l) part (drop (at + length part) l)))

-- a number of one byte
pub low_byte : (l : List ℕ) (at : ℕ) {b : ℕ} → b < 256 → set l at b ≡ sets l at (high 1 b)
unfolding high
low_byte l at {b} h = let e : b % 256 ≡ b = omega arith in rw e

-- ---- a loop over a row of numbers, each of w bytes

pub row-all : (w : ℕ) (ns l : List ℕ) (at : ℕ) → sets l (at + w * 0) (row w (drop 0 ns)) ≡ sets l at (row w ns)
row-all w ns l at = let e : at + w * 0 ≡ at = omega arith in rw e

pub row_put : (w : ℕ) (ns l : List ℕ) (at t : ℕ) → t < length ns
    → sets l (at + w * t) (row w (drop t ns)) ≡ sets (sets l (at + w * t) (high w (get_or ns t 0))) (at + w * (t + 1)) (row w (drop (t + 1) ns))
unfolding row
row_put w ns l at t h =
    let e : at + w * (t + 1) ≡ at + w * t + w = omega arith in
    ap (λ (z : List ℕ). sets l (at + w * t) (row w z)) (drop-cons ns t 0 h)
    ∙ sets-append (high w (get_or ns t 0)) (row w (drop (suc t) ns)) l (at + w * t)
    ∙ rw (high-length w (get_or ns t 0), e, add-one t)

pub row-end : (w : ℕ) (ns l : List ℕ) (at t : ℕ) → length ns ≤ t → sets l at (row w (drop t ns)) ≡ l
unfolding row
row-end w ns l at t h = rw (drop_of_length-le ns h)

-- ---- the fields of tags 3 and 4, and the head

pub order-put : (l : List ℕ) (at tag : ℕ) (rows : List ℕ) {a b : List ℕ} → length rows ≡ 32 → a ≡ sets l at (high 1 tag ++ high 2 128) → b ≡ sets a (at + 3) (order_body rows)
    → b ≡ sets l at (field tag (order_body rows))
unfolding field
order-put l at tag rows long p q =
    rw (order-length rows long) (puts_then l (high 1 tag ++ high 2 128) (order_body rows) at 3 (at + 3) p q (length-append (high 1 tag) (high 2 128) ∙ rw (high-length 1 tag, high-length 2 128)) refl)

pub head-put : (l : List ℕ) (t : Types) (source target : List ℕ) {a b c d : List ℕ} → length source ≡ 32
    → a ≡ sets l 0 (field 1 version_body) → b ≡ sets a 4 (field 2 (types_body t)) → c ≡ sets b 27 (field 3 (order_body source)) → d ≡ sets c 158 (field 4 (order_body target))
    → d ≡ sets l 0 (head_fields t source target)
unfolding head_fields version_body
head-put l t source target long p q r s =
    let one : length (field 1 (high 1 1)) ≡ 4 = field-length 1 (high 1 1) ∙ rw (high-length 1 1) in
    let two : length (field 1 (high 1 1) ++ field 2 (types_body t)) ≡ 27 =
    length-append (field 1 (high 1 1)) (field 2 (types_body t)) ∙ rw (one, field-length 2 (types_body t), types-length t) in
    let three : length (field 1 (high 1 1) ++ field 2 (types_body t) ++ field 3 (order_body source)) ≡ 158 =
    length-append (field 1 (high 1 1) ++ field 2 (types_body t)) (field 3 (order_body source)) ∙ rw (two, field-length 3 (order_body source), order-length source long) in
    puts_then l (field 1 (high 1 1) ++ field 2 (types_body t) ++ field 3 (order_body source)) (field 4 (order_body target)) 0 158 158
    (puts_then l (field 1 (high 1 1) ++ field 2 (types_body t)) (field 3 (order_body source)) 0 27 27
    (puts_then l (field 1 (high 1 1)) (field 2 (types_body t)) 0 4 4 p q one refl) r two refl) s three refl

-- ---- a subscriber

take_again : (n : ℕ) (l : List ℕ) → take (length (take n l)) l ≡ take n l
take_again zero l = refl
take_again (suc n) [] = refl
take_again (suc n) (x ∷ l) = ap (λ (z : List ℕ). x ∷ z) (take_again n l)

pub subscriber-put : (l : List ℕ) (at k : ℕ) (s : Subscriber) {a b c : List ℕ} → k ≡ length (take s.count s.boxes)
    → a ≡ sets l at (high 1 5 ++ high 2 (13 + 2 * k)) → b ≡ sets a (at + 3) (high 1 s.kind ++ row 4 (s.address ∷ s.source ∷ s.target ∷ []))
    → c ≡ sets b (at + 16) (row 2 (take k s.boxes)) → c ≡ sets l at (field 5 (subscriber_body s))
unfolding field subscriber_body
subscriber-put l at k s {c = c} e p q r =
    let fixed : List ℕ = high 1 s.kind ++ row 4 (s.address ∷ s.source ∷ s.target ∷ []) in
    let boxes : List ℕ = row 2 (take s.count s.boxes) in
    let head : List ℕ = high 1 5 ++ high 2 (13 + 2 * k) in
    let all : take k s.boxes ≡ take s.count s.boxes = ap (λ (n : ℕ). take n s.boxes) e ∙ take_again s.count s.boxes in
    let three : length head ≡ 3 = length-append (high 1 5) (high 2 (13 + 2 * k)) ∙ rw (high-length 1 5, high-length 2 (13 + 2 * k)) in
    let thirteen : length fixed ≡ 13 =
    length-append (high 1 s.kind) (row 4 (s.address ∷ s.source ∷ s.target ∷ [])) ∙ rw (high-length 1 s.kind, row-length 4 (s.address ∷ s.source ∷ s.target ∷ [])) in
    let sixteen : length (head ++ fixed) ≡ 16 = length-append head fixed ∙ rw (three, thirteen) in
    let long : length (fixed ++ boxes) ≡ 13 + 2 * k = length-append fixed boxes ∙ rw (thirteen, row-length 2 (take s.count s.boxes), e) in
    let put : c ≡ sets l at (head ++ fixed ++ row 2 (take k s.boxes)) =
    puts_then l (head ++ fixed) (row 2 (take k s.boxes)) at 16 (at + 16) (puts_then l head fixed at 3 (at + 3) p q three refl) r sixteen refl in
    put ∙ rw (all, long, append_assoc head fixed boxes)

-- ---- the subscribers one after the other; ss are those that are in use

fields-next : (subs : List Subscriber) (count i : ℕ) → length subs ≡ 256 → count ≤ 256 → i < count
    → subscriber_fields (drop i (take count subs)) ≡ field 5 (subscriber_body (at subs i)) ++ subscriber_fields (drop (i + 1) (take count subs))
unfolding subscriber_fields
fields-next subs count i long few h =
    let below : i < length (take count subs) = simp (length-take, long) (omega arith) in
    rw (drop-cons (take count subs) i nobody below, get_or-take count subs i nobody h, add-one i)

pub fields-done : (subs : List Subscriber) (count : ℕ) → subscriber_fields (drop count (take count subs)) ≡ []
unfolding subscriber_fields
fields-done subs count =
    let all : length (take count subs) ≤ count = simp length-take (omega arith) in
    rw (drop_of_length-le (take count subs) all)

pub fields-length : (subs : List Subscriber) (count i : ℕ) → length subs ≡ 256 → count ≤ 256 → i < count
    → length (subscriber_fields (drop i (take count subs)))
    ≡ length (field 5 (subscriber_body (at subs i))) + length (subscriber_fields (drop (i + 1) (take count subs)))
fields-length subs count i long few h =
    ap length (fields-next subs count i long few h) ∙ length-append (field 5 (subscriber_body (at subs i))) (subscriber_fields (drop (i + 1) (take count subs)))

pub fields-put : (subs : List Subscriber) (count i : ℕ) (l : List ℕ) (place : ℕ) → length subs ≡ 256 → count ≤ 256 → i < count
    → sets l place (subscriber_fields (drop i (take count subs)))
    ≡ sets (sets l place (field 5 (subscriber_body (at subs i)))) (place + length (field 5 (subscriber_body (at subs i)))) (subscriber_fields (drop (i + 1) (take count subs)))
fields-put subs count i l place long few h =
    ap (sets l place) (fields-next subs count i long few h)
    ∙ sets-append (field 5 (subscriber_body (at subs i))) (subscriber_fields (drop (i + 1) (take count subs))) l place

-- ---- a run that is put, or only counted

pub put-room : (put : Bool) {n m : ℕ} → not put ≡ false → cond put n 0 ≤ m → n ≤ m
put-room true e h = h
put-room false e h = absurd (true≢false e)

pub put-less : (put : Bool) {k : ℕ} (n : ℕ) {m : ℕ} → cond put n 0 ≤ m → k ≤ n → cond put k 0 ≤ m
put-less true n h less = omega arith
put-less false n h less = h

pub put-length : (put : Bool) (l xs : List ℕ) (place : ℕ) → length (cond put (sets l place xs) l) ≡ length l
put-length true l xs place = simp length-sets
put-length false l xs place = refl

pub put_is : (put : Bool) (l xs : List ℕ) (place : ℕ) {m : List ℕ} → not put ≡ false → m ≡ sets l place xs → m ≡ cond put (sets l place xs) l
put_is true l xs place e p = p
put_is false l xs place e p = absurd (true≢false e)

pub put-not : (put : Bool) (l xs : List ℕ) (place : ℕ) → not put ≡ true → l ≡ cond put (sets l place xs) l
put-not true l xs place e = absurd (true≢false (sym e))
put-not false l xs place e = refl

pub put-none : (put : Bool) (l : List ℕ) (place : ℕ) → cond put (sets l place []) l ≡ l
put-none true l place = refl
put-none false l place = refl

-- one more subscriber
pub put_next : (put : Bool) (subs : List Subscriber) (count i : ℕ) (l : List ℕ) (place : ℕ) {m : List ℕ} {to : ℕ} → length subs ≡ 256 → count ≤ 256 → i < count
    → m ≡ cond put (sets l place (field 5 (subscriber_body (at subs i)))) l → to ≡ place + length (field 5 (subscriber_body (at subs i)))
    → cond put (sets m to (subscriber_fields (drop (i + 1) (take count subs)))) m ≡ cond put (sets l place (subscriber_fields (drop i (take count subs)))) l
put_next true subs count i l place long few h e f = rw (e, f) (sym (fields-put subs count i l place long few h))
put_next false subs count i l place long few h e f = e
