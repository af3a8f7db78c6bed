-- A plan file with other sets of one subscriber: eight bytes are others, all others stay. Assumes nothing.
use mathlib.Core.Path.{◌≡◌, refl, sym, ap, ap₂, ◌∙◌}
use mathlib.Core.List.{List, [], ◌∷◌, ◌++◌, append_assoc, append-nil}
use Prim.Native.Nat.{ℕ, suc, ◌+◌, ◌*◌, ◌≤◌, ◌<◌}
use native.Mathlib.Omega.{arith}
use native.Mathlib.Numerals.{add-one}
use borrow.Rule.Slice.PartMut.{post_of, put_mid}
use lib.ListN.{length, take, drop, length-append, length-take, length-drop}
use lib.Seq.{split_at, set_split, take-set-lt, take-take, get_or-take, take_at, drop_at, drop-drop, take-suc, take-append-le, drop-append-le}
use Rattle.plan.specs.declared.Subscriber.{Subscriber}
use Rattle.plan.specs.declared.Plan.{Plan}
use Rattle.plan.specs.Parts.{nobody, at}
use Rattle.planbytes.specs.Numbers.{high, row}
use Rattle.planbytes.specs.Format.{field, subscriber_body, subscriber_fields, head_fields, end_field, bytes_of}
use Rattle.planbytes.proofs.Lengths.{high-length, subscriber-length, head-length}
use Rattle.index.specs.Index.{resubscribed, changed}
use Rattle.dfc_index.specs.Steps.{sets_at, reset_bytes}

fields-append : (xs ys : List Subscriber) → subscriber_fields (xs ++ ys) ≡ subscriber_fields xs ++ subscriber_fields ys
unfolding subscriber_fields
fields-append [] ys = refl
fields-append (x ∷ xs) ys = ap (λ (l : List ℕ). field 5 (subscriber_body x) ++ l) (fields-append xs ys) ∙ sym (append_assoc (field 5 (subscriber_body x)) (subscriber_fields xs) (subscriber_fields ys))

-- what stands before the sets in a subscriber's field: tag, length, kind and address
abbrev field_head : Subscriber → List ℕ
field_head s = high 1 5 ++ high 2 (13 + 2 * length (take s.count s.boxes)) ++ high 1 s.kind ++ high 4 s.address

regroup : (a k d s t b : List ℕ) → a ++ (k ++ (d ++ (s ++ (t ++ []))) ++ b) ≡ a ++ k ++ d ++ (s ++ t ++ b)
regroup a k d s t b =
    ap (λ (l : List ℕ). a ++ (k ++ (d ++ (s ++ l)) ++ b)) (append-nil t)
    ∙ ap (λ (l : List ℕ). a ++ l) (append_assoc k (d ++ (s ++ t)) b ∙ ap (λ (l : List ℕ). k ++ l) (append_assoc d (s ++ t) b))
    ∙ sym (append_assoc a k (d ++ (s ++ t ++ b)))
    ∙ sym (append_assoc (a ++ k) d (s ++ t ++ b))

field-parts : (s : Subscriber) → field 5 (subscriber_body s) ≡ field_head s ++ (high 4 s.source ++ high 4 s.target ++ row 2 (take s.count s.boxes))
unfolding field subscriber_body row
field-parts s =
    ap (λ (n : ℕ). high 1 5 ++ high 2 n ++ subscriber_body s) (subscriber-length s)
    ∙ regroup (high 1 5 ++ high 2 (13 + 2 * length (take s.count s.boxes))) (high 1 s.kind) (high 4 s.address) (high 4 s.source) (high 4 s.target) (row 2 (take s.count s.boxes))

head-size : (s : Subscriber) → length (field_head s) ≡ 8
head-size s = simp (length-append, high-length) refl

joined : (h f x s r e : List ℕ) → h ++ (f ++ (x ++ s ++ r)) ++ e ≡ h ++ f ++ x ++ (s ++ (r ++ e))
joined h f x s r e =
    append_assoc h (f ++ (x ++ s ++ r)) e
    ∙ ap (λ (l : List ℕ). h ++ l) (append_assoc f (x ++ s ++ r) e ∙ ap (λ (l : List ℕ). f ++ l) (append_assoc (x ++ s) r e ∙ append_assoc x s (r ++ e)))
    ∙ sym (append_assoc h f (x ++ (s ++ (r ++ e))))
    ∙ sym (append_assoc (h ++ f) x (s ++ (r ++ e)))

module _ (p : Plan) (i : ℕ) (few : i < p.count) (long : length p.subscribers ≡ 256) (fits : p.count ≤ 256) (rows : length p.source_order ≡ 32) (rows' : length p.target_order ≡ 32) where
  abbrev those : List Subscriber
  those = take p.count p.subscribers

  abbrev old : Subscriber
  old = at p.subscribers i

  -- before the sets, and after them
  abbrev before : List ℕ
  before = head_fields p.types p.source_order p.target_order ++ subscriber_fields (take i those) ++ field_head old

  abbrev after : List ℕ
  after = row 2 (take old.count old.boxes) ++ (subscriber_fields (drop (suc i) those) ++ end_field)

  here : i < length those
  here = rw (length-take p.count p.subscribers) (omega arith)

  -- the file of a plan whose subscriber at place i is s, who has all but the sets as before
  parts : (s : Subscriber) → field_head s ≡ field_head old → take s.count s.boxes ≡ take old.count old.boxes
      → head_fields p.types p.source_order p.target_order ++ subscriber_fields (take i those ++ s ∷ drop (suc i) those) ++ end_field
      ≡ before ++ (high 4 s.source ++ high 4 s.target ++ after)
  unfolding subscriber_fields
  parts s e b =
      let h = head_fields p.types p.source_order p.target_order in
      let f = subscriber_fields (take i those) in
      let r = subscriber_fields (drop (suc i) those) in
      let both = high 4 s.source ++ high 4 s.target in
      let boxes = row 2 (take old.count old.boxes) in
      ap (λ (l : List ℕ). h ++ l ++ end_field) (fields-append (take i those) (s ∷ drop (suc i) those) ∙ ap (λ (l : List ℕ). f ++ (l ++ r)) (field-parts s))
      ∙ ap₂ (λ (x : List ℕ) (y : List ℕ). h ++ (f ++ (x ++ (both ++ row 2 y) ++ r)) ++ end_field) e b
      ∙ joined h f (field_head old) (both ++ boxes) r end_field
      ∙ ap (λ (l : List ℕ). before ++ l) (append_assoc both boxes (r ++ end_field))

  pub bytes-changed : (source target : ℕ) → bytes_of (changed p i source target) ≡ before ++ (high 4 source ++ high 4 target ++ after)
  unfolding bytes_of changed
  bytes-changed source target =
      let new : Subscriber = resubscribed source target old in
      ap (λ (l : List Subscriber). head_fields p.types p.source_order p.target_order ++ subscriber_fields l ++ end_field)
      (take-set-lt p.count p.subscribers i new few ∙ set_split those i new here)
      ∙ parts new refl refl

  bytes-are : bytes_of p ≡ before ++ (high 4 old.source ++ high 4 old.target ++ after)
  unfolding bytes_of
  bytes-are =
      ap (λ (l : List Subscriber). head_fields p.types p.source_order p.target_order ++ subscriber_fields l ++ end_field)
      (split_at those i nobody here ∙ ap (λ (s : Subscriber). take i those ++ s ∷ drop (suc i) those) (get_or-take p.count p.subscribers i nobody few))
      ∙ parts old refl refl

  before-size : length before ≡ sets_at p.subscribers i
  unfolding sets_at
  before-size =
      let same : take i those ≡ take i p.subscribers = take-take i p.count p.subscribers (omega arith) in
      length-append (head_fields p.types p.source_order p.target_order ++ subscriber_fields (take i those)) (field_head old)
      ∙ ap₂ ◌+◌ (length-append (head_fields p.types p.source_order p.target_order) (subscriber_fields (take i those)) ∙ ap₂ ◌+◌ (head-length p.types p.source_order p.target_order rows rows') (ap (λ (l : List Subscriber). length (subscriber_fields l)) same)) (head-size old)
      ∙ turn (length (subscriber_fields (take i p.subscribers)))
    where
      turn : (n : ℕ) → 289 + n + 8 ≡ 297 + n
      turn n = omega arith

  sets-size : (source target : ℕ) → length (high 4 source ++ high 4 target) ≡ 8
  sets-size source target = simp (length-append, high-length) refl

  -- the file with other bytes there is the file of the changed plan
  pub reset-is : (source target : ℕ) → reset_bytes (sets_at p.subscribers i) source target (bytes_of p) ≡ bytes_of (changed p i source target)
  unfolding reset_bytes
  reset-is source target =
      let both = high 4 old.source ++ high 4 old.target in
      let front : take (sets_at p.subscribers i) (bytes_of p) ≡ before = ap (take (sets_at p.subscribers i)) bytes-are ∙ take_at before (both ++ after) (sets_at p.subscribers i) before-size in
      let back : drop (sets_at p.subscribers i + 8) (bytes_of p) ≡ after =
      sym (drop-drop 8 (sets_at p.subscribers i) (bytes_of p))
      ∙ ap (drop 8) (ap (drop (sets_at p.subscribers i)) bytes-are ∙ drop_at before (both ++ after) (sets_at p.subscribers i) before-size)
      ∙ drop_at both after 8 (sets-size old.source old.target) in
      ap₂ (λ (x y : List ℕ). x ++ (high 4 source ++ high 4 target ++ y)) front back ∙ sym (bytes-changed source target)

  -- it lies in the file
  pub sets-inside : sets_at p.subscribers i + 8 ≤ length (bytes_of p)
  sets-inside =
      let whole : length (bytes_of p) ≡ length before + (8 + length after) =
      ap length bytes-are ∙ length-append before (high 4 old.source ++ high 4 old.target ++ after)
      ∙ ap (λ (n : ℕ). length before + n) (length-append (high 4 old.source ++ high 4 old.target) after ∙ ap (λ (n : ℕ). n + length after) (sets-size old.source old.target)) in
      omega (arith, before-size)

-- ---- the place of the sets, one subscriber on

pub sets_first : (subs : List Subscriber) → 297 ≡ sets_at subs 0
unfolding sets_at subscriber_fields
sets_first subs = refl

pub sets-next : (subs : List Subscriber) (j : ℕ) → j < length subs → sets_at subs (j + 1) ≡ sets_at subs j + length (field 5 (subscriber_body (at subs j)))
unfolding sets_at subscriber_fields
sets-next subs j h =
    let one : take (j + 1) subs ≡ take j subs ++ (at subs j ∷ []) = rw (add-one j) (take-suc subs j nobody h) in
    let size : length (subscriber_fields (take (j + 1) subs)) ≡ length (subscriber_fields (take j subs)) + length (field 5 (subscriber_body (at subs j))) =
    ap (λ (l : List Subscriber). length (subscriber_fields l)) one
    ∙ ap length (fields-append (take j subs) (at subs j ∷ []) ∙ ap (λ (l : List ℕ). subscriber_fields (take j subs) ++ l) (append-nil (field 5 (subscriber_body (at subs j)))))
    ∙ length-append (subscriber_fields (take j subs)) (field 5 (subscriber_body (at subs j))) in
    omega arith

-- ---- the file copied into the room, then eight bytes over it

pub written_over : (file room whole part eight : List ℕ) (a n source target : ℕ)
    → whole ≡ file → part ≡ eight → eight ≡ high 4 source ++ high 4 target → n ≡ 8
    → a + 8 ≤ length file → put_mid a n (whole ++ drop (length file) room) part ≡ reset_bytes a source target file ++ drop (length file) room
unfolding reset_bytes
written_over file room whole part eight a n source target w q e m h =
    let rest = drop (length file) room in
    let front : take a (whole ++ rest) ≡ take a file = ap (λ (l : List ℕ). take a (l ++ rest)) w ∙ take-append-le a file rest (omega arith) in
    let back : drop a (whole ++ rest) ≡ drop a file ++ rest = ap (λ (l : List ℕ). drop a (l ++ rest)) w ∙ drop-append-le a file rest (omega arith) in
    let past : post_of a n (whole ++ rest) ≡ drop (a + 8) file ++ rest =
    ap₂ drop m back ∙ drop-append-le 8 (drop a file) rest (omega (arith, length-drop a file)) ∙ ap (λ (l : List ℕ). l ++ rest) (drop-drop 8 a file) in
    ap₂ ◌++◌ front (ap₂ ◌++◌ (q ∙ e) past)
    ∙ ap (λ (l : List ℕ). take a file ++ l) (sym (append_assoc (high 4 source ++ high 4 target) (drop (a + 8) file) rest))
    ∙ sym (append_assoc (take a file) (high 4 source ++ high 4 target ++ drop (a + 8) file) rest)
