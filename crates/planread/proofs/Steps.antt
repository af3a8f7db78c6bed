-- Reading, one field at a time. Assumes nothing.
use Rattle.std.specs.Prelude.{Result, Ok, Err, ⊤}
use mathlib.Core.Path.{◌≡◌, refl, sym, ap, ◌∙◌}
use mathlib.Core.Logic.{⊎_elim}
use mathlib.Core.Bool.{Bool, true, false, not, ◌&&◌, cond}
use mathlib.Core.List.{List, [], ◌∷◌, ◌++◌}
use Prim.Native.Nat.{ℕ, zero, suc, ◌+◌, ◌-◌, ◌*◌, ◌%◌, ◌≤◌, ◌<◌, min}
use native.Mathlib.Nat.{suc-sub-suc}
use native.Mathlib.Omega.{arith}
use lib.Dec.{eqb, ltb, leb}
use lib.ListN.{length, take, drop, replicate, length-append, length-replicate, length-drop}
use lib.Seq.{drop-drop, take-take}
use borrow.Author.Tests.{ltb-false, leb-true, leb-false, eqb-true, le-ltb, eq-eqb, ne_eqb, not-false}
use Rattle.typeset.proofs.Bools.{and_left, and_right, or_cases}
use Rattle.refusal.specs.declared.Refusal.{Refusal}
use Rattle.refusal.specs.declared.Refusal.TheVariants.{WrongEnd, WrongTag, WrongLength, RuleBroken, TooManySubscribers}
use Rattle.typeset.specs.Sets.{every}
use Rattle.plan.specs.declared.Plan.{Plan}
use Rattle.plan.specs.Rules.{boxes_blank}
use Rattle.planbytes.specs.Numbers.{number, numbers}
use Rattle.planread.specs.Reading.{tag_of, length_of, body_of, after, types_in, order_in, subscriber_with, allowed, ever_long, entered, kept, header, verdict_at, ended, read_from}
use Rattle.planbytes.proofs.Numbers.{numbers-length}

-- ---- what the tests before the rules say of a field that passed them

pub record Passed (stage count : ℕ) (left : List ℕ) : Type 0 where
  pub whole : 3 ≤ length left
  pub fine : allowed stage (tag_of left) ≡ true
  pub few : (eqb (tag_of left) 5 && leb 256 count) ≡ false
  pub ever : ever_long (tag_of left) (length_of left) ≡ true
  pub body : 3 + length_of left ≤ length left

-- a test that would have refused
cond-sound : (b : Bool) (r : Refusal) (v : (Result ⊤ Refusal)) → cond b (Err r) v ≡ Ok tt → (b ≡ false) × (v ≡ Ok tt)
cond-sound true r v e = let z : ◌≡◌ {A = ℕ} 0 1 = cc in let no : ⊥ = omega arith in absurd no
cond-sound false r v e = (refl, e)

pub header-passed : (stage count at : ℕ) (left : List ℕ) → header stage count at left ≡ Ok tt → Passed stage count left
unfolding header
header-passed stage count at left e =
    let a = cond-sound (ltb (length left) 3) (WrongEnd at) _ e in
    let b = cond-sound (not (allowed stage (tag_of left))) (WrongTag at) _ a.1 in
    let c = cond-sound (eqb (tag_of left) 5 && leb 256 count) (TooManySubscribers at) _ b.1 in
    let d = cond-sound (not (ever_long (tag_of left) (length_of left))) (WrongLength at) _ c.1 in
    let f = cond-sound (ltb (length left) (3 + length_of left)) (WrongEnd at) _ d.1 in
    record {
      whole = ltb-false (length left) 3 a.0;
      fine = not-false (allowed stage (tag_of left)) b.0;
      few = c.0;
      ever = not-false (ever_long (tag_of left) (length_of left)) d.0;
      body = ltb-false (length left) (3 + length_of left) f.0;
    }

pub passed-header : (stage count at : ℕ) (left : List ℕ) → Passed stage count left → header stage count at left ≡ Ok tt
unfolding header
passed-header stage count at left 𝓟 =
    rw (le-ltb (length left) 3 𝓟.whole, 𝓟.fine, 𝓟.few, 𝓟.ever, le-ltb (length left) (3 + length_of left) 𝓟.body)

-- ---- one field, and then the others
module _ (n stage : ℕ) (p : Plan) (at : ℕ) (left : List ℕ) where
  pub read-refused : {r : Refusal} → header stage p.count at left ≡ Err r → read_from (suc n) stage p at left ≡ Err r
  unfolding read_from verdict_at
  read-refused e = rw e

  module _ (e : header stage p.count at left ≡ (Ok tt)) where
    pub read-broken : kept (tag_of left) (body_of left) (entered (tag_of left) (body_of left) p) ≡ false → read_from (suc n) stage p at left ≡ Err (RuleBroken at)
    unfolding read_from verdict_at
    read-broken k = rw (e, k)

    module _ (k : kept (tag_of left) (body_of left) (entered (tag_of left) (body_of left) p) ≡ true) where
      pub read-end : tag_of left ≡ 127 → read_from (suc n) stage p at left ≡ ended p (at + 3) (after left)
      unfolding read_from verdict_at
      read-end t = rw (e, k, eq-eqb (tag_of left) 127 t)

      pub read-on : ¬ (tag_of left ≡ 127)
          → read_from (suc n) stage p at left
          ≡ read_from n (min (stage + 1) 4) (entered (tag_of left) (body_of left) p) (at + (3 + length_of left)) (after left)
      unfolding read_from verdict_at
      read-on t = rw (e, k, ne_eqb (tag_of left) 127 t)

-- ---- a part of a body that is long enough

pub drop-take : {A : Type 0} (k n : ℕ) (l : List A) → drop k (take n l) ≡ take (n - k) (drop k l)
drop-take zero n l = let e : n - 0 ≡ n = omega arith in rw e
drop-take (suc k) zero l = let e : 0 - suc k ≡ 0 = omega arith in rw e
drop-take (suc k) (suc n) [] = sym (none (suc n - suc k))
  where
    none : {A : Type 0} (m : ℕ) → ◌≡◌ {A = List A} (take m []) []
    none zero = refl
    none (suc m) = refl
drop-take (suc k) (suc n) (x ∷ l) = drop-take k n l ∙ rw (suc-sub-suc n k)

pub part_of : (w k n : ℕ) (l : List ℕ) → k + w ≤ n → take w (drop k (take n l)) ≡ take w (drop k l)
part_of w k n l h = let le : w ≤ n - k = omega arith in rw (drop-take k n l) (take-take w (n - k) (drop k l) le)

pub numbers-part : (w k n : ℕ) (l : List ℕ) → w * k ≤ n → numbers w k (take n l) ≡ numbers w k l
unfolding numbers
numbers-part w zero n l h = refl
numbers-part w (suc k) n l h =
    let e : w * suc k ≡ w + w * k = omega arith in
    let first : w ≤ n = omega arith in
    let others : w * k ≤ n - w = omega arith in
    rw (take-take w n l first, drop-take w n l, numbers-part w k (n - w) (drop w l) others)

pub types-part : (l : List ℕ) → types_in (take 20 l) ≡ types_in l
unfolding types_in
types-part l =
    λ i. record {
      existing = number (part_of 4 0 20 l (omega arith) i);
      bound = number (part_of 4 4 20 l (omega arith) i);
      reversible = number (part_of 4 8 20 l (omega arith) i);
      source_choice = number (part_of 4 12 20 l (omega arith) i);
      target_choice = number (part_of 4 16 20 l (omega arith) i);
    }

pub order-part : (l : List ℕ) → order_in (take 128 l) ≡ order_in l
unfolding order_in
order-part l = numbers-part 4 32 128 l (omega arith)

pub subscriber-part : (k n : ℕ) (l : List ℕ) → 13 + 2 * k ≤ n → subscriber_with k (take n l) ≡ subscriber_with k l
unfolding subscriber_with
subscriber-part k n l h =
    let others : 2 * k ≤ n - 13 = omega arith in
    λ i. record {
      kind = number (part_of 1 0 n l (omega arith) i);
      address = number (part_of 4 1 n l (omega arith) i);
      source = number (part_of 4 5 n l (omega arith) i);
      target = number (part_of 4 9 n l (omega arith) i);
      boxes = (ap (λ (z : List ℕ). numbers 2 k z ++ replicate (4 - k) 0) (drop-take 13 n l)
          ∙ ap (λ (z : List ℕ). z ++ replicate (4 - k) 0) (numbers-part 2 k (n - 13) (drop 13 l) others)) i;
      count = k;
    }

pub boxes-length : (k : ℕ) (l : List ℕ) → k ≤ 4 → length (subscriber_with k l).boxes ≡ 4
unfolding subscriber_with
boxes-length k l h = simp (length-append, numbers-length, length-replicate) (omega arith)

-- L20 of its own places, which the reader fills itself
pub boxes-blank : (k : ℕ) (l : List ℕ) → k ≤ 4 → boxes_blank (subscriber_with k l) ≡ true
unfolding subscriber_with boxes_blank numbers every
boxes-blank zero l h = refl
boxes-blank (suc zero) l h = refl
boxes-blank (suc (suc zero)) l h = refl
boxes-blank (suc (suc (suc zero))) l h = refl
boxes-blank (suc (suc (suc (suc zero)))) l h = refl
boxes-blank (suc (suc (suc (suc (suc k))))) l h = absurd (omega (arith, h))

-- ---- the tags and lengths by stage

pub version-next : (count : ℕ) (left : List ℕ) → Passed 0 count left → (tag_of left ≡ 1) × (length_of left ≡ 1)
unfolding allowed ever_long
version-next count left 𝓟 = let t = eqb-true (tag_of left) 1 𝓟.fine in (t, eqb-true (length_of left) 1 (rw t at 𝓟.ever))

pub types-next : (count : ℕ) (left : List ℕ) → Passed 1 count left → (tag_of left ≡ 2) × (length_of left ≡ 20)
unfolding allowed ever_long
types-next count left 𝓟 = let t = eqb-true (tag_of left) 2 𝓟.fine in (t, eqb-true (length_of left) 20 (rw t at 𝓟.ever))

pub source-next : (count : ℕ) (left : List ℕ) → Passed 2 count left → (tag_of left ≡ 3) × (length_of left ≡ 128)
unfolding allowed ever_long
source-next count left 𝓟 = let t = eqb-true (tag_of left) 3 𝓟.fine in (t, eqb-true (length_of left) 128 (rw t at 𝓟.ever))

pub target-next : (count : ℕ) (left : List ℕ) → Passed 3 count left → (tag_of left ≡ 4) × (length_of left ≡ 128)
unfolding allowed ever_long
target-next count left 𝓟 = let t = eqb-true (tag_of left) 4 𝓟.fine in (t, eqb-true (length_of left) 128 (rw t at 𝓟.ever))

pub end-next : (count : ℕ) (left : List ℕ) → Passed 4 count left → tag_of left ≡ 127 → length_of left ≡ 0
unfolding ever_long
end-next count left 𝓟 t = eqb-true (length_of left) 0 (rw t at 𝓟.ever)

-- a subscriber that is not one too many; its length
pub record Next (count : ℕ) (left : List ℕ) : Type 0 where
  pub tag : tag_of left ≡ 5
  pub room : count < 256
  pub low : 13 ≤ length_of left
  pub high : length_of left ≤ 21
  pub odd : length_of left % 2 ≡ 1

pub subscriber-next : (count : ℕ) (left : List ℕ) → Passed 4 count left → ¬ (tag_of left ≡ 127) → Next count left
unfolding allowed ever_long
subscriber-next count left 𝓟 other =
    let tag : tag_of left ≡ 5 =
    ⊎_elim (λ e. eqb-true (tag_of left) 5 e) (λ e. absurd (other (eqb-true (tag_of left) 127 e)))
    (or_cases (eqb (tag_of left) 5) (eqb (tag_of left) 127) 𝓟.fine) in
    let long : (leb 13 (length_of left) && leb (length_of left) 21 && eqb (length_of left % 2) 1) ≡ true = rw tag at 𝓟.ever in
    let both = and_left (leb 13 (length_of left) && leb (length_of left) 21) (eqb (length_of left % 2) 1) long in
    record {
      tag = tag;
      room = leb-false 256 count (rw tag at 𝓟.few);
      low = leb-true 13 (length_of left) (and_left (leb 13 (length_of left)) (leb (length_of left) 21) both);
      high = leb-true (length_of left) 21 (and_right (leb 13 (length_of left)) (leb (length_of left) 21) both);
      odd = eqb-true (length_of left % 2) 1 (and_right (leb 13 (length_of left) && leb (length_of left) 21) (eqb (length_of left % 2) 1) long);
    }

-- ---- a field at a place of the file, whose tag and length are known
module _ (n stage : ℕ) (p : Plan) (at : ℕ) (bs : List ℕ) (e : header stage p.count at (drop at bs) ≡ Ok tt)
    {tag m : ℕ} (t : tag_of (drop at bs) ≡ tag) (l : length_of (drop at bs) ≡ m) where
  pub at_room : at + (3 + m) ≤ length bs
  at_room = let fits = rw (l, length-drop at bs) at (header-passed stage p.count at (drop at bs) e).body in omega arith

  pub body_at : body_of (drop at bs) ≡ take m (drop (at + 3) bs)
  unfolding body_of
  body_at = rw (l, drop-drop 3 at bs)

  after-at : after (drop at bs) ≡ drop (at + (3 + m)) bs
  unfolding after
  after-at = rw (l, drop-drop (3 + m) at bs)

  pub at-broken : kept tag (take m (drop (at + 3) bs)) (entered tag (take m (drop (at + 3) bs)) p) ≡ false
      → read_from (suc n) stage p at (drop at bs) ≡ Err (RuleBroken at)
  at-broken k = read-broken n stage p at (drop at bs) e (rw (t, body_at) k)

  module _ (k : kept tag (take m (drop (at + 3) bs)) (entered tag (take m (drop (at + 3) bs)) p) ≡ true) where
    pub at-end : tag ≡ 127 → read_from (suc n) stage p at (drop at bs) ≡ ended p (at + 3) (drop (at + (3 + m)) bs)
    at-end x = read-end n stage p at (drop at bs) e (rw (t, body_at) k) (t ∙ x) ∙ ap (ended p (at + 3)) after-at

    pub at_on : ¬ (tag ≡ 127)
        → read_from (suc n) stage p at (drop at bs)
        ≡ read_from n (min (stage + 1) 4) (entered tag (take m (drop (at + 3) bs)) p) (at + (3 + m)) (drop (at + (3 + m)) bs)
    at_on x = read-on n stage p at (drop at bs) e (rw (t, body_at) k) (λ y. x (sym t ∙ y)) ∙ rw (t, l, body_at, after-at)
