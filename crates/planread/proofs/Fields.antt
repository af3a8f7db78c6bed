-- The parts of a field at a place of the file. Assumes nothing.
use Rattle.std.specs.Prelude.{Ok, Err}
use mathlib.Core.Path.{◌≡◌, refl, sym, ap, ap₂, ◌∙◌}
use mathlib.Core.List.{List, [], ◌∷◌, ◌++◌}
use Prim.Native.Nat.{ℕ, zero, suc, ◌+◌, ◌-◌, ◌*◌, ◌≤◌, ◌<◌}
use mathlib.Core.Bool.{true, false, ◌&&◌, cond}
use lib.Dec.{eqb, leb, ltb}
use borrow.Author.Tests.{lt-ltb, le-ltb}
use native.Mathlib.Omega.{arith}
use lib.ListN.{length, get_or, take, drop, replicate, length-drop}
use lib.Seq.{drop-drop}
use Rattle.refusal.specs.declared.Refusal.TheVariants.{WrongEnd, WrongTag, WrongLength, TooManySubscribers}
use Rattle.plan.specs.declared.Types.{Types}
use Rattle.plan.specs.declared.Subscriber.{Subscriber}
use Rattle.planbytes.specs.Numbers.{number, numbers}
use Rattle.planread.specs.Reading.{tag_of, length_of, types_in, subscriber_with, allowed, ever_long, header}
use Rattle.planbytes.proofs.Numbers.{one_at}

pub tag_at : (bs : List ℕ) (at : ℕ) → at < length bs → tag_of (drop at bs) ≡ get_or bs at 0
unfolding tag_of
tag_at bs at h = one_at bs at h

pub length_at : (bs : List ℕ) (at : ℕ) → length_of (drop at bs) ≡ number (take 2 (drop (at + 1) bs))
unfolding length_of
length_at bs at = rw (drop-drop 1 at bs)

-- ---- what the body of a field says, number by number

-- the w bytes at a place k behind another
pub part_at : (w : ℕ) (bs : List ℕ) (at k : ℕ) {r : ℕ} → r ≡ number (take w (drop (at + k) bs)) → r ≡ number (take w (drop k (drop at bs)))
part_at w bs at k e = e ∙ ap (λ (l : List ℕ). number (take w l)) (sym (drop-drop k at bs))

pub types-at : (bs : List ℕ) (at : ℕ) {a b c d e : ℕ} → a ≡ number (take 4 (drop at bs)) → b ≡ number (take 4 (drop (at + 4) bs))
    → c ≡ number (take 4 (drop (at + 8) bs)) → d ≡ number (take 4 (drop (at + 12) bs)) → e ≡ number (take 4 (drop (at + 16) bs))
    → ◌≡◌ {A = Types} (record { existing = a; bound = b; reversible = c; source_choice = d; target_choice = e }) (types_in (drop at bs))
unfolding types_in
types-at bs at p q r s t =
    λ i. record {
      existing = p i;
      bound = part_at 4 bs at 4 q i;
      reversible = part_at 4 bs at 8 r i;
      source_choice = part_at 4 bs at 12 s i;
      target_choice = part_at 4 bs at 16 t i;
    }

pub subscriber-at : (bs : List ℕ) (at k : ℕ) → at < length bs → {a s t : ℕ} {boxes : List ℕ} → a ≡ number (take 4 (drop (at + 1) bs))
    → s ≡ number (take 4 (drop (at + 5) bs)) → t ≡ number (take 4 (drop (at + 9) bs)) → boxes ≡ numbers 2 k (drop (at + 13) bs) ++ replicate (4 - k) 0
    → ◌≡◌ {A = Subscriber} (record { kind = get_or bs at 0; address = a; source = s; target = t; boxes = boxes; count = k }) (subscriber_with k (drop at bs))
unfolding subscriber_with
subscriber-at bs at k h p q r b =
    λ i. record {
      kind = sym (one_at bs at h) i;
      address = part_at 4 bs at 1 p i;
      source = part_at 4 bs at 5 q i;
      target = part_at 4 bs at 9 r i;
      boxes = (b ∙ ap (λ (l : List ℕ). numbers 2 k l ++ replicate (4 - k) 0) (sym (drop-drop 13 at bs))) i;
      count = k;
    }

-- ---- the tests at a field at a place, each where the earlier ones passed
module _ (stage count at : ℕ) (bs : List ℕ) where
  pub header-cut : length bs - at < 3 → header stage count at (drop at bs) ≡ Err (WrongEnd at)
  unfolding header
  header-cut h = rw (length-drop at bs, lt-ltb (length bs - at) 3 h)

  module _ (whole : 3 ≤ length bs - at) where
    inside : at < length bs
    inside = omega arith

    pub header-tag : allowed stage (get_or bs at 0) ≡ false → header stage count at (drop at bs) ≡ Err (WrongTag at)
    unfolding header
    header-tag e = rw (length-drop at bs, le-ltb (length bs - at) 3 whole, tag_at bs at inside, e)

    module _ (fine : allowed stage (get_or bs at 0) ≡ true) where
      pub header-many : (eqb (get_or bs at 0) 5 && leb 256 count) ≡ true → header stage count at (drop at bs) ≡ Err (TooManySubscribers at)
      unfolding header
      header-many e = rw (length-drop at bs, le-ltb (length bs - at) 3 whole, tag_at bs at inside, fine, e)

      module _ (few : (eqb (get_or bs at 0) 5 && leb 256 count) ≡ false) {n : ℕ} (long : n ≡ number (take 2 (drop (at + 1) bs))) where
        pub header-long : ever_long (get_or bs at 0) n ≡ false → header stage count at (drop at bs) ≡ Err (WrongLength at)
        unfolding header
        header-long e = rw (length-drop at bs, le-ltb (length bs - at) 3 whole, tag_at bs at inside, fine, few, length_at bs at, ← long, e)

        module _ (ever : ever_long (get_or bs at 0) n ≡ true) where
          pub header-body : length bs - at < 3 + n → header stage count at (drop at bs) ≡ Err (WrongEnd at)
          unfolding header
          header-body h =
              rw (length-drop at bs, le-ltb (length bs - at) 3 whole, tag_at bs at inside, fine, few, length_at bs at, ← long, ever, lt-ltb (length bs - at) (3 + n) h)

          pub header-whole : 3 + n ≤ length bs - at → header stage count at (drop at bs) ≡ Ok tt
          unfolding header
          header-whole h =
              rw (length-drop at bs, le-ltb (length bs - at) 3 whole, tag_at bs at inside, fine, few, length_at bs at, ← long, ever, le-ltb (length bs - at) (3 + n) h)

-- ---- four box numbers, one by one

four : (l : List ℕ) (k : ℕ) → k ≤ 4
    → cond (ltb 0 k) (number (take 2 l)) 0 ∷ cond (ltb 1 k) (number (take 2 (drop 2 l))) 0 ∷ cond (ltb 2 k) (number (take 2 (drop 2 (drop 2 l)))) 0
    ∷ cond (ltb 3 k) (number (take 2 (drop 2 (drop 2 (drop 2 l))))) 0 ∷ []
    ≡ numbers 2 k l ++ replicate (4 - k) 0
unfolding numbers
four l zero h = refl
four l (suc zero) h = refl
four l (suc (suc zero)) h = refl
four l (suc (suc (suc zero))) h = refl
four l (suc (suc (suc (suc zero)))) h = refl
four l (suc (suc (suc (suc (suc k))))) h = absurd (omega (arith, h))

pub boxes-are : (bs : List ℕ) (at k : ℕ) → k ≤ 4 → {a b c d : ℕ} → a ≡ cond (ltb 0 k) (number (take 2 (drop (at + 2 * 0) bs))) 0
    → b ≡ cond (ltb 1 k) (number (take 2 (drop (at + 2 * 1) bs))) 0 → c ≡ cond (ltb 2 k) (number (take 2 (drop (at + 2 * 2) bs))) 0
    → d ≡ cond (ltb 3 k) (number (take 2 (drop (at + 2 * 3) bs))) 0 → a ∷ b ∷ c ∷ d ∷ [] ≡ numbers 2 k (drop at bs) ++ replicate (4 - k) 0
boxes-are bs at k h {a} {b} {c} {d} p q r s =
    let first : drop (at + 2 * 0) bs ≡ drop at bs = ap (λ (n : ℕ). drop n bs) (let same : at + 2 * 0 ≡ at = omega arith in same) in
    let second : drop (at + 2 * 1) bs ≡ drop 2 (drop at bs) = sym (drop-drop 2 at bs) in
    let third : drop (at + 2 * 2) bs ≡ drop 2 (drop 2 (drop at bs)) =
    ap (λ (n : ℕ). drop n bs) (let same : at + 2 * 2 ≡ at + 2 * 1 + 2 = omega arith in same) ∙ sym (drop-drop 2 (at + 2 * 1) bs) ∙ ap (drop 2) second in
    let fourth : drop (at + 2 * 3) bs ≡ drop 2 (drop 2 (drop 2 (drop at bs))) =
    ap (λ (n : ℕ). drop n bs) (let same : at + 2 * 3 ≡ at + 2 * 2 + 2 = omega arith in same) ∙ sym (drop-drop 2 (at + 2 * 2) bs) ∙ ap (drop 2) third in
    ap₂ (λ (x : ℕ) (y : List ℕ). x ∷ y) (p ∙ ap (λ (n : List ℕ). cond (ltb 0 k) (number (take 2 n)) 0) first)
    (ap₂ (λ (x : ℕ) (y : List ℕ). x ∷ y) (q ∙ ap (λ (n : List ℕ). cond (ltb 1 k) (number (take 2 n)) 0) second)
    (ap₂ (λ (x : ℕ) (y : List ℕ). x ∷ y) (r ∙ ap (λ (n : List ℕ). cond (ltb 2 k) (number (take 2 n)) 0) third)
    (ap (λ (x : ℕ). x ∷ []) (s ∙ ap (λ (n : List ℕ). cond (ltb 3 k) (number (take 2 n)) 0) fourth))))
    ∙ four (drop at bs) k h
