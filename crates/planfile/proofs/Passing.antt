-- A field that stands at the front of what is left: its parts, and that reading passes it. Assumes nothing.
use mathlib.Core.Path.{◌≡◌, refl, sym, ap, ◌∙◌}
use mathlib.Core.Bool.{true, false, ◌&&◌}
use mathlib.Core.List.{List, ◌++◌, append_assoc}
use Prim.Native.Nat.{ℕ, suc, ◌+◌, ◌^◌, ◌≤◌, ◌<◌, min}
use native.Mathlib.Omega.{arith}
use lib.Dec.{eqb, leb}
use lib.ListN.{length, take, drop, length-append, length-drop, take-append-drop}
use lib.Seq.{take_at, drop_at, take-add, drop-drop, length-take-le}
use Rattle.plan.specs.declared.Plan.{Plan}
use Rattle.planbytes.specs.Numbers.{high, number, Below}
use Rattle.planbytes.specs.Format.{field}
use Rattle.planbytes.proofs.Lengths.{high-length, field-length}
use Rattle.planbytes.proofs.Rounds.{number-high, high-number, below-take, below-drop}
use Rattle.planread.specs.Reading.{tag_of, length_of, body_of, after, allowed, ever_long, entered, kept, ended, read_from}
use Rattle.planread.proofs.Steps.{Passed, passed-header, read-on, read-end}

-- ---- the parts of a field that was written
module _ (tag : ℕ) (body rest : List ℕ) (small : tag < 2 ^ 8) (short : length body < 2 ^ 16) where
  abbrev left : List ℕ
  left = field tag body ++ rest

  left_is : left ≡ high 1 tag ++ (high 2 (length body) ++ (body ++ rest))
  unfolding field
  left_is =
      append_assoc (high 1 tag ++ high 2 (length body)) body rest ∙ append_assoc (high 1 tag) (high 2 (length body)) (body ++ rest)

  pub tag-of : tag_of left ≡ tag
  unfolding tag_of
  tag-of =
      ap (λ (l : List ℕ). number (take 1 l)) left_is
      ∙ ap number (take_at (high 1 tag) (high 2 (length body) ++ (body ++ rest)) 1 (high-length 1 tag)) ∙ number-high 1 tag small

  after_one : drop 1 left ≡ high 2 (length body) ++ (body ++ rest)
  after_one = ap (drop 1) left_is ∙ drop_at (high 1 tag) (high 2 (length body) ++ (body ++ rest)) 1 (high-length 1 tag)

  pub length-of : length_of left ≡ length body
  unfolding length_of
  length-of =
      ap (λ (l : List ℕ). number (take 2 l)) after_one
      ∙ ap number (take_at (high 2 (length body)) (body ++ rest) 2 (high-length 2 (length body))) ∙ number-high 2 (length body) short

  after-three : drop 3 left ≡ body ++ rest
  after-three =
      sym (drop-drop 2 1 left) ∙ ap (drop 2) after_one ∙ drop_at (high 2 (length body)) (body ++ rest) 2 (high-length 2 (length body))

  pub body-of : body_of left ≡ body
  unfolding body_of
  body-of = ap (λ (n : ℕ). take n (drop 3 left)) length-of ∙ ap (take (length body)) after-three ∙ take_at body rest (length body) refl

  pub after-of : after left ≡ rest
  unfolding after
  after-of =
      ap (λ (n : ℕ). drop (3 + n) left) length-of ∙ sym (drop-drop (length body) 3 left) ∙ ap (drop (length body)) after-three ∙ drop_at body rest (length body) refl

  left-length : length left ≡ 3 + length body + length rest
  left-length = length-append (field tag body) rest ∙ ap (λ (n : ℕ). n + length rest) (field-length tag body)

  -- ---- and that it is passed, where it may stand
  module _ (stage : ℕ) (p : Plan) (fine : allowed stage tag ≡ true) (few : (eqb tag 5 && leb 256 p.count) ≡ false) (ever : ever_long tag (length body) ≡ true) where
    passed : Passed stage p.count left
    passed =
        record {
          whole = rw left-length (omega arith);
          fine = rw tag-of fine;
          few = rw tag-of few;
          ever = rw (tag-of, length-of) ever;
          body = rw (length-of, left-length) (omega arith);
        }

    module _ (ok : kept tag body (entered tag body p) ≡ true) (n at : ℕ) where
      pub pass_on : ¬ (tag ≡ 127) → read_from (suc n) stage p at left ≡ read_from n (min (stage + 1) 4) (entered tag body p) (at + (3 + length body)) rest
      pass_on other =
          read-on n stage p at left (passed-header stage p.count at left passed) (rw (tag-of, body-of) ok) (λ e. other (sym tag-of ∙ e))
          ∙ rw (tag-of, length-of, body-of, after-of)

      pub pass-end : tag ≡ 127 → read_from (suc n) stage p at left ≡ ended p (at + 3) rest
      pass-end is =
          read-end n stage p at left (passed-header stage p.count at left passed) (rw (tag-of, body-of) ok) (tag-of ∙ is) ∙ ap (ended p (at + 3)) after-of

-- ---- a field that was read is one that would be written
module _ (left : List ℕ) (p : Below 256 left) (whole : 3 + length_of left ≤ length left) where
  pub body-size : length (body_of left) ≡ length_of left
  unfolding body_of
  body-size = length-take-le (length_of left) (drop 3 left) (rw (length-drop 3 left) (omega arith))

  pub body_below : Below 256 (body_of left)
  unfolding body_of
  body_below = below-take 256 (length_of left) (drop 3 left) (below-drop 256 3 left p)

  length-small : length_of left ≡ number (take 2 (drop 1 left))
  unfolding length_of
  length-small = refl

  pub field_back : left ≡ field (tag_of left) (body_of left) ++ after left
  unfolding field tag_of after body_of
  field_back =
      let one : high 1 (number (take 1 left)) ≡ take 1 left = high-number 1 (take 1 left) (length-take-le 1 left (omega arith)) (below-take 256 1 left p) in
      let two : high 2 (length_of left) ≡ take 2 (drop 1 left) =
      ap (high 2) length-small ∙ high-number 2 (take 2 (drop 1 left)) (length-take-le 2 (drop 1 left) (rw (length-drop 1 left) (omega arith))) (below-take 256 2 (drop 1 left) (below-drop 256 1 left p)) in
      sym (rw (body-size, one, two, ← take-add 1 2 left, ← take-add 3 (length_of left) left) (take-append-drop (3 + length_of left) left))
