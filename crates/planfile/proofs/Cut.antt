-- Of a long input the first 6,437 bytes decide: what comes after them changes neither the refusal nor its place. Assumes nothing.
use Rattle.std.specs.Prelude.{Ok, Err}
use mathlib.Core.Path.{◌≡◌, refl, sym, ap, ◌∙◌}
use mathlib.Core.Logic.{⊎_elim}
use mathlib.Core.Bool.{true, false, ◌&&◌}
use mathlib.Core.List.{List}
use Prim.Native.Nat.{ℕ, zero, suc, ◌+◌, ◌-◌, ◌*◌, ◌%◌, ◌≤◌, ◌<◌, min}
use native.Mathlib.Omega.{arith}
use lib.Dec.{eqb, leb}
use lib.ListN.{length, take, length-drop}
use lib.Seq.{take-take, length-take-le}
use borrow.Author.Tests.{eqb-true, eqb-false, leb-true, leb-false, le-ltb}
use Rattle.typeset.proofs.Bools.{yes_or_no, and_left, and_right, or_cases}
use Rattle.refusal.specs.declared.Refusal.{Refusal}
use Rattle.plan.specs.declared.Plan.{Plan}
use Rattle.planread.specs.Reading.{blank_plan, tag_of, length_of, body_of, after, allowed, ever_long, header, entered, kept, read_from, read_of}
use Rattle.planread.proofs.Steps.{Passed, header-passed, drop-take, part_of, read-refused, read-broken, read-on, read-end}
use Rattle.planfile.proofs.Back.{verdict-cases, ended_some}

module _ (left : List ℕ) (m : ℕ) (low : 3 ≤ m) (high : m ≤ length left) where
  cut-length : length (take m left) ≡ m
  cut-length = length-take-le m left high

  tag-cut : tag_of (take m left) ≡ tag_of left
  unfolding tag_of
  tag-cut = rw (take-take 1 m left (omega arith))

  len-cut : length_of (take m left) ≡ length_of left
  unfolding length_of
  len-cut = rw (part_of 2 1 m left (omega arith))

  body-cut : 3 + length_of left ≤ m → body_of (take m left) ≡ body_of left
  unfolding body_of
  body-cut h = rw len-cut (part_of (length_of left) 3 m left h)

  after-cut : after (take m left) ≡ take (m - (3 + length_of left)) (after left)
  unfolding after
  after-cut = rw len-cut (drop-take (3 + length_of left) m left)

  module _ (stage : ℕ) (p : Plan) (at : ℕ)
      (bound : allowed stage (tag_of left) ≡ true → (eqb (tag_of left) 5 && leb 256 p.count) ≡ false → ever_long (tag_of left) (length_of left) ≡ true → 3 + length_of left ≤ m) where
    header-same : header stage p.count at (take m left) ≡ header stage p.count at left
    unfolding header
    header-same =
        let long : 3 ≤ length left = omega arith in
        rw (cut-length, tag-cut, len-cut, le-ltb m 3 low, le-ltb (length left) 3 long)
        (⊎_elim
        (λ (a : allowed stage (tag_of left) ≡ true).
        ⊎_elim
        (λ (b : (eqb (tag_of left) 5 && leb 256 p.count) ≡ true). rw (a, b))
        (λ (b : (eqb (tag_of left) 5 && leb 256 p.count) ≡ false).
        ⊎_elim
        (λ (c : ever_long (tag_of left) (length_of left) ≡ true).
        let inside = bound a b c in
        rw (a, b, c, le-ltb m (3 + length_of left) inside, le-ltb (length left) (3 + length_of left) (omega arith)))
        (λ (c : ever_long (tag_of left) (length_of left) ≡ false). rw (a, b, c))
        (yes_or_no (ever_long (tag_of left) (length_of left))))
        (yes_or_no (eqb (tag_of left) 5 && leb 256 p.count)))
        (λ (a : allowed stage (tag_of left) ≡ false). rw a)
        (yes_or_no (allowed stage (tag_of left))))

    end_short : Passed stage p.count left → tag_of left ≡ 127 → length_of left ≡ 0
    unfolding ever_long
    end_short 𝓟 t = eqb-true (length_of left) 0 (rw t at 𝓟.ever)

    after-length : length (after left) ≡ length left - (3 + length_of left)
    unfolding after
    after-length = length-drop (3 + length_of left) left

    cut_step : (n : ℕ) → (tag_of left ≡ 127 → 3 < m)
        → (¬ (tag_of left ≡ 127) → Passed stage p.count left
        → read_from n (min (stage + 1) 4) (entered (tag_of left) (body_of left) p) (at + (3 + length_of left)) (take (m - (3 + length_of left)) (after left))
        ≡ read_from n (min (stage + 1) 4) (entered (tag_of left) (body_of left) p) (at + (3 + length_of left)) (after left))
        → read_from (suc n) stage p at (take m left) ≡ read_from (suc n) stage p at left
    cut_step n more on =
        ⊎_elim
        (λ (h : header stage p.count at left ≡ (Ok tt)).
        let 𝓟 = header-passed stage p.count at left h in
        let cut : header stage p.count at (take m left) ≡ (Ok tt) = header-same ∙ h in
        let inside = bound 𝓟.fine 𝓟.few 𝓟.ever in
        let body = body-cut inside in
        ⊎_elim
        (λ (k : kept (tag_of left) (body_of left) (entered (tag_of left) (body_of left) p) ≡ true).
        let k' : kept (tag_of (take m left)) (body_of (take m left)) (entered (tag_of (take m left)) (body_of (take m left)) p) ≡ true = rw (tag-cut, body) k in
        ⊎_elim
        (λ (z : eqb (tag_of left) 127 ≡ true).
        let t = eqb-true (tag_of left) 127 z in
        let none = end_short 𝓟 t in
        let room = more t in
        let here : length (after left) ≡ length left - 3 = after-length ∙ rw none in
        let some : ¬ (length (after left) ≡ 0) = λ e. omega arith in
        let some' : ¬ (length (after (take m left)) ≡ 0) = λ e.
        let size : length (take (m - (3 + length_of left)) (after left)) ≡ m - (3 + length_of left) = length-take-le (m - (3 + length_of left)) (after left) (rw (here, none) (omega arith)) in
        omega (arith, ap length after-cut) in
        read-end n stage p at (take m left) cut k' (tag-cut ∙ t) ∙ ended_some p (at + 3) (after (take m left)) some'
        ∙ sym (read-end n stage p at left h k t ∙ ended_some p (at + 3) (after left) some))
        (λ (z : eqb (tag_of left) 127 ≡ false).
        let t = eqb-false (tag_of left) 127 z in
        read-on n stage p at (take m left) cut k' (λ e. t (sym tag-cut ∙ e)) ∙ rw (tag-cut, len-cut, body, after-cut) (on t 𝓟) ∙ sym (read-on n stage p at left h k t))
        (yes_or_no (eqb (tag_of left) 127)))
        (λ (k : kept (tag_of left) (body_of left) (entered (tag_of left) (body_of left) p) ≡ false).
        let k' : kept (tag_of (take m left)) (body_of (take m left)) (entered (tag_of (take m left)) (body_of (take m left)) p) ≡ false = rw (tag-cut, body) k in
        read-broken n stage p at (take m left) cut k' ∙ sym (read-broken n stage p at left h k))
        (yes_or_no (kept (tag_of left) (body_of left) (entered (tag_of left) (body_of left) p))))
        (λ (h : (r : Refusal) × (header stage p.count at left ≡ Err r)).
        read-refused n stage p at (take m left) (header-same ∙ h.1) ∙ sym (read-refused n stage p at left h.1))
        (verdict-cases (header stage p.count at left))

-- ---- the subscribers that can still come, and the end

abbrev Same : ℕ → ℕ → Plan → ℕ → List ℕ → ℕ → Type 0
Same n stage p at left m = read_from n stage p at (take m left) ≡ read_from n stage p at left

after-enough : (left : List ℕ) (m need : ℕ) → need + (3 + length_of left) ≤ m → m ≤ length left → m - (3 + length_of left) ≤ length (after left)
unfolding after
after-enough left m need h l = rw (length-drop (3 + length_of left) left) (omega arith)

short-field : (tag n : ℕ) → allowed 4 tag ≡ true → ever_long tag n ≡ true → (tag ≡ 127 → n ≡ 0) × (¬ (tag ≡ 127) → (tag ≡ 5) × (n ≤ 21))
unfolding allowed ever_long
short-field tag n a e = (
  λ t. eqb-true n 0 (rw t at e),
  λ other.
      let five : tag ≡ 5 = ⊎_elim (λ x. eqb-true tag 5 x) (λ x. absurd (other (eqb-true tag 127 x))) (or_cases (eqb tag 5) (eqb tag 127) a) in
      let long : (leb 13 n && leb n 21 && eqb (n % 2) 1) ≡ true = rw five at e in
      (five, leb-true n 21 (and_right (leb 13 n) (leb n 21) (and_left (leb 13 n && leb n 21) (eqb (n % 2) 1) long))),
)

few-five : (tag count : ℕ) → tag ≡ 5 → (eqb tag 5 && leb 256 count) ≡ false → count < 256
few-five tag count t e = leb-false 256 count (rw t at e)

cut-bound : (k count tag n m : ℕ) → count + k ≡ 256 → 24 * k + 4 ≤ m → allowed 4 tag ≡ true → (eqb tag 5 && leb 256 count) ≡ false → ever_long tag n ≡ true → 3 + n ≤ m
cut-bound k count tag n m c h a f e =
    ⊎_elim
    (λ (z : eqb tag 127 ≡ true). let none = (short-field tag n a e).0 (eqb-true tag 127 z) in omega arith)
    (λ (z : eqb tag 127 ≡ false). let is = (short-field tag n a e).1 (eqb-false tag 127 z) in let room = few-five tag count is.0 f in let most = is.1 in omega arith)
    (yes_or_no (eqb tag 127))

next-count : (left : List ℕ) (p : Plan) → tag_of left ≡ 5 → (entered (tag_of left) (body_of left) p).count ≡ p.count + 1
unfolding entered
next-count left p t = rw t

cut-subscribers : (k : ℕ) (p : Plan) (at : ℕ) (left : List ℕ) (m : ℕ) → p.count + k ≡ 256 → 24 * k + 4 ≤ m → m ≤ length left → Same (suc k) 4 p at left m
cut-subscribers zero p at left m c h l =
    cut_step left m (omega arith) l 4 p at (cut-bound 0 p.count (tag_of left) (length_of left) m c h) 0 (λ t. omega arith)
    (λ other 𝓟. let is = (short-field (tag_of left) (length_of left) 𝓟.fine 𝓟.ever).1 other in let room = few-five (tag_of left) p.count is.0 𝓟.few in
    let no : ⊥ = omega arith in absurd no)
cut-subscribers (suc k) p at left m c h l =
    cut_step left m (omega arith) l 4 p at (cut-bound (suc k) p.count (tag_of left) (length_of left) m c h) (suc k) (λ t. omega arith)
    (λ other 𝓟.
    let is = (short-field (tag_of left) (length_of left) 𝓟.fine 𝓟.ever).1 other in
    let most = is.1 in
    cut-subscribers k (entered (tag_of left) (body_of left) p) (at + (3 + length_of left)) (after left) (m - (3 + length_of left))
    (rw (next-count left p is.0) (omega arith)) (omega arith) (after-enough left m 0 (omega arith) l))

-- ---- the four fixed fields

fixed-count : (left : List ℕ) (p : Plan) (tag : ℕ) → tag_of left ≡ tag → eqb tag 5 ≡ false → (entered (tag_of left) (body_of left) p).count ≡ p.count
unfolding entered
fixed-count left p tag t five =
    rw t (⊎_elim (λ (a : eqb tag 2 ≡ true). rw a) (λ (a : eqb tag 2 ≡ false).
    ⊎_elim (λ (b : eqb tag 3 ≡ true). rw (a, b)) (λ (b : eqb tag 3 ≡ false).
    ⊎_elim (λ (c : eqb tag 4 ≡ true). rw (a, b, c)) (λ (c : eqb tag 4 ≡ false). rw (a, b, c, five)) (yes_or_no (eqb tag 4))) (yes_or_no (eqb tag 3))) (yes_or_no (eqb tag 2)))

-- a fixed field of this tag and length, with room for it and for what the fields after it need
module _ (n stage tag size need : ℕ) (some : 1 ≤ need) (five : eqb tag 5 ≡ false)
    (is : (t l : ℕ) → allowed stage t ≡ true → ever_long t l ≡ true → (t ≡ tag) × (l ≡ size))
    (rest : (p : Plan) (at : ℕ) (left : List ℕ) (m : ℕ) → p.count ≡ 0 → need ≤ m → m ≤ length left → Same n (min (stage + 1) 4) p at left m) where
  cut-fixed : (p : Plan) (at : ℕ) (left : List ℕ) (m : ℕ) → p.count ≡ 0 → need + (3 + size) ≤ m → m ≤ length left → Same (suc n) stage p at left m
  cut-fixed p at left m c h l =
      cut_step left m (omega arith) l stage p at (λ a f e. let s = (is (tag_of left) (length_of left) a e).1 in omega arith) n (λ t. omega arith)
      (λ no 𝓟.
      let s = is (tag_of left) (length_of left) 𝓟.fine 𝓟.ever in
      let long = s.1 in
      rest (entered (tag_of left) (body_of left) p) (at + (3 + length_of left)) (after left) (m - (3 + length_of left))
      (fixed-count left p tag s.0 five ∙ c) (omega arith) (after-enough left m need (omega arith) l))

one_field : (t l : ℕ) → allowed 0 t ≡ true → ever_long t l ≡ true → (t ≡ 1) × (l ≡ 1)
unfolding allowed ever_long
one_field t l a e = let x = eqb-true t 1 a in (x, eqb-true l 1 (rw x at e))

two-field : (t l : ℕ) → allowed 1 t ≡ true → ever_long t l ≡ true → (t ≡ 2) × (l ≡ 20)
unfolding allowed ever_long
two-field t l a e = let x = eqb-true t 2 a in (x, eqb-true l 20 (rw x at e))

three-field : (t l : ℕ) → allowed 2 t ≡ true → ever_long t l ≡ true → (t ≡ 3) × (l ≡ 128)
unfolding allowed ever_long
three-field t l a e = let x = eqb-true t 3 a in (x, eqb-true l 128 (rw x at e))

four-field : (t l : ℕ) → allowed 3 t ≡ true → ever_long t l ≡ true → (t ≡ 4) × (l ≡ 128)
unfolding allowed ever_long
four-field t l a e = let x = eqb-true t 4 a in (x, eqb-true l 128 (rw x at e))

cut-four : (p : Plan) (at : ℕ) (left : List ℕ) (m : ℕ) → p.count ≡ 0 → 6148 ≤ m → m ≤ length left → Same 257 4 p at left m
cut-four p at left m c h l = cut-subscribers 256 p at left m (omega arith) (omega arith) l

cut-three : (p : Plan) (at : ℕ) (left : List ℕ) (m : ℕ) → p.count ≡ 0 → 6279 ≤ m → m ≤ length left → Same 258 3 p at left m
cut-three = cut-fixed 257 3 4 128 6148 (omega arith) refl four-field cut-four

cut-two : (p : Plan) (at : ℕ) (left : List ℕ) (m : ℕ) → p.count ≡ 0 → 6410 ≤ m → m ≤ length left → Same 259 2 p at left m
cut-two = cut-fixed 258 2 3 128 6279 (omega arith) refl three-field cut-three

cut-one : (p : Plan) (at : ℕ) (left : List ℕ) (m : ℕ) → p.count ≡ 0 → 6433 ≤ m → m ≤ length left → Same 260 1 p at left m
cut-one = cut-fixed 259 1 2 20 6410 (omega arith) refl two-field cut-two

blank-count : blank_plan.count ≡ 0
unfolding blank_plan
blank-count = refl

-- of an input of 6,437 bytes or more, those decide
pub first-decide : (bs : List ℕ) → 6437 ≤ length bs → read_of (take 6437 bs) ≡ read_of bs
unfolding read_of
first-decide bs h = cut-fixed 260 0 1 1 6433 (omega arith) refl one_field cut-one blank_plan 0 bs 6437 blank-count (omega arith) h
