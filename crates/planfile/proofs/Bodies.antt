-- What a body says and the body of what it says: each undoes the other. Assumes nothing.
use mathlib.Core.Path.{◌≡◌, refl, sym, ap, ◌∙◌}
use mathlib.Core.Bool.{true}
use mathlib.Core.List.{List, [], ◌∷◌, ◌++◌, append_assoc, append-nil}
use Prim.Native.Nat.{ℕ, zero, suc, ◌+◌, ◌-◌, ◌*◌, ◌/◌, ◌^◌, ◌≤◌, ◌<◌}
use native.Mathlib.Omega.{arith}
use lib.Dec.{eqb, leb}
use lib.ListN.{length, get_or, take, drop, replicate, length-append, length-drop, length-replicate, take-append-drop}
use lib.Seq.{take_at, drop_at, take_all, take-add, drop-drop, get_or-drop, length-take-le}
use borrow.Author.Tests.{eqb-true, le-leb}
use Rattle.typeset.specs.Sets.{implies}
use Rattle.typeset.proofs.Bools.{imp-at}
use Rattle.typeset.proofs.Below.{every-at}
use Rattle.plan.specs.declared.Types.{Types}
use Rattle.plan.specs.declared.Subscriber.{Subscriber}
use Rattle.plan.specs.Parts.{box}
use Rattle.plan.specs.Rules.{boxes_blank}
use Rattle.planbytes.specs.Numbers.{high, number, row, numbers, Below}
use Rattle.planbytes.specs.Format.{sets_of, types_body, order_body, fixed_of, subscriber_body}
use Rattle.planbytes.proofs.Numbers.{numbers-length}
use Rattle.planbytes.proofs.Lengths.{high-length, row-length, subscriber-length}
use Rattle.planbytes.proofs.Rounds.{number-high, high-number, number_lt, numbers-row, row-numbers, numbers-below, below-take, below-drop, below-append}
use Rattle.planread.specs.Reading.{types_in, order_in, boxes_in, subscriber_with, subscriber_in}
use Rattle.planfile.specs.Typed.{TypedSubscriber}

-- ---- the five sets

types-eq : (a b : Types) → sets_of a ≡ sets_of b → a ≡ b
types-eq a b e =
    λ i. record {
      existing = ap (λ (l : List ℕ). get_or l 0 0) e i;
      bound = ap (λ (l : List ℕ). get_or l 1 0) e i;
      reversible = ap (λ (l : List ℕ). get_or l 2 0) e i;
      source_choice = ap (λ (l : List ℕ). get_or l 3 0) e i;
      target_choice = ap (λ (l : List ℕ). get_or l 4 0) e i;
    }

sets-in : (body : List ℕ) → sets_of (types_in body) ≡ numbers 4 5 body
unfolding types_in numbers
sets-in body = rw (drop-drop 4 4 body, drop-drop 4 8 body, drop-drop 4 12 body)

pub types-there : (t : Types) → Below (2 ^ 32) (sets_of t) → types_in (types_body t) ≡ t
unfolding types_body
types-there t p =
    types-eq (types_in (row 4 (sets_of t))) t
    (sets-in (row 4 (sets_of t)) ∙ ap (numbers 4 5) (sym (append-nil (row 4 (sets_of t)))) ∙ numbers-row 4 (sets_of t) [] p)

module _ (body : List ℕ) (long : length body ≡ 20) (p : Below 256 body) where
  pub types-back : types_body (types_in body) ≡ body
  unfolding types_body
  types-back = ap (row 4) (sets-in body) ∙ row-numbers 4 5 body p (omega arith) ∙ take_all 20 body (omega arith)

  pub types-fit : Below (2 ^ 32) (sets_of (types_in body))
  types-fit = rw (sets-in body) (numbers-below 4 5 body p (omega arith))

-- ---- an order

pub order-there : (rows : List ℕ) → length rows ≡ 32 → Below (2 ^ 32) rows → order_in (order_body rows) ≡ rows
unfolding order_in order_body
order-there rows long p =
    ap (λ (n : ℕ). numbers 4 n (row 4 rows)) (sym long) ∙ ap (numbers 4 (length rows)) (sym (append-nil (row 4 rows))) ∙ numbers-row 4 rows [] p

module _ (body : List ℕ) (long : length body ≡ 128) (p : Below 256 body) where
  pub order-back : order_body (order_in body) ≡ body
  unfolding order_body order_in
  order-back = row-numbers 4 32 body p (omega arith) ∙ take_all 128 body (omega arith)

  pub order-fits : Below (2 ^ 32) (order_in body)
  unfolding order_in
  order-fits = numbers-below 4 32 body p (omega arith)

pub order-rows : (body : List ℕ) → length (order_in body) ≡ 32
unfolding order_in
order-rows body = numbers-length 4 32 body

-- ---- a subscriber

fixed_in : (k : ℕ) (body : List ℕ) → fixed_of (subscriber_with k body) ≡ numbers 4 3 (drop 1 body)
unfolding subscriber_with numbers
fixed_in k body = rw (drop-drop 4 1 body, drop-drop 4 5 body)

pub zeros : (l : List ℕ) → ((i : ℕ) → i < length l → get_or l i 0 ≡ 0) → l ≡ replicate (length l) 0
zeros [] f = refl
zeros (x ∷ l) f = λ j. f 0 (omega arith) j ∷ zeros l (λ i h. f (suc i) (omega arith)) j

zeros-below : (n : ℕ) → Below (2 ^ 16) (replicate n 0)
unfolding Below
zeros-below zero = tt
zeros-below (suc n) = (omega arith, zeros-below n)

-- the places past the count
pub boxes-whole : (s : Subscriber) → length s.boxes ≡ 4 → s.count ≤ 4 → boxes_blank s ≡ true → take s.count s.boxes ++ replicate (4 - s.count) 0 ≡ s.boxes
unfolding boxes_blank
boxes-whole s four few blank =
    let long : length (drop s.count s.boxes) ≡ 4 - s.count = length-drop s.count s.boxes ∙ ap (λ (n : ℕ). n - s.count) four in
    let none : drop s.count s.boxes ≡ replicate (4 - s.count) 0 =
    zeros (drop s.count s.boxes) (λ i h.
    let below : s.count + i < 4 = omega arith in
    get_or-drop s.count s.boxes i 0
    ∙ eqb-true (box s (s.count + i)) 0 (imp-at (leb s.count (s.count + i)) (eqb (box s (s.count + i)) 0)
    (every-at 4 (λ x. implies (leb s.count x) (eqb (box s x) 0)) blank (s.count + i) below) (le-leb s.count (s.count + i) (omega arith))))
    ∙ ap (λ (n : ℕ). replicate n 0) long in
    rw (← none) (take-append-drop s.count s.boxes)

module _ (s : Subscriber) (𝓣 : TypedSubscriber s) (few : s.count ≤ 4) (blank : boxes_blank s ≡ true) where
  used-length : length (take s.count s.boxes) ≡ s.count
  used-length = length-take-le s.count s.boxes (rw 𝓣.four_boxes few)

  pub body-length : length (subscriber_body s) ≡ 13 + 2 * s.count
  body-length = subscriber-length s ∙ ap (λ (n : ℕ). 13 + 2 * n) used-length

  abbrev bytes : List ℕ
  bytes = row 2 (take s.count s.boxes)

  body_is : subscriber_body s ≡ high 1 s.kind ++ (row 4 (fixed_of s) ++ bytes)
  unfolding subscriber_body
  body_is = append_assoc (high 1 s.kind) (row 4 (fixed_of s)) bytes

  rest-one : drop 1 (subscriber_body s) ≡ row 4 (fixed_of s) ++ bytes
  rest-one = ap (drop 1) body_is ∙ drop_at (high 1 s.kind) (row 4 (fixed_of s) ++ bytes) 1 (high-length 1 s.kind)

  kind-there : number (take 1 (subscriber_body s)) ≡ s.kind
  kind-there =
      ap (λ (l : List ℕ). number (take 1 l)) body_is
      ∙ ap number (take_at (high 1 s.kind) (row 4 (fixed_of s) ++ bytes) 1 (high-length 1 s.kind)) ∙ number-high 1 s.kind 𝓣.kind_fits

  fixed-there : fixed_of (subscriber_with s.count (subscriber_body s)) ≡ fixed_of s
  fixed-there = fixed_in s.count (subscriber_body s) ∙ ap (numbers 4 3) rest-one ∙ numbers-row 4 (fixed_of s) bytes 𝓣.fixed_fit

  rest-thirteen : drop 13 (subscriber_body s) ≡ bytes
  unfolding subscriber_body
  rest-thirteen =
      drop_at (high 1 s.kind ++ row 4 (fixed_of s)) bytes 13
      (length-append (high 1 s.kind) (row 4 (fixed_of s)) ∙ rw (high-length 1 s.kind, row-length 4 (fixed_of s)))

  boxes-there : numbers 2 s.count (drop 13 (subscriber_body s)) ++ replicate (4 - s.count) 0 ≡ s.boxes
  boxes-there =
      ap (λ (l : List ℕ). l ++ replicate (4 - s.count) 0)
      (ap (numbers 2 s.count) (rest-thirteen ∙ sym (append-nil bytes)) ∙ ap (λ (n : ℕ). numbers 2 n (bytes ++ [])) (sym used-length)
      ∙ numbers-row 2 (take s.count s.boxes) [] (below-take (2 ^ 16) s.count s.boxes 𝓣.boxes_fit))
      ∙ boxes-whole s 𝓣.four_boxes few blank

  with-there : subscriber_with s.count (subscriber_body s) ≡ s
  unfolding subscriber_with
  with-there =
      λ i. record {
        kind = kind-there i;
        address = ap (λ (l : List ℕ). get_or l 0 0) fixed-there i;
        source = ap (λ (l : List ℕ). get_or l 1 0) fixed-there i;
        target = ap (λ (l : List ℕ). get_or l 2 0) fixed-there i;
        boxes = boxes-there i;
        count = s.count;
      }

  pub subscriber-there : subscriber_in (subscriber_body s) ≡ s
  unfolding subscriber_in boxes_in
  subscriber-there =
      let k : (length (subscriber_body s) - 13) / 2 ≡ s.count = rw body-length (omega arith) in
      ap (λ (n : ℕ). subscriber_with n (subscriber_body s)) k ∙ with-there

module _ (body : List ℕ) (k : ℕ) (few : k ≤ 4) (long : length body ≡ 13 + 2 * k) (p : Below 256 body) where
  count-in : boxes_in (length body) ≡ k
  unfolding boxes_in
  count-in = rw long (omega arith)

  in-with : subscriber_in body ≡ subscriber_with k body
  unfolding subscriber_in
  in-with = ap (λ (n : ℕ). subscriber_with n body) count-in

  boxes-long : length (drop 13 body) ≡ 2 * k
  boxes-long = length-drop 13 body ∙ rw long (omega arith)

  boxes-back : row 2 (take k (numbers 2 k (drop 13 body) ++ replicate (4 - k) 0)) ≡ drop 13 body
  boxes-back =
      ap (row 2) (take_at (numbers 2 k (drop 13 body)) (replicate (4 - k) 0) k (numbers-length 2 k (drop 13 body)))
      ∙ row-numbers 2 k (drop 13 body) (below-drop 256 13 body p) (rw boxes-long (omega arith)) ∙ take_all (2 * k) (drop 13 body) (rw boxes-long (omega arith))

  fixed_back : row 4 (fixed_of (subscriber_with k body)) ≡ take 12 (drop 1 body)
  fixed_back = ap (row 4) (fixed_in k body) ∙ row-numbers 4 3 (drop 1 body) (below-drop 256 1 body p) (rw (length-drop 1 body) (omega arith))

  with-back : subscriber_body (subscriber_with k body) ≡ body
  unfolding subscriber_body subscriber_with
  with-back =
      rw (high-number 1 (take 1 body) (length-take-le 1 body (omega arith)) (below-take 256 1 body p), boxes-back)
      (ap (λ (l : List ℕ). take 1 body ++ l ++ drop 13 body) fixed_back ∙ ap (λ (l : List ℕ). l ++ drop 13 body) (sym (take-add 1 12 body)) ∙ take-append-drop 13 body)

  pub subscriber-back : subscriber_body (subscriber_in body) ≡ body
  subscriber-back = ap subscriber_body in-with ∙ with-back

  pub subscriber-fits : TypedSubscriber (subscriber_in body)
  unfolding subscriber_with
  subscriber-fits =
      rw in-with record {
        kind_fits = number_lt 1 (take 1 body) (length-take-le 1 body (omega arith)) (below-take 256 1 body p);
        fixed_fit = rw (fixed_in k body) (numbers-below 4 3 (drop 1 body) (below-drop 256 1 body p) (rw (length-drop 1 body) (omega arith)));
        boxes_fit = below-append (2 ^ 16) (numbers 2 k (drop 13 body)) (replicate (4 - k) 0)
            (numbers-below 2 k (drop 13 body) (below-drop 256 13 body p) (rw boxes-long (omega arith))) (zeros-below (4 - k));
        four_boxes = length-append (numbers 2 k (drop 13 body)) (replicate (4 - k) 0) ∙ rw (numbers-length 2 k (drop 13 body), length-replicate {A = ℕ} (4 - k) 0) (omega arith);
      }
