-- The plan as far as it is read: the subscribers so far, and no subscriber in the places past them. Assumes nothing.
use mathlib.Core.Path.{◌≡◌, refl, sym, ap, ◌∙◌}
use mathlib.Core.Logic.{⊎_elim}
use mathlib.Core.Bool.{true, false, ◌&&◌}
use mathlib.Core.List.{List, [], ◌∷◌, ◌++◌}
use Prim.Native.Nat.{ℕ, zero, suc, ◌+◌, ◌-◌, ◌≤◌, ◌<◌}
use native.Mathlib.Nat.{not-suc-le-zero}
use native.Mathlib.Omega.{arith}
use lib.Dec.{eqb, leb}
use lib.ListN.{length, take, drop, set, replicate, length-append, length-drop, length-replicate, take-append-drop, get_or-append, get_or-replicate}
use lib.Seq.{take-append_seam, set-append_seam, append_snoc, get_or-drop, get_or-append-add, length-take-le}
use borrow.Author.Tests.{eqb-true, eqb-false, leb-true, le-leb}
use Rattle.typeset.specs.Sets.{every, implies}
use Rattle.typeset.proofs.Bools.{yes_or_no, and_left, and_right, imp-at, imp-of}
use Rattle.typeset.proofs.Below.{every-at, every_of}
use Rattle.plan.specs.declared.Types.{Types}
use Rattle.plan.specs.declared.Subscriber.{Subscriber}
use Rattle.plan.specs.declared.Plan.{Plan}
use Rattle.plan.specs.Parts.{at, box}
use Rattle.plan.specs.Rules.{kind_known, count_fits, numbers_given, numbers_differ, boxes_blank, blank, rest_blank}
use Rattle.plan.specs.Sound.{boxes_sound, own_sound, sound}
use Rattle.plan.proofs.Subscribers.{own-kind, own-count, own-boxes}
use Rattle.plan.proofs.Laws.{few, rest-kept}
use Rattle.planread.specs.Reading.{plan_of}
use Rattle.plan.specs.Parts.{no_subscriber}
use Rattle.planread.proofs.Places.{Alike}
use Rattle.planfile.specs.Typed.{TypedSubscriber, AllTyped, Typed}
use Rattle.planfile.proofs.Bodies.{zeros}

unfoldable pub filled : List Subscriber → List Subscriber
filled xs = xs ++ replicate (256 - length xs) no_subscriber

abbrev pub state : Types → List ℕ → List ℕ → List Subscriber → Plan
state t source target xs = plan_of t source target (filled xs) (length xs)

pub filled-length : (xs : List Subscriber) → length xs ≤ 256 → length (filled xs) ≡ 256
unfolding filled
filled-length xs h = length-append xs (replicate (256 - length xs) no_subscriber) ∙ rw (length-replicate (256 - length xs) no_subscriber) (omega arith)

pub filled-take : (xs : List Subscriber) → take (length xs) (filled xs) ≡ xs
unfolding filled
filled-take xs = take-append_seam xs (replicate (256 - length xs) no_subscriber)

-- one more
pub filled-set : (xs : List Subscriber) (s : Subscriber) → length xs < 256 → set (filled xs) (length xs) s ≡ filled (xs ++ (s ∷ []))
unfolding filled
filled-set xs s h =
    let e : 256 - length xs ≡ suc (256 - (length xs + 1)) = omega arith in
    rw e (set-append_seam xs no_subscriber (replicate (256 - (length xs + 1)) no_subscriber) s
    ∙ sym (append_snoc xs s (replicate (256 - (length xs + 1)) no_subscriber)) ∙ rw (length-append xs (s ∷ [])))

pub filled_at : (xs : List Subscriber) (i : ℕ) → i < length xs → at (filled xs) i ≡ at xs i
unfolding filled
filled_at xs i h = get_or-append xs (replicate (256 - length xs) no_subscriber) _ i h

pub filled-alike : (xs ys : List Subscriber) → Alike (filled xs) (filled (xs ++ ys)) (length xs)
filled-alike xs ys j h =
    let more : j < length (xs ++ ys) = rw (length-append xs ys) (omega arith) in
    filled_at xs j h ∙ sym (get_or-append xs ys _ j h) ∙ sym (filled_at (xs ++ ys) j more)

pub filled-last : (xs : List Subscriber) (s : Subscriber) → at (filled (xs ++ (s ∷ []))) (length xs) ≡ s
filled-last xs s =
    let more : length xs < length (xs ++ (s ∷ [])) = rw (length-append xs (s ∷ [])) (omega arith) in
    let e : length xs + 0 ≡ length xs = omega arith in
    filled_at (xs ++ (s ∷ [])) (length xs) more ∙ ap (λ (n : ℕ). at (xs ++ (s ∷ [])) n) (sym e) ∙ get_or-append-add xs (s ∷ []) 0 _

-- ---- the places past the subscribers

pub filled-rest : (xs : List Subscriber) → rest_blank (filled xs) (length xs) ≡ true
unfolding rest_blank filled blank every
filled-rest xs =
    every_of 256 (λ i. implies (leb (length xs) i) (blank (at (filled xs) i))) (λ i h.
    imp-of (leb (length xs) i) (blank (at (filled xs) i)) (λ e.
    let low : length xs ≤ i = leb-true (length xs) i e in
    let place : i ≡ length xs + (i - length xs) = omega arith in
    let inside : i - length xs < 256 - length xs = omega arith in
    let there : at (filled xs) i ≡ no_subscriber =
    ap (at (filled xs)) place ∙ get_or-append-add xs (replicate (256 - length xs) no_subscriber) (i - length xs) _
    ∙ get_or-replicate (256 - length xs) (i - length xs) no_subscriber _ inside in
    ap blank there))

blank-empty : (s : Subscriber) → blank s ≡ true → TypedSubscriber s → s ≡ no_subscriber
unfolding blank
blank-empty s e 𝓣 =
    let none = and_right (eqb s.kind 0 && eqb s.address 0 && eqb s.source 0 && eqb s.target 0 && eqb s.count 0) (every 4 (λ x. eqb (box s x) 0)) e in
    let five = and_left (eqb s.kind 0 && eqb s.address 0 && eqb s.source 0 && eqb s.target 0 && eqb s.count 0) (every 4 (λ x. eqb (box s x) 0)) e in
    let four = and_left (eqb s.kind 0 && eqb s.address 0 && eqb s.source 0 && eqb s.target 0) (eqb s.count 0) five in
    let three = and_left (eqb s.kind 0 && eqb s.address 0 && eqb s.source 0) (eqb s.target 0) four in
    let two = and_left (eqb s.kind 0 && eqb s.address 0) (eqb s.source 0) three in
    let boxes : s.boxes ≡ replicate 4 0 =
    zeros s.boxes (λ i h. let l : i < 4 = omega (arith, 𝓣.four_boxes) in eqb-true (box s i) 0 (every-at 4 (λ x. eqb (box s x) 0) none i l))
    ∙ ap (λ (n : ℕ). replicate n 0) 𝓣.four_boxes in
    λ i. record {
      kind = eqb-true s.kind 0 (and_left (eqb s.kind 0) (eqb s.address 0) two) i;
      address = eqb-true s.address 0 (and_right (eqb s.kind 0) (eqb s.address 0) two) i;
      source = eqb-true s.source 0 (and_right (eqb s.kind 0 && eqb s.address 0) (eqb s.source 0) three) i;
      target = eqb-true s.target 0 (and_right (eqb s.kind 0 && eqb s.address 0 && eqb s.source 0) (eqb s.target 0) four) i;
      boxes = boxes i;
      count = eqb-true s.count 0 (and_right (eqb s.kind 0 && eqb s.address 0 && eqb s.source 0 && eqb s.target 0) (eqb s.count 0) five) i;
    }

all-empty : (l : List Subscriber) → ((i : ℕ) → i < length l → at l i ≡ no_subscriber) → l ≡ replicate (length l) no_subscriber
all-empty [] f = refl
all-empty (x ∷ l) f = λ j. f 0 (omega arith) j ∷ all-empty l (λ i h. f (suc i) (omega arith)) j

pub typed_at : (ss : List Subscriber) → AllTyped ss → (i : ℕ) → i < length ss → TypedSubscriber (at ss i)
unfolding AllTyped
typed_at [] p i h = absurd (not-suc-le-zero h)
typed_at (s ∷ ss) p zero h = p.0
typed_at (s ∷ ss) p (suc i) h = let l : i < length ss = omega arith in typed_at ss p.1 i l

pub typed-take : (n : ℕ) (ss : List Subscriber) → AllTyped ss → AllTyped (take n ss)
unfolding AllTyped
typed-take zero ss p = tt
typed-take (suc n) [] p = tt
typed-take (suc n) (s ∷ ss) p = (p.0, typed-take n ss p.1)

-- a sound plan is its subscribers in use, and no subscriber in the places past them
module _ (p : Plan) (𝓣 : Typed p) (𝓢 : sound p ≡ true) where
  pub used-length : length (take p.count p.subscribers) ≡ p.count
  used-length = length-take-le p.count p.subscribers (rw 𝓣.places (few p 𝓢))

  rest-empty : drop p.count p.subscribers ≡ replicate (256 - p.count) no_subscriber
  unfolding rest_blank
  rest-empty =
      let long : length (drop p.count p.subscribers) ≡ 256 - p.count = length-drop p.count p.subscribers ∙ ap (λ (n : ℕ). n - p.count) 𝓣.places in
      all-empty (drop p.count p.subscribers) (λ i h.
      let here : p.count + i < 256 = omega arith in
      let inside : p.count + i < length p.subscribers = rw 𝓣.places here in
      get_or-drop p.count p.subscribers i _
      ∙ blank-empty (at p.subscribers (p.count + i))
      (imp-at (leb p.count (p.count + i)) (blank (at p.subscribers (p.count + i)))
      (every-at 256 (λ i. implies (leb p.count i) (blank (at p.subscribers i))) (rest-kept p 𝓢) (p.count + i) here) (le-leb p.count (p.count + i) (omega arith)))
      (typed_at p.subscribers 𝓣.each_fits (p.count + i) inside))
      ∙ ap (λ (n : ℕ). replicate n no_subscriber) long

  pub filled-used : filled (take p.count p.subscribers) ≡ p.subscribers
  unfolding filled
  filled-used = rw (used-length, ← rest-empty) (take-append-drop p.count p.subscribers)

  pub state-used : state p.types p.source_order p.target_order (take p.count p.subscribers) ≡ p
  state-used = λ i. plan_of p.types p.source_order p.target_order (filled-used i) (used-length i)

-- ---- box counts
pub count_small : (t : Types) (s : Subscriber) → own_sound t s ≡ true → s.count ≤ 4
unfolding kind_known count_fits
count_small t s own =
    let kinds = own-kind t s own in
    let fits = own-count t s own in
    let low = leb-true 1 s.kind (and_left (leb 1 s.kind) (leb s.kind 4) kinds) in
    let high = leb-true s.kind 4 (and_right (leb 1 s.kind) (leb s.kind 4) kinds) in
    ⊎_elim (λ (a : eqb s.kind 1 ≡ true). omega (arith, eqb-true s.count 1 (rw a at fits)))
    (λ (a : eqb s.kind 1 ≡ false). ⊎_elim
    (λ (b : eqb s.kind 2 ≡ true). leb-true s.count 4 (rw (a, b) at fits))
    (λ (b : eqb s.kind 2 ≡ false). ⊎_elim
    (λ (c : eqb s.kind 3 ≡ true). leb-true s.count 4 (and_right (leb 1 s.count) (leb s.count 4) (rw (a, b, c) at fits)))
    (λ (c : eqb s.kind 3 ≡ false). ⊎_elim
    (λ (d : eqb s.kind 4 ≡ true). omega (arith, eqb-true s.count 0 (rw (a, b, c, d) at fits)))
    (λ (d : eqb s.kind 4 ≡ false). let no : ⊥ = omega (arith, eqb-false s.kind 1 a, eqb-false s.kind 2 b, eqb-false s.kind 3 c, eqb-false s.kind 4 d) in absurd no)
    (yes_or_no (eqb s.kind 4)))
    (yes_or_no (eqb s.kind 3)))
    (yes_or_no (eqb s.kind 2)))
    (yes_or_no (eqb s.kind 1))

pub boxes-blank : (t : Types) (s : Subscriber) → own_sound t s ≡ true → boxes_blank s ≡ true
unfolding boxes_sound
boxes-blank t s own = and_right (numbers_given s && numbers_differ s) (boxes_blank s) (own-boxes t s own)
