-- Reading the fields of a sound plan's file, with anything after them: field by field, and the whole (F13). Assumes nothing.
use Rattle.std.specs.Prelude.{Ok}
use mathlib.Core.Path.{◌≡◌, refl, sym, ap, ◌∙◌}
use mathlib.Core.Bool.{true, ◌&&◌}
use mathlib.Core.List.{List, [], ◌∷◌, ◌++◌, append_assoc, append-nil}
use Prim.Native.Nat.{ℕ, suc, ◌+◌, ◌-◌, ◌*◌, ◌%◌, ◌^◌, ◌≤◌, ◌<◌}
use native.Mathlib.Omega.{arith}
use lib.ListN.{length, take, replicate, length-append}
use lib.Seq.{append_snoc, length-take-le, get_or-take}
use borrow.Author.Tests.{eqb-false, lt-leb, le-leb, eq-eqb}
use Rattle.typeset.specs.Sets.{every}
use Rattle.typeset.proofs.Bools.{and_left, and-make}
use Rattle.typeset.proofs.Below.{every-at, every_of}
use Rattle.plan.specs.declared.Types.{Types}
use Rattle.plan.specs.declared.Subscriber.{Subscriber}
use Rattle.plan.specs.declared.Plan.{Plan}
use Rattle.plan.specs.Parts.{at}
use Rattle.plan.specs.Rules.{ascends}
use Rattle.plan.specs.Sound.{types_sound, source_sound, target_sound, own_sound, numbers_apart, subscriber_sound, sound}
use Rattle.plan.proofs.Laws.{few, types-kept, source-kept, target-kept, subscribers-kept}
use Rattle.planbytes.specs.Numbers.{high, number_after, number, Below}
use Rattle.planbytes.specs.Format.{field, version_body, sets_of, types_body, order_body, subscriber_body, subscriber_fields, head_fields, end_field, bytes_of}
use Rattle.planbytes.proofs.Lengths.{types-length, order-length, field-length}
use Rattle.planread.specs.Reading.{plan_of, blank_plan, allowed, ever_long, entered, kept, ended, read_from, read_of}
use Rattle.plan.specs.Parts.{no_subscriber}
use Rattle.planread.proofs.Places.{sound-alike, every-alike}
use Rattle.planwrite.proofs.Files.{file-length}
use Rattle.planfile.specs.Typed.{TypedSubscriber, AllTyped, Typed}
use Rattle.planfile.proofs.Bodies.{types-there, order-there, body-length, subscriber-there}
use Rattle.planfile.proofs.Passing.{pass_on, pass-end}
use Rattle.planfile.proofs.States.{filled, state, filled-set, filled_at, filled-alike, filled-last, typed-take, state-used, count_small, boxes-blank}

-- ---- the four fixed fields, with anything after them
module _ (rest : List ℕ) where
  pub read-version : read_from 261 0 blank_plan 0 (field 1 version_body ++ rest) ≡ read_from 260 1 blank_plan 4 rest
  unfolding version_body high allowed ever_long entered kept number blank_plan number_after
  read-version = pass_on 1 (high 1 1) rest (omega arith) (omega arith) 0 blank_plan refl refl refl refl 260 0 (eqb-false 1 127 refl)

  pub read-types : (t : Types) → Below (2 ^ 32) (sets_of t) → types_sound t ≡ true
      → read_from 260 1 blank_plan 4 (field 2 (types_body t) ++ rest) ≡ read_from 259 2 (plan_of t (replicate 32 0) (replicate 32 0) (replicate 256 no_subscriber) 0) 27 rest
  unfolding allowed ever_long entered kept blank_plan
  read-types t fit ok =
      let long = types-length t in
      let short : length (types_body t) < 2 ^ 16 = rw long (omega arith) in
      pass_on 2 (types_body t) rest (omega arith) short 1 blank_plan refl refl (eq-eqb (length (types_body t)) 20 long) (ap types_sound (types-there t fit) ∙ ok) 259 4 (eqb-false 2 127 refl)
      ∙ rw (long, types-there t fit)

  pub read-source : (t : Types) (target source : List ℕ) → length source ≡ 32 → Below (2 ^ 32) source → source_sound t source ≡ true
      → read_from 259 2 (plan_of t (replicate 32 0) target (replicate 256 no_subscriber) 0) 27 (field 3 (order_body source) ++ rest)
      ≡ read_from 258 3 (plan_of t source target (replicate 256 no_subscriber) 0) 158 rest
  unfolding allowed ever_long entered kept
  read-source t target source rows fit ok =
      let long = order-length source rows in
      let short : length (order_body source) < 2 ^ 16 = rw long (omega arith) in
      pass_on 3 (order_body source) rest (omega arith) short 2 (plan_of t (replicate 32 0) target (replicate 256 no_subscriber) 0) refl refl (eq-eqb (length (order_body source)) 128 long)
      (ap (source_sound t) (order-there source rows fit) ∙ ok) 258 27 (eqb-false 3 127 refl)
      ∙ rw (long, order-there source rows fit)

  pub read-target : (t : Types) (source target : List ℕ) → length target ≡ 32 → Below (2 ^ 32) target → target_sound t source target ≡ true
      → read_from 258 3 (plan_of t source (replicate 32 0) (replicate 256 no_subscriber) 0) 158 (field 4 (order_body target) ++ rest)
      ≡ read_from 257 4 (plan_of t source target (replicate 256 no_subscriber) 0) 289 rest
  unfolding allowed ever_long entered kept
  read-target t source target rows fit ok =
      let long = order-length target rows in
      let short : length (order_body target) < 2 ^ 16 = rw long (omega arith) in
      pass_on 4 (order_body target) rest (omega arith) short 3 (plan_of t source (replicate 32 0) (replicate 256 no_subscriber) 0) refl refl (eq-eqb (length (order_body target)) 128 long)
      (ap (target_sound t source) (order-there target rows fit) ∙ ok) 257 158 (eqb-false 4 127 refl)
      ∙ rw (long, order-there target rows fit)

-- ---- the subscribers
module _ (t : Types) (source target : List ℕ) where
  -- the rules of a subscriber that others follow
  sound-there : (xs ys full : List Subscriber) (s : Subscriber) → (xs ++ (s ∷ [])) ++ ys ≡ full → every (length full) (subscriber_sound t (filled full)) ≡ true
      → subscriber_sound t (filled (xs ++ (s ∷ []))) (length xs) ≡ true
  sound-there xs ys full s e ok =
      let one : length (xs ++ (s ∷ [])) ≡ suc (length xs) = length-append xs (s ∷ []) ∙ omega arith in
      let all : length full ≡ suc (length xs) + length ys = ap length (sym e) ∙ length-append (xs ++ (s ∷ [])) ys ∙ ap (λ (n : ℕ). n + length ys) one in
      let below : length xs < length full = omega arith in
      sound-alike t (filled (xs ++ (s ∷ []))) (filled full) (length xs) (λ j h. rw (← e) (filled-alike (xs ++ (s ∷ [])) ys j (rw one h)))
      ∙ every-at (length full) (subscriber_sound t (filled full)) ok (length xs) below

  own-there : (xs : List Subscriber) (s : Subscriber) → subscriber_sound t (filled (xs ++ (s ∷ []))) (length xs) ≡ true → own_sound t s ≡ true
  unfolding subscriber_sound
  own-there xs s ok =
      ap (own_sound t) (sym (filled-last xs s))
      ∙ and_left (own_sound t (at (filled (xs ++ (s ∷ []))) (length xs))) (ascends (filled (xs ++ (s ∷ []))) (length xs))
      (and_left (own_sound t (at (filled (xs ++ (s ∷ []))) (length xs)) && ascends (filled (xs ++ (s ∷ []))) (length xs)) (numbers_apart (filled (xs ++ (s ∷ []))) (length xs)) ok)

  long-enough : (k n : ℕ) → k ≤ 4 → n ≡ 13 + 2 * k → ever_long 5 n ≡ true
  unfolding ever_long
  long-enough k n h e = and-make (and-make (le-leb 13 n (omega arith)) (le-leb n 21 (omega arith))) (eq-eqb (n % 2) 1 (omega arith))

  -- one of them
  pub read_one : (xs : List Subscriber) (s : Subscriber) (rest : List ℕ) (n place : ℕ) → length xs < 256 → TypedSubscriber s
      → subscriber_sound t (filled (xs ++ (s ∷ []))) (length xs) ≡ true
      → read_from (suc n) 4 (state t source target xs) place (field 5 (subscriber_body s) ++ rest)
      ≡ read_from n 4 (state t source target (xs ++ (s ∷ []))) (place + length (field 5 (subscriber_body s))) rest
  unfolding allowed entered kept
  read_one xs s rest n place room 𝓣 ok =
      let own = own-there xs s ok in
      let four = count_small t s own in
      let blank = boxes-blank t s own in
      let long = body-length s 𝓣 four blank in
      let there = subscriber-there s 𝓣 four blank in
      let short : length (subscriber_body s) < 2 ^ 16 = rw long (omega arith) in
      let next = filled-set xs s room in
      let count : length xs + 1 ≡ length (xs ++ (s ∷ [])) = sym (length-append xs (s ∷ [])) in
      let back : length xs + 1 - 1 ≡ length xs = omega arith in
      pass_on 5 (subscriber_body s) rest (omega arith) short 4 (state t source target xs) refl (lt-leb 256 (length xs) room) (long-enough s.count (length (subscriber_body s)) four long)
      (rw (there, next, back) ok) n place (eqb-false 5 127 refl)
      ∙ rw (there, next, count, field-length 5 (subscriber_body s))

  pub read_some : (xs ys full : List Subscriber) (rest : List ℕ) (n place : ℕ) → xs ++ ys ≡ full → length full ≤ 256 → AllTyped ys
      → every (length full) (subscriber_sound t (filled full)) ≡ true
      → read_from (length ys + n) 4 (state t source target xs) place (subscriber_fields ys ++ rest)
      ≡ read_from n 4 (state t source target full) (place + length (subscriber_fields ys)) rest
  unfolding AllTyped subscriber_fields
  read_some xs [] full rest n place e h 𝓣 ok =
      let a : 0 + n ≡ n = omega arith in
      let b : place + 0 ≡ place = omega arith in
      rw (a, b, ← e, append-nil xs)
  read_some xs (s ∷ ys) full rest n place e h 𝓣 ok =
      let split : (xs ++ (s ∷ [])) ++ ys ≡ full = append_snoc xs s ys ∙ e in
      let all : length full ≡ length xs + suc (length ys) = ap length (sym e) ∙ length-append xs (s ∷ ys) in
      let room : length xs < 256 = omega arith in
      let fuel : suc (length ys) + n ≡ suc (length ys + n) = omega arith in
      let total : place + length (field 5 (subscriber_body s) ++ subscriber_fields ys) ≡ place + length (field 5 (subscriber_body s)) + length (subscriber_fields ys) =
      rw (length-append (field 5 (subscriber_body s)) (subscriber_fields ys)) (omega arith) in
      rw (fuel, append_assoc (field 5 (subscriber_body s)) (subscriber_fields ys) rest, total)
      (read_one xs s (subscriber_fields ys ++ rest) (length ys + n) place room 𝓣.0 (sound-there xs ys full s split ok)
      ∙ read_some (xs ++ (s ∷ [])) ys full rest n (place + length (field 5 (subscriber_body s))) split h 𝓣.1 ok)

-- ---- the end field
pub read-end-field : (n : ℕ) (p : Plan) (place : ℕ) (rest : List ℕ) → read_from (suc n) 4 p place (end_field ++ rest) ≡ ended p (place + 3) rest
unfolding end_field allowed ever_long kept
read-end-field n p place rest = pass-end 127 [] rest (omega arith) (omega arith) 4 p refl refl refl refl n place refl

-- ---- the whole file, with anything after it
module _ (p : Plan) (𝓣 : Typed p) (𝓢 : sound p ≡ true) where
  -- what is left after the head
  pub read_head : (rest : List ℕ) → read_of (head_fields p.types p.source_order p.target_order ++ rest)
      ≡ read_from 257 4 (state p.types p.source_order p.target_order []) 289 rest
  unfolding read_of head_fields filled
  read_head rest =
      simp append_assoc (read-version (field 2 (types_body p.types) ++ (field 3 (order_body p.source_order) ++ (field 4 (order_body p.target_order) ++ rest)))
      ∙ read-types (field 3 (order_body p.source_order) ++ (field 4 (order_body p.target_order) ++ rest)) p.types 𝓣.sets_fit (types-kept p 𝓢)
      ∙ read-source (field 4 (order_body p.target_order) ++ rest) p.types (replicate 32 0) p.source_order 𝓣.source_rows 𝓣.source_fits (source-kept p 𝓢)
      ∙ read-target rest p.types p.source_order p.target_order 𝓣.target_rows 𝓣.target_fits (target-kept p 𝓢))

  -- what is left after k subscribers more, of those in use
  pub read-used : (k : ℕ) (rest : List ℕ) → k ≤ p.count
      → read_of (head_fields p.types p.source_order p.target_order ++ (subscriber_fields (take k p.subscribers) ++ rest))
      ≡ read_from (257 - k) 4 (state p.types p.source_order p.target_order (take k p.subscribers)) (289 + length (subscriber_fields (take k p.subscribers))) rest
  read-used k rest h =
      let inside : k ≤ length p.subscribers = rw 𝓣.places (omega (arith, few p 𝓢)) in
      let long : length (take k p.subscribers) ≡ k = length-take-le k p.subscribers inside in
      let fuel : 257 ≡ length (take k p.subscribers) + (257 - k) = rw long (omega (arith, few p 𝓢)) in
      let ok : every (length (take k p.subscribers)) (subscriber_sound p.types (filled (take k p.subscribers))) ≡ true =
      rw long (every-alike p.types (filled (take k p.subscribers)) p.subscribers k (λ j l.
      filled_at (take k p.subscribers) j (rw long l) ∙ get_or-take k p.subscribers j _ l)
      ∙ every_of k (subscriber_sound p.types p.subscribers) (λ j l. let m : j < p.count = omega arith in every-at p.count (subscriber_sound p.types p.subscribers) (subscribers-kept p 𝓢) j m)) in
      read_head (subscriber_fields (take k p.subscribers) ++ rest)
      ∙ ap (λ (n : ℕ). read_from n 4 (state p.types p.source_order p.target_order []) 289 (subscriber_fields (take k p.subscribers) ++ rest)) fuel
      ∙ read_some p.types p.source_order p.target_order [] (take k p.subscribers) (take k p.subscribers) rest (257 - k) 289 refl
      (rw long (omega (arith, few p 𝓢))) (typed-take k p.subscribers 𝓣.each_fits) ok

  pub read-file : (rest : List ℕ) → read_of (bytes_of p ++ rest) ≡ ended p (length (bytes_of p)) rest
  unfolding bytes_of
  read-file rest =
      let fuel : 257 - p.count ≡ suc (256 - p.count) = omega (arith, few p 𝓢) in
      let place : 289 + length (subscriber_fields (take p.count p.subscribers)) + 3 ≡ length (bytes_of p) =
      sym (file-length p 𝓣.source_rows 𝓣.target_rows ∙ omega arith) in
      rw (
        append_assoc (head_fields p.types p.source_order p.target_order ++ subscriber_fields (take p.count p.subscribers)) end_field rest,
        append_assoc (head_fields p.types p.source_order p.target_order) (subscriber_fields (take p.count p.subscribers)) (end_field ++ rest),
      )
      (read-used p.count (end_field ++ rest) (omega arith) ∙ rw (fuel, state-used p 𝓣 𝓢)
      (read-end-field (256 - p.count) p (289 + length (subscriber_fields (take p.count p.subscribers))) rest ∙ ap (λ (n : ℕ). ended p n rest) place))

  -- F13: reading the file of a sound plan gives that plan
  pub there_and_back : read_of (bytes_of p) ≡ Ok p
  unfolding ended
  there_and_back = ap read_of (sym (append-nil (bytes_of p))) ∙ read-file []
