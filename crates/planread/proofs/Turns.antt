-- Reading, field by field as the code goes: the four fixed fields, and a turn of the loop over the subscribers. Assumes nothing.
use Rattle.std.specs.Prelude.{Ok, Err}
use mathlib.Core.Path.{◌≡◌, refl, sym, ap, ◌∙◌}
use mathlib.Core.Bool.{true, false}
use mathlib.Core.List.{List, []}
use Prim.Native.Nat.{ℕ, suc, ◌+◌, ◌-◌, ◌*◌, ◌/◌, ◌≤◌, ◌<◌}
use native.Mathlib.Omega.{arith}
use lib.Dec.{eqb}
use lib.ListN.{length, get_or, take, drop, set, replicate, length-drop, length-take}
use borrow.Author.Tests.{eqb-false}
use Rattle.refusal.specs.declared.Refusal.{Refusal}
use Rattle.refusal.specs.declared.Refusal.TheVariants.{RuleBroken}
use Rattle.plan.specs.declared.Types.{Types}
use Rattle.plan.specs.declared.Subscriber.{Subscriber}
use Rattle.plan.specs.declared.Plan.{Plan}
use Rattle.plan.specs.Rules.{boxes_blank}
use Rattle.plan.specs.Sound.{types_sound, source_sound, target_sound, subscriber_sound}
use Rattle.planbytes.specs.Numbers.{number}
use Rattle.planread.specs.Reading.{no_types, plan_of, blank_plan, tag_of, length_of, types_in, order_in, boxes_in, subscriber_with, subscriber_in, entered, kept, header, ended, read_from, read_of}
use Rattle.plan.specs.Parts.{no_subscriber}
use Rattle.planbytes.proofs.Numbers.{one_at}
use Rattle.planread.proofs.Fields.{tag_at, length_at}
use Rattle.planread.proofs.Steps.{Passed, Next, header-passed, read-refused, types-part, order-part, subscriber-part, boxes-blank, version-next, types-next, source-next, target-next, end-next, subscriber-next, at_room, at-broken, at-end, at_on}

-- ---- tag 1
module _ (bs : List ℕ) (e : header 0 0 0 bs ≡ (Ok tt)) where
  version-is : (tag_of bs ≡ 1) × (length_of bs ≡ 1)
  version-is = version-next 0 bs (header-passed 0 0 0 bs e)

  pub version-room : 4 ≤ length bs
  version-room = at_room 260 0 (plan_of no_types [] [] [] 0) 0 bs e version-is.0 version-is.1

  version-kept : (p : Plan) → kept 1 (take 1 (drop 3 bs)) p ≡ eqb (get_or bs 3 0) 1
  unfolding kept
  version-kept p = let inside : 3 < length bs = version-room in rw (one_at bs 3 inside)

  pub version-broken : eqb (get_or bs 3 0) 1 ≡ false → read_of bs ≡ Err (RuleBroken 0)
  unfolding read_of blank_plan
  version-broken k = at-broken 260 0 blank_plan 0 bs e version-is.0 version-is.1 (version-kept (entered 1 (take 1 (drop 3 bs)) blank_plan) ∙ k)

  pub version-on : eqb (get_or bs 3 0) 1 ≡ true → read_of bs ≡ read_from 260 1 blank_plan 4 (drop 4 bs)
  unfolding read_of entered blank_plan
  version-on k = at_on 260 0 blank_plan 0 bs e version-is.0 version-is.1 (version-kept (entered 1 (take 1 (drop 3 bs)) blank_plan) ∙ k) (eqb-false 1 127 refl)

pub version-refused : (bs : List ℕ) {r : Refusal} → header 0 0 0 bs ≡ Err r → read_of bs ≡ Err r
unfolding read_of blank_plan
version-refused bs e = read-refused 260 0 blank_plan 0 bs e

-- ---- tag 2
module _ (bs : List ℕ) (e : header 1 0 4 (drop 4 bs) ≡ (Ok tt)) where
  types-is : (tag_of (drop 4 bs) ≡ 2) × (length_of (drop 4 bs) ≡ 20)
  types-is = types-next 0 (drop 4 bs) (header-passed 1 0 4 (drop 4 bs) e)

  pub types-room : 27 ≤ length bs
  types-room = at_room 259 1 (plan_of no_types [] [] [] 0) 4 bs e types-is.0 types-is.1

  module _ {t : Types} (q : t ≡ types_in (drop 7 bs)) where
    types-kept : (p : Plan) → kept 2 (take 20 (drop 7 bs)) (entered 2 (take 20 (drop 7 bs)) p) ≡ types_sound t
    unfolding kept entered
    types-kept p = ap types_sound (types-part (drop 7 bs) ∙ sym q)

    pub types-broken : types_sound t ≡ false → read_from 260 1 blank_plan 4 (drop 4 bs) ≡ Err (RuleBroken 4)
    unfolding blank_plan
    types-broken k = at-broken 259 1 blank_plan 4 bs e types-is.0 types-is.1 (types-kept blank_plan ∙ k)

    pub types-on : types_sound t ≡ true
        → read_from 260 1 blank_plan 4 (drop 4 bs) ≡ read_from 259 2 (plan_of t (replicate 32 0) (replicate 32 0) (replicate 256 no_subscriber) 0) 27 (drop 27 bs)
    unfolding entered blank_plan
    types-on k =
        at_on 259 1 blank_plan 4 bs e types-is.0 types-is.1 (types-kept blank_plan ∙ k) (eqb-false 2 127 refl)
        ∙ ap (λ (x : Types). read_from 259 2 (plan_of x (replicate 32 0) (replicate 32 0) (replicate 256 no_subscriber) 0) 27 (drop 27 bs)) (types-part (drop 7 bs) ∙ sym q)

pub types-refused : (bs : List ℕ) {r : Refusal} → header 1 0 4 (drop 4 bs) ≡ Err r → read_from 260 1 blank_plan 4 (drop 4 bs) ≡ Err r
unfolding blank_plan
types-refused bs e = read-refused 259 1 blank_plan 4 (drop 4 bs) e

-- ---- tag 3
module _ (bs : List ℕ) (e : header 2 0 27 (drop 27 bs) ≡ (Ok tt)) where
  source_is : (tag_of (drop 27 bs) ≡ 3) × (length_of (drop 27 bs) ≡ 128)
  source_is = source-next 0 (drop 27 bs) (header-passed 2 0 27 (drop 27 bs) e)

  pub source-room : 158 ≤ length bs
  source-room = at_room 258 2 (plan_of no_types [] [] [] 0) 27 bs e source_is.0 source_is.1

  module _ (t : Types) (target : List ℕ) (subs : List Subscriber) {source : List ℕ} (q : source ≡ order_in (drop 30 bs)) where
    source-kept : (old : List ℕ) → kept 3 (take 128 (drop 30 bs)) (entered 3 (take 128 (drop 30 bs)) (plan_of t old target subs 0)) ≡ source_sound t source
    unfolding kept entered
    source-kept old = ap (source_sound t) (order-part (drop 30 bs) ∙ sym q)

    pub source-broken : (old : List ℕ) → source_sound t source ≡ false → read_from 259 2 (plan_of t old target subs 0) 27 (drop 27 bs) ≡ Err (RuleBroken 27)
    source-broken old k = at-broken 258 2 (plan_of t old target subs 0) 27 bs e source_is.0 source_is.1 (source-kept old ∙ k)

    pub source-on : (old : List ℕ) → source_sound t source ≡ true
        → read_from 259 2 (plan_of t old target subs 0) 27 (drop 27 bs) ≡ read_from 258 3 (plan_of t source target subs 0) 158 (drop 158 bs)
    unfolding entered
    source-on old k =
        at_on 258 2 (plan_of t old target subs 0) 27 bs e source_is.0 source_is.1 (source-kept old ∙ k) (eqb-false 3 127 refl)
        ∙ ap (λ (x : List ℕ). read_from 258 3 (plan_of t x target subs 0) 158 (drop 158 bs)) (order-part (drop 30 bs) ∙ sym q)

-- ---- tag 4
module _ (bs : List ℕ) (e : header 3 0 158 (drop 158 bs) ≡ (Ok tt)) where
  target_is : (tag_of (drop 158 bs) ≡ 4) × (length_of (drop 158 bs) ≡ 128)
  target_is = target-next 0 (drop 158 bs) (header-passed 3 0 158 (drop 158 bs) e)

  pub target_room : 289 ≤ length bs
  target_room = at_room 257 3 (plan_of no_types [] [] [] 0) 158 bs e target_is.0 target_is.1

  module _ (t : Types) (source : List ℕ) (subs : List Subscriber) {target : List ℕ} (q : target ≡ order_in (drop 161 bs)) where
    target-kept : (old : List ℕ) → kept 4 (take 128 (drop 161 bs)) (entered 4 (take 128 (drop 161 bs)) (plan_of t source old subs 0)) ≡ target_sound t source target
    unfolding kept entered
    target-kept old = ap (target_sound t source) (order-part (drop 161 bs) ∙ sym q)

    pub target-broken : (old : List ℕ) → target_sound t source target ≡ false → read_from 258 3 (plan_of t source old subs 0) 158 (drop 158 bs) ≡ Err (RuleBroken 158)
    target-broken old k = at-broken 257 3 (plan_of t source old subs 0) 158 bs e target_is.0 target_is.1 (target-kept old ∙ k)

    pub target-on : (old : List ℕ) → target_sound t source target ≡ true
        → read_from 258 3 (plan_of t source old subs 0) 158 (drop 158 bs) ≡ read_from 257 4 (plan_of t source target subs 0) 289 (drop 289 bs)
    unfolding entered
    target-on old k =
        at_on 257 3 (plan_of t source old subs 0) 158 bs e target_is.0 target_is.1 (target-kept old ∙ k) (eqb-false 4 127 refl)
        ∙ ap (λ (x : List ℕ). read_from 257 4 (plan_of t source x subs 0) 289 (drop 289 bs)) (order-part (drop 161 bs) ∙ sym q)

-- ---- the subscribers and the end, in any turn of the loop
module _ (t : Types) (source target : List ℕ) (subs : List Subscriber) (count at : ℕ) (bs : List ℕ) (few : count ≤ 256) where
  fuel : 257 - count ≡ suc (256 - count)
  fuel = omega arith

  pub turn-refused : {r : Refusal} → header 4 count at (drop at bs) ≡ Err r → read_from (257 - count) 4 (plan_of t source target subs count) at (drop at bs) ≡ Err r
  turn-refused e = rw fuel (read-refused (256 - count) 4 (plan_of t source target subs count) at (drop at bs) e)

  module _ (e : header 4 count at (drop at bs) ≡ (Ok tt)) where
    passed : Passed 4 count (drop at bs)
    passed = header-passed 4 count at (drop at bs) e

    pub turn_inside : at + 3 ≤ length bs
    turn_inside = let whole = rw (length-drop at bs) at passed.whole in omega arith

    tag_is : tag_of (drop at bs) ≡ get_or bs at 0
    tag_is = let inside : at < length bs = omega (arith, turn_inside) in tag_at bs at inside

    pub turn_end : get_or bs at 0 ≡ 127 → read_from (257 - count) 4 (plan_of t source target subs count) at (drop at bs)
        ≡ ended (plan_of t source target subs count) (at + 3) (drop (at + 3) bs)
    unfolding kept
    turn_end x =
        rw fuel (at-end (256 - count) 4 (plan_of t source target subs count) at bs e (tag_is ∙ x) (end-next count (drop at bs) passed (tag_is ∙ x)) refl refl)

    module _ (x : ¬ (get_or bs at 0 ≡ 127)) {n : ℕ} (l : n ≡ number (take 2 (drop (at + 1) bs))) where
      next : Next count (drop at bs)
      next = subscriber-next count (drop at bs) passed (λ y. x (sym tag_is ∙ y))

      long : length_of (drop at bs) ≡ n
      long = length_at bs at ∙ sym l

      pub turn-count : count < 256
      turn-count = next.room

      pub turn_low : 13 ≤ n
      turn_low = rw long at next.low

      pub turn-high : n ≤ 21
      turn-high = rw long at next.high

      pub turn-room : at + (3 + n) ≤ length bs
      turn-room = at_room (256 - count) 4 (plan_of t source target subs count) at bs e next.tag long

      module _ {s : Subscriber} (q : s ≡ subscriber_with ((n - 13) / 2) (drop (at + 3) bs)) where
        pub turn-blank : boxes_blank s ≡ true
        turn-blank = ap boxes_blank q ∙ boxes-blank ((n - 13) / 2) (drop (at + 3) bs) (omega (arith, turn-high))

        subscriber-is : subscriber_in (take n (drop (at + 3) bs)) ≡ s
        unfolding subscriber_in boxes_in
        subscriber-is =
            let size : length (take n (drop (at + 3) bs)) ≡ n = simp (length-take, length-drop) (omega (arith, turn-room)) in
            let inside : 13 + 2 * ((n - 13) / 2) ≤ n = omega (arith, turn_low) in
            rw size (subscriber-part ((n - 13) / 2) n (drop (at + 3) bs) inside ∙ sym q)

        subscriber-kept : kept 5 (take n (drop (at + 3) bs)) (entered 5 (take n (drop (at + 3) bs)) (plan_of t source target subs count)) ≡ subscriber_sound t (set subs count s) count
        unfolding kept entered
        subscriber-kept = let back : count + 1 - 1 ≡ count = omega arith in rw (subscriber-is, back)

        pub turn-broken : subscriber_sound t (set subs count s) count ≡ false → read_from (257 - count) 4 (plan_of t source target subs count) at (drop at bs) ≡ Err (RuleBroken at)
        turn-broken k = rw fuel (at-broken (256 - count) 4 (plan_of t source target subs count) at bs e next.tag long (subscriber-kept ∙ k))

        pub turn_on : subscriber_sound t (set subs count s) count ≡ true
            → read_from (257 - count) 4 (plan_of t source target subs count) at (drop at bs)
            ≡ read_from (257 - (count + 1)) 4 (plan_of t source target (set subs count s) (count + 1)) (at + (3 + n)) (drop (at + (3 + n)) bs)
        unfolding entered
        turn_on k =
            let next-fuel : 257 - (count + 1) ≡ 256 - count = omega arith in
            rw (fuel, next-fuel) (at_on (256 - count) 4 (plan_of t source target subs count) at bs e next.tag long (subscriber-kept ∙ k) (eqb-false 5 127 refl)
            ∙ ap (λ (z : Subscriber). read_from (256 - count) 4 (plan_of t source target (set subs count z) (count + 1)) (at + (3 + n)) (drop (at + (3 + n)) bs)) subscriber-is)
