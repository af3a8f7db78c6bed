-- Of a line the first 43 bytes decide what the desk answers: 9 digits, a space and 33 symbols, which are too many. So a program that reads no more than these answers as if it had read the whole line. Assumes nothing.
use Rattle.std.specs.Prelude.{Err, Result}
use Prim.Native.Nat.{ℕ, ◌+◌, ◌≤◌, ◌<◌}
use mathlib.Core.Path.{◌≡◌, refl, sym, ap, ◌∙◌}
use mathlib.Core.Bool.{Bool, true, false, not, ◌&&◌, cond}
use mathlib.Core.Logic.{⊎_elim}
use mathlib.Core.List.{List}
use native.Mathlib.Omega.{arith}
use lib.Dec.{eqb, ltb, leb}
use lib.ListN.{length, get_or, take, length-drop}
use lib.Seq.{take_all, take-take, get_or-take, length-take-le}
use borrow.Author.Tests.{lt-ltb, lt-leb, leb-true, ltb-true, ltb-false}
use Rattle.typeset.proofs.Bools.{yes_or_no, fails, and_left, and_right}
use Rattle.typeset.proofs.Below.{least-has, least-min, least-at-most, least-found}
use Rattle.refusal.specs.declared.Refusal.{Refusal}
use Rattle.refusal.specs.declared.Refusal.TheVariants.{RuleBroken, NoSuchType, NotForThisBox, WrongAddress, BadString}
use Rattle.plan.specs.declared.Plan.{Plan}
use Rattle.plan.specs.Sound.{sound}
use Rattle.setup.specs.declared.Setup.{Setup}
use Rattle.setup.specs.Dialling.{legal_string}
use Rattle.embedded.specs.Embedded.{all_digits, writes_address, number_from}
use Rattle.making.specs.declared.Maker.{Maker}
use Rattle.making.specs.declared.Maker.TheVariants.{Line}
use Rattle.refusal.specs.Numbers.{unless}
use Rattle.making.specs.Making.{box_address, type_exists, makes_new, address_held, new_setup, new_outcome_by, answered, new_answer}
use Rattle.journey.specs.Desk.{space_in, address_text, string_text, readable, refused_text, told, desk_text}
use Rattle.journey.proofs.Desks.{space-within}

-- ---- a string that is too long is refused, and which one it is does not show
too_long : (s : List ℕ) → 32 < length s → legal_string s ≡ false
unfolding legal_string
too_long s h = rw (lt-leb (length s) 32 h)

by_tests : (a b c d : Bool) (s z : Setup)
    → answered (unless a (RuleBroken 0) (unless b NoSuchType (unless c NotForThisBox (unless d WrongAddress (Err BadString))))) s
    ≡ answered (unless a (RuleBroken 0) (unless b NoSuchType (unless c NotForThisBox (unless d WrongAddress (Err BadString))))) z
by_tests true true true true s z = refl
by_tests true true true false s z = refl
by_tests true true false d s z = refl
by_tests true false c d s z = refl
by_tests false b c d s z = refl

refused-alike : (p : Plan) (m : Maker) (x y : List ℕ) → legal_string x ≡ false → legal_string y ≡ false → new_answer p m x 0 ≡ new_answer p m y 0
unfolding new_outcome_by
refused-alike p m x y nx ny = rw (nx, ny) (by_tests (sound p) (type_exists p m) (makes_new m) (address_held p m) (new_setup (box_address m) x 0) (new_setup (box_address m) y 0))

-- ---- what stands before the first space is no address where it is longer than 9
unreadable : (l : List ℕ) → 9 < space_in l → readable l ≡ false
unfolding readable address_text writes_address
unreadable l far = fails (readable l) (λ yes.
    let a = address_text l in
    let writes = and_right (ltb (space_in l) (length l)) (writes_address (address_text l)) yes in
    let sized = and_left (leb 1 (length a) && leb (length a) 9) (all_digits a) (and_left (leb 1 (length a) && leb (length a) 9 && all_digits a) (not (eqb (number_from 0 a) 0)) writes) in
    let short = leb-true (length a) 9 (and_right (leb 1 (length a)) (leb (length a) 9) sized) in
    absurd (omega (arith, far, short, length-take-le (space_in l) l (space-within l))))

-- ---- a line that goes on past the cut
module _ (p : Plan) (l : List ℕ) (n : ℕ) (enough : 43 ≤ n) (longer : n < length l) where
  abbrev cut : List ℕ
  cut = take n l

  cut-length : length cut ≡ n
  cut-length = length-take-le n l (omega arith)

  same_byte : (i : ℕ) → i < n → eqb (get_or cut i 0) 32 ≡ eqb (get_or l i 0) 32
  same_byte i h = ap (λ (b : ℕ). eqb b 32) (get_or-take n l i 0 h)

  module _ (near : space_in l ≤ 9) where
    space-same : space_in cut ≡ space_in l
    unfolding space_in
    space-same =
        least-found (length cut) (λ i. eqb (get_or cut i 0) 32) (space_in l)
        (λ k h. same_byte k (omega (arith, h, near, enough)) ∙ least-min (length l) (λ i. eqb (get_or l i 0) 32) k h)
        (omega (arith, near, enough, cut-length))
        (same_byte (space_in l) (omega (arith, near, enough)) ∙ least-has (length l) (λ i. eqb (get_or l i 0) 32) (omega (arith, near, enough, longer)))

    address_same : address_text cut ≡ address_text l
    unfolding address_text
    address_same = ap (λ (k : ℕ). take k cut) space-same ∙ take-take (space_in l) n l (omega (arith, near, enough))

    readable-same : readable cut ≡ readable l
    unfolding readable
    readable-same = rw (address_same, space-same, lt-ltb (space_in l) (length cut) (omega (arith, near, enough, cut-length)), lt-ltb (space_in l) (length l) (omega (arith, near, enough, longer)))

    cut-too-long : legal_string (string_text cut) ≡ false
    unfolding string_text
    cut-too-long = too_long (string_text cut) (omega (arith, length-drop (space_in cut + 1) cut, space-same, cut-length, near, enough))

    line-too-long : legal_string (string_text l) ≡ false
    unfolding string_text
    line-too-long = too_long (string_text l) (omega (arith, length-drop (space_in l + 1) l, near, enough, longer))

    near_same : desk_text p cut ≡ desk_text p l
    unfolding desk_text
    near_same =
        rw (readable-same, address_same)
        (ap (λ (a : Result Setup Refusal). cond (readable l) (told p a) (refused_text 3)) (refused-alike p (Line (number_from 0 (address_text l))) (string_text cut) (string_text l) cut-too-long line-too-long))

  -- no space among the first ten bytes: there is none in the cut either
  far-cut : 9 < space_in l → 9 < space_in cut
  unfolding space_in
  far-cut far = ⊎_elim (ltb-true 9 (space_in cut)) (λ e.
      let close = ltb-false 9 (space_in cut) e in
      let there = least-has (length cut) (λ i. eqb (get_or cut i 0) 32) (omega (arith, close, enough, cut-length)) in
      absurd (omega (arith, far, close, least-at-most (length l) (λ i. eqb (get_or l i 0) 32) (space_in cut) (sym (same_byte (space_in cut) (omega (arith, close, enough))) ∙ there))))
      (yes_or_no (ltb 9 (space_in cut)))

  far-same : 9 < space_in l → desk_text p cut ≡ desk_text p l
  unfolding desk_text
  far-same far = rw (unreadable l far, unreadable cut (far-cut far)) refl

  past-the-cut : desk_text p cut ≡ desk_text p l
  past-the-cut = ⊎_elim (λ e. far-same (ltb-true 9 (space_in l) e)) (λ e. near_same (ltb-false 9 (space_in l) e)) (yes_or_no (ltb 9 (space_in l)))

pub first-decide : (p : Plan) (l : List ℕ) (n : ℕ) → 43 ≤ n → desk_text p (take n l) ≡ desk_text p l
first-decide p l n enough =
    ⊎_elim (λ e. past-the-cut p l n enough (ltb-true n (length l) e)) (λ e. ap (desk_text p) (take_all n l (ltb-false n (length l) e))) (yes_or_no (ltb n (length l)))
