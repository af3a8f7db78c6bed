-- The desk's line taken apart. Assumes nothing.
use Rattle.std.specs.Prelude.{Option, Some, None, Result, Ok, Err, IfOk, ⊤}
use mathlib.Core.Path.{◌≡◌, refl, sym, ap}
use mathlib.Core.Bool.{Bool, true, false, false≢true}
use mathlib.Core.Logic.{⊎_elim}
use mathlib.Core.List.{List, [], ◌∷◌, ◌++◌}
use Prim.Native.Nat.{ℕ, zero, suc, ◌+◌, ◌*◌, ◌≤◌, ◌<◌}
use native.Mathlib.Omega.{arith}
use lib.Dec.{eqb}
use lib.ListN.{length, get_or, length-append}
use borrow.Author.Tests.{lt-ltb, le-ltb}
use Rattle.typeset.proofs.Bools.{yes_or_no}
use Rattle.typeset.proofs.Below.{least-le}
use Rattle.refusal.specs.Numbers.{number_of}
use Rattle.plan.specs.declared.Plan.{Plan}
use Rattle.plan.specs.Sound.{sound}
use Rattle.setup.specs.declared.Setup.{Setup}
use Rattle.setup.specs.Setups.{well_formed}
use Rattle.embedded.specs.Embedded.{dialled, writes_address, number_from}
use Rattle.making.specs.declared.Maker.{Maker}
use Rattle.making.specs.declared.Maker.TheVariants.{Line}
use Rattle.making.specs.Making.{box_address, new_setup, new_outcome, answered, new_answer}
use Rattle.making.proofs.Outcomes.{new-made}
use Rattle.making.proofs.WellFormed.{new-well-formed}
use Rattle.text.specs.Decimal.{decimal}
use Rattle.text.proofs.Tens.{decimal-some}
use Rattle.routing.specs.declared.Callee.{Callee}
use Rattle.routing.specs.declared.Callee.TheVariants.{Feature, Line as LineBox, Trunk, Resource, Error}
use Rattle.routing.specs.Interface.{address_of}
use Rattle.routing.specs.Steps.{callee_of, received_of}
use Rattle.journey.specs.Hops.{Hop, passed_on, onward, hops, journey}
use Rattle.journey.specs.Listing.{head_line, line, lines, listing}
use Rattle.journey.specs.Desk.{space_in, address_text, string_text, readable, refused_text, told, desk_text}
use Rattle.journey.proofs.Trips.{line-short}
use Rattle.refusal.specs.declared.Refusal.{Refusal}

-- ---- the address

abbrev somebody : Option ℕ → Bool
somebody None = false
somebody (Some a) = true

abbrev whom : Option ℕ → ℕ
whom None = 0
whom (Some a) = a

pub nobody-writes : (b : Bool) (n : ℕ) → dialled b n ≡ None → b ≡ false
nobody-writes true n e = absurd (false≢true (sym (ap somebody e)))
nobody-writes false n e = refl

pub somebody-writes : (b : Bool) (n a : ℕ) → dialled b n ≡ Some a → (b ≡ true) × (n ≡ a)
somebody-writes true n a e = (refl, ap whom e)
somebody-writes false n a e = absurd (false≢true (ap somebody e))

pub space-within : (l : List ℕ) → space_in l ≤ length l
unfolding space_in
space-within l = least-le (length l) (λ i. eqb (get_or l i 0) 32)

-- ---- the text

pub no-space : (p : Plan) (l : List ℕ) → length l ≤ space_in l → desk_text p l ≡ refused_text 3
unfolding desk_text readable
no-space p l h = rw (le-ltb (space_in l) (length l) h)

pub no_address : (p : Plan) (l : List ℕ) → space_in l < length l → writes_address (address_text l) ≡ false → desk_text p l ≡ refused_text 3
unfolding desk_text readable
no_address p l h e = rw (lt-ltb (space_in l) (length l) h, e)

pub line_read : (p : Plan) (l : List ℕ) → space_in l < length l → writes_address (address_text l) ≡ true
    → desk_text p l ≡ told p (new_answer p (Line (number_from 0 (address_text l))) (string_text l) 0)
unfolding desk_text readable
line_read p l h e = rw (lt-ltb (space_in l) (length l) h, e)

-- ---- a setup that was made can be followed

pub new-fine : (p : Plan) (m : Maker) (string : List ℕ) (target : ℕ) → IfOk (new_answer p m string target) (λ s. (sound p ≡ true) × (well_formed p s ≡ true))
new-fine p m string target = by (new_outcome p m string target) refl
  where
    by : (o : Result ⊤ Refusal) → new_outcome p m string target ≡ o → IfOk (answered o (new_setup (box_address m) string target)) (λ s. (sound p ≡ true) × (well_formed p s ≡ true))
    by (Ok _) e = ((new-made p m string target e).kept, new-well-formed p m string target e)
    by (Err r) e = tt

-- ---- how long a text is

lines-short : (k : ℕ) (hs : List Hop) → length (lines k hs) ≤ 60 * length hs
unfolding lines
lines-short k [] = omega arith
lines-short k (h ∷ hs) = omega (arith, length-append (line k h.callee h.left) (lines (k + 1) hs), line-short k h.callee h.left, lines-short (k + 1) hs)

onward-short : (c : Callee) (hs : List Hop) → length (onward c hs) ≤ length hs
onward-short (Feature t a) hs = omega arith
onward-short (LineBox n a) hs = omega arith
onward-short (Trunk n a) hs = omega arith
onward-short (Resource n a) hs = omega arith
onward-short (Error a) hs = omega arith

hops-few : (n : ℕ) (p : Plan) (s : Setup) → length (hops n p s) ≤ n
unfolding hops
hops-few zero p s = omega arith
hops-few (suc n) p s =
    let rest = hops n p (passed_on (address_of (callee_of p s)) (received_of p s)) in
    omega (arith, onward-short (callee_of p s) rest, hops-few n p (passed_on (address_of (callee_of p s)) (received_of p s)))

listing-short : (p : Plan) (s : Setup) → length (listing (journey p s)) ≤ 4096
unfolding listing head_line journey
listing-short p s = omega (arith, length-append head_line (lines 1 (hops 65 p s)), lines-short 1 (hops 65 p s), hops-few 65 p s)

refused-short : (n : ℕ) → length (refused_text n) ≤ 4096
unfolding refused_text
refused-short n =
    let word : List ℕ = 114 ∷ 101 ∷ 102 ∷ 117 ∷ 115 ∷ 101 ∷ 100 ∷ 32 ∷ [] in
    omega (arith, length-append (word ++ decimal n) (10 ∷ []), length-append word (decimal n), (decimal-some n).1)

told-short : (p : Plan) (a : Result Setup Refusal) → length (told p a) ≤ 4096
told-short p (Ok s) = listing-short p s
told-short p (Err r) = refused-short (number_of r)

-- 4096 bytes are room enough
pub desk-fits : (p : Plan) (l : List ℕ) → length (desk_text p l) ≤ 4096
unfolding desk_text
desk-fits p l =
    ⊎_elim
    (λ (e : readable l ≡ true). rw e (told-short p (new_answer p (Line (number_from 0 (address_text l))) (string_text l) 0)))
    (λ (e : readable l ≡ false). rw e (refused-short 3))
    (yes_or_no (readable l))
