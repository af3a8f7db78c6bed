-- The journey that the program makes hop by hop is the journey of Hops.antt. Assumes nothing.
use Rattle.std.specs.Prelude.{Option, Some, None, Result, Ok, Err, ⊤}
use mathlib.Core.Path.{◌≡◌, refl, ap}
use mathlib.Core.Bool.{true}
use mathlib.Core.List.{List, [], ◌∷◌, ◌++◌}
use Prim.Native.Nat.{ℕ, suc, ◌+◌, ◌-◌, ◌*◌, ◌≤◌, ◌<◌}
use native.Mathlib.Omega.{arith}
use lib.ListN.{length, length-append}
use lib.Seq.{sets}
use Rattle.plan.specs.declared.Plan.{Plan}
use Rattle.plan.specs.Sound.{sound}
use Rattle.setup.specs.declared.Setup.{Setup}
use Rattle.setup.specs.Setups.{well_formed}
use Rattle.making.specs.Making.{continued_setup, answered}
use Rattle.text.specs.Decimal.{decimal}
use Rattle.text.proofs.Tens.{decimal-some}
use Rattle.routing.specs.declared.Callee.{Callee}
use Rattle.routing.specs.declared.Callee.TheVariants.{Feature, Line, Trunk, Resource, Error}
use Rattle.routing.specs.Interface.{address_of}
use Rattle.routing.specs.Steps.{callee_of, received_of, left_of}
use Rattle.routing.specs.Routing.{roomy, settled_by, outcome_by, answer, answer_by}
use Rattle.journey.specs.declared.Trip.{Trip}
use Rattle.journey.specs.Hops.{passed_on, onward, hops}
use Rattle.journey.specs.Listing.{kind_word, number_in, spaced, line, lines}
use Rattle.journey.specs.Trips.{made, sent_on, line_of, text_of, next_of, hop_text, hopped}
use Rattle.routing.specs.declared.Routed.{Routed}
use Rattle.journey.proofs.Accepted.{passes_on, passed-well-formed}
use Rattle.journey.proofs.Texts.{spaced-short, kind-short}
use Rattle.refusal.specs.declared.Refusal.{Refusal}

-- ---- what routing answers to a well-formed setup under a sound plan

given : (p : Plan) (s : Setup) → sound p ≡ true → well_formed p s ≡ true
    → answer p s (Ok tt) 32 32 ≡ Ok (record { callee = callee_of p s; setup = received_of p s; left = left_of p s })
unfolding answer_by outcome_by settled_by roomy
given p s 𝓢 w = rw (𝓢, w)

-- ---- one hop more

abbrev pub lines_of : Plan → Option Setup → ℕ → List ℕ
lines_of p (Some s) k = lines k (hops (66 - k) p s)
lines_of p None k = []

abbrev pub todo : Plan → Trip → ℕ → List ℕ
todo p t k = lines_of p t.next k

abbrev pub Fine : Plan → Option Setup → Type 0
Fine p (Some s) = well_formed p s ≡ true
Fine p None = ⊤

sent-on : (p : Plan) (s : Setup) (t a : ℕ) → sound p ≡ true → well_formed p s ≡ true → callee_of p s ≡ Feature t a
    → sent_on p (Feature t a) (received_of p s) ≡ Some (passed_on a (received_of p s))
unfolding passed_on
sent-on p s t a 𝓢 w e = ap (λ (o : Result ⊤ Refusal). made (answered o (continued_setup a (received_of p s) 0 [] 0))) (passes_on p s t a 𝓢 w e)

onward-text : (p : Plan) (s : Setup) (n k : ℕ) → sound p ≡ true → well_formed p s ≡ true → 66 - k ≡ n → (c : Callee) → callee_of p s ≡ c
    → lines k (onward c (hops n p (passed_on (address_of c) (received_of p s)))) ≡ lines_of p (sent_on p c (received_of p s)) k
unfolding lines
onward-text p s n k 𝓢 w f (Feature t a) e = rw (sent-on p s t a 𝓢 w e, f)
onward-text p s n k 𝓢 w f (Line m a) e = refl
onward-text p s n k 𝓢 w f (Trunk m a) e = refl
onward-text p s n k 𝓢 w f (Resource m a) e = refl
onward-text p s n k 𝓢 w f (Error a) e = refl

fine-on : (p : Plan) (s : Setup) → sound p ≡ true → well_formed p s ≡ true → (c : Callee) → callee_of p s ≡ c → Fine p (sent_on p c (received_of p s))
fine-on p s 𝓢 w (Feature t a) e = rw (sent-on p s t a 𝓢 w e) (passed-well-formed p s t a 𝓢 w e)
fine-on p s 𝓢 w (Line m a) e = tt
fine-on p s 𝓢 w (Trunk m a) e = tt
fine-on p s 𝓢 w (Resource m a) e = tt
fine-on p s 𝓢 w (Error a) e = tt

text-on : (p : Plan) (next : Option Setup) (k : ℕ) → sound p ≡ true → Fine p next → k < 66 → lines_of p next k ≡ text_of p next k ++ lines_of p (next_of p next) (k + 1)
unfolding hops lines
text-on p None k 𝓢 fine low = refl
text-on p (Some s) k 𝓢 fine low =
    let one : 66 - k ≡ suc (66 - (k + 1)) = omega (arith, low) in
    rw (one, given p s 𝓢 fine, onward-text p s (66 - (k + 1)) (k + 1) 𝓢 fine refl (callee_of p s) refl)

pub hop-text : (p : Plan) (t : Trip) (k : ℕ) → sound p ≡ true → Fine p t.next → k < 66 → todo p t k ≡ hop_text p t k ++ todo p (hopped p t k) (k + 1)
unfolding hop_text hopped
hop-text p t k 𝓢 fine low = text-on p t.next k 𝓢 fine low

next-fine : (p : Plan) (next : Option Setup) → sound p ≡ true → Fine p next → Fine p (next_of p next)
next-fine p None 𝓢 fine = tt
next-fine p (Some s) 𝓢 fine = rw (given p s 𝓢 fine) (fine-on p s 𝓢 fine (callee_of p s) refl)

pub hop-fine : (p : Plan) (t : Trip) (k : ℕ) → sound p ≡ true → Fine p t.next → Fine p (hopped p t k).next
unfolding hopped
hop-fine p t k 𝓢 fine = next-fine p t.next 𝓢 fine

pub hop-place : (p : Plan) (t : Trip) (k : ℕ) → (hopped p t k).at ≡ t.at + length (hop_text p t k)
unfolding hopped
hop-place p t k = refl

pub line-short : (k : ℕ) (c : Callee) (n : ℕ) → length (line k c n) ≤ 60
unfolding line
line-short k c n =
    let a = spaced (decimal k) in
    let b = spaced (kind_word c) in
    let d = spaced (decimal (number_in c)) in
    let e = spaced (decimal (address_of c)) in
    let f = decimal n in
    omega (
      arith,
      length-append (a ++ b ++ d ++ e ++ f) (10 ∷ []),
      length-append (a ++ b ++ d ++ e) f,
      length-append (a ++ b ++ d) e,
      length-append (a ++ b) d,
      length-append a b,
      spaced-short k,
      kind-short c,
      spaced-short (number_in c),
      spaced-short (address_of c),
      (decimal-some n).1,
    )

said-short : (p : Plan) (r : Result Routed Refusal) (k : ℕ) → length (line_of r k) ≤ 60
said-short p (Ok r) k = line-short k r.callee r.left
said-short p (Err e) k = omega arith

next-short : (p : Plan) (next : Option Setup) (k : ℕ) → length (text_of p next k) ≤ 60
next-short p (Some s) k = said-short p (answer p s (Ok tt) 32 32) k
next-short p None k = omega arith

pub text-short : (p : Plan) (t : Trip) (k : ℕ) → length (hop_text p t k) ≤ 60
unfolding hop_text
text-short p t k = next-short p t.next k

-- ---- the loop

pub record Way (p : Plan) (at₀ : ℕ) (first : Setup) (room₀ room : List ℕ) (t : Trip) (k : ℕ) : Type 0 where
  pub from : 1 ≤ k
  pub to : k ≤ 66
  pub low : t.at ≤ 100 + 60 * (k - 1)
  pub fine : Fine p t.next
  pub same_length : length room ≡ length room₀
  pub place : t.at + length (todo p t k) ≡ at₀ + length (lines 1 (hops 65 p first))
  pub stored : sets room t.at (todo p t k) ≡ sets room₀ at₀ (lines 1 (hops 65 p first))

-- nothing is left to do after 65 hops
none-left : (p : Plan) (next : Option Setup) → lines_of p next 66 ≡ []
unfolding hops lines
none-left p (Some s) = refl
none-left p None = refl

pub all_done : (p : Plan) (t : Trip) → todo p t 66 ≡ []
all_done p t = none-left p t.next
