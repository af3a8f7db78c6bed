-- Both round trips of the codec: any setup that a program holds comes back from its bytes, and bytes that are a setup's are its bytes. Assumes nothing.
use Rattle.std.specs.Prelude.{Option, Some, None}
use mathlib.Core.Path.{◌≡◌, refl, sym, ap, ap₂, ◌∙◌}
use mathlib.Core.Bool.{true, false, ◌&&◌}
use mathlib.Core.List.{List, [], ◌∷◌, ◌++◌, append_assoc}
use Prim.Native.Nat.{ℕ, ◌^◌, ◌<◌}
use native.Mathlib.Omega.{arith}
use lib.Dec.{eqb}
use lib.ListN.{length, get_or, take, drop, length-append, length-take, length-drop}
use lib.Seq.{take_at, drop_at, get_or-drop, drop-drop, ext_get_or}
use borrow.Author.Tests.{eq-eqb, eqb-true}
use Rattle.typeset.proofs.Below.{every_of, every-at}
use Rattle.plan.specs.declared.Region.{Region}
use Rattle.plan.specs.declared.Region.TheVariants.{Source, Target}
use Rattle.setup.specs.declared.Route.{Route}
use Rattle.setup.specs.declared.Route.TheVariants.{Whole, Suffix, Listed}
use Rattle.setup.specs.declared.Setup.{Setup}
use Rattle.setup.specs.Setups.{blank}
use Rattle.typeset.proofs.Bools.{and_left, and_right}
use Rattle.planbytes.specs.Numbers.{high, number, number_after}
use Rattle.planbytes.specs.Format.{field}
use Rattle.setupbytes.specs.Codec.{region_number, route_number, given, or_zero, head_of, head, setup_bytes, region_said, route_said, said, fields_in, same, setup_in}
use Rattle.setupbytes.proofs.Stores.{with-header}

-- a setup that a program holds: its numbers fit in and its arrays have 32 places
pub record Typed (s : Setup) : Type 0 where
  pub source_fits : s.source < 2 ^ 32
  pub target_fits : s.target < 2 ^ 32
  pub outer-fits : or_zero s.outer < 2 ^ 32
  pub symbols-places : length s.dialled.symbols ≡ 32
  pub types-places : length s.list.types ≡ 32

-- ---- the numbers of the cases

region-back : (r : Region) → region_said (region_number r) ≡ r
region-back Source = refl
region-back Target = refl

route-back : (r : Route) → route_said (route_number r) ≡ r
route-back Whole = refl
route-back Suffix = refl
route-back Listed = refl

option-back : (x : Option ℕ) → said (given x) (or_zero x) ≡ x
option-back None = refl
option-back (Some n) = refl

number-back : (n : ℕ) → n < 2 ^ 32 → number (high 4 n) ≡ n
unfolding number number_after high
number-back n h = omega arith

-- ---- the places

-- the bytes, with what stands before the 32 symbols as one run of 39
parts : (s : Setup) → length s.dialled.symbols ≡ 32 → length s.list.types ≡ 32
    → setup_bytes s ≡ (head s ++ (7 ∷ 0 ∷ 33 ∷ s.dialled.len ∷ [])) ++ (s.dialled.symbols ++ ((8 ∷ 0 ∷ 33 ∷ s.list.len ∷ []) ++ (s.list.types ++ (127 ∷ 0 ∷ 0 ∷ []))))
unfolding setup_bytes field high
parts s ls lt =
    let low7 : 7 < 256 = omega arith in
    let low8 : 8 < 256 = omega arith in
    let h : List ℕ = head s in
    let ys : List ℕ = s.dialled.symbols in
    let ts : List ℕ = s.list.types in
    let e : List ℕ = 127 ∷ 0 ∷ 0 ∷ [] in
    let a7 : List ℕ = 7 ∷ 0 ∷ 33 ∷ s.dialled.len ∷ [] in
    let a8 : List ℕ = 8 ∷ 0 ∷ 33 ∷ s.list.len ∷ [] in
    ap₂ (λ (x y : List ℕ). h ++ x ++ y ++ e) (with-header 7 s.dialled.len ys low7 ls) (with-header 8 s.list.len ts low8 lt)
    ∙ append_assoc (h ++ (a7 ++ ys)) (a8 ++ ts) e
    ∙ ap (λ (x : List ℕ). x ++ ((a8 ++ ts) ++ e)) (sym (append_assoc h a7 ys))
    ∙ append_assoc (h ++ a7) ys ((a8 ++ ts) ++ e)
    ∙ ap (λ (x : List ℕ). (h ++ a7) ++ (ys ++ x)) (append_assoc a8 ts e)

-- what stands before the symbols, after them, and after the types
front : Setup → List ℕ
front s = head s ++ (7 ∷ 0 ∷ 33 ∷ s.dialled.len ∷ [])

front_length : (s : Setup) → length (front s) ≡ 39
unfolding front head head_of field high
front_length s = refl

symbols-back : (s : Setup) → Typed s → take 32 (drop 39 (setup_bytes s)) ≡ s.dialled.symbols
unfolding front
symbols-back s t =
    let rest : List ℕ = (8 ∷ 0 ∷ 33 ∷ s.list.len ∷ []) ++ (s.list.types ++ (127 ∷ 0 ∷ 0 ∷ [])) in
    ap (λ (l : List ℕ). take 32 (drop 39 l)) (parts s t.symbols-places t.types-places)
    ∙ ap (take 32) (drop_at (front s) (s.dialled.symbols ++ rest) 39 (front_length s))
    ∙ take_at s.dialled.symbols rest 32 t.symbols-places

list-start : (s : Setup) → Typed s → drop 71 (setup_bytes s) ≡ (8 ∷ 0 ∷ 33 ∷ s.list.len ∷ []) ++ (s.list.types ++ (127 ∷ 0 ∷ 0 ∷ []))
unfolding front
list-start s t =
    let rest : List ℕ = (8 ∷ 0 ∷ 33 ∷ s.list.len ∷ []) ++ (s.list.types ++ (127 ∷ 0 ∷ 0 ∷ [])) in
    let long : length (front s ++ s.dialled.symbols) ≡ 71 = length-append (front s) s.dialled.symbols ∙ rw (front_length s, t.symbols-places) in
    ap (drop 71) (parts s t.symbols-places t.types-places ∙ sym (append_assoc (front s) s.dialled.symbols rest))
    ∙ drop_at (front s ++ s.dialled.symbols) rest 71 long

drop_more : (l : List ℕ) → drop 75 l ≡ drop 4 (drop 71 l)
drop_more l = sym (drop-drop 4 71 l)

types-back : (s : Setup) → Typed s → take 32 (drop 75 (setup_bytes s)) ≡ s.list.types
types-back s t =
    ap (take 32) (drop_more (setup_bytes s) ∙ ap (drop 4) (list-start s t))
    ∙ take_at s.list.types (127 ∷ 0 ∷ 0 ∷ []) 32 t.types-places

len-back : (s : Setup) → Typed s → get_or (setup_bytes s) 74 0 ≡ s.list.len
len-back s t = sym (get_or-drop 71 (setup_bytes s) 3 0) ∙ ap (λ (l : List ℕ). get_or l 3 0) (list-start s t)

region-at : (s : Setup) → region_said (get_or (setup_bytes s) 3 0) ≡ s.region
unfolding setup_bytes head head_of field high
region-at s = region-back s.region

source-at : (s : Setup) → Typed s → number (take 4 (drop 7 (setup_bytes s))) ≡ s.source
unfolding setup_bytes head head_of field high
source-at s t = number-back s.source t.source_fits

target_at : (s : Setup) → Typed s → number (take 4 (drop 14 (setup_bytes s))) ≡ s.target
unfolding setup_bytes head head_of field high
target_at s t = number-back s.target t.target_fits

route-at : (s : Setup) → route_said (get_or (setup_bytes s) 21 0) ≡ s.route
unfolding setup_bytes head head_of field high
route-at s = route-back s.route

placing-at : (s : Setup) → said (get_or (setup_bytes s) 25 0) (get_or (setup_bytes s) 26 0) ≡ s.placing
unfolding setup_bytes head head_of field high
placing-at s = option-back s.placing

outer-number : (s : Setup) → Typed s → number (take 4 (drop 31 (setup_bytes s))) ≡ or_zero s.outer
unfolding setup_bytes head head_of field high
outer-number s t = number-back (or_zero s.outer) t.outer-fits

outer-given : (s : Setup) → get_or (setup_bytes s) 30 0 ≡ given s.outer
unfolding setup_bytes head head_of field high
outer-given s = refl

outer-at : (s : Setup) → Typed s → said (get_or (setup_bytes s) 30 0) (number (take 4 (drop 31 (setup_bytes s)))) ≡ s.outer
outer-at s t = rw (outer-given s, outer-number s t) (option-back s.outer)

string-length-at : (s : Setup) → get_or (setup_bytes s) 38 0 ≡ s.dialled.len
unfolding setup_bytes head head_of field high
string-length-at s = refl

fields_back : (s : Setup) → Typed s → fields_in (setup_bytes s) ≡ s
unfolding fields_in
fields_back s t =
    rw (region-at s, source-at s t, target_at s t, route-at s, placing-at s, outer-at s t, string-length-at s, symbols-back s t, types-back s t, len-back s t) refl

bytes-length : (s : Setup) → length s.dialled.symbols ≡ 32 → length s.list.types ≡ 32 → length (setup_bytes s) ≡ 110
unfolding front
bytes-length s ls lt =
    let rest : List ℕ = (8 ∷ 0 ∷ 33 ∷ s.list.len ∷ []) ++ (s.list.types ++ (127 ∷ 0 ∷ 0 ∷ [])) in
    ap length (parts s ls lt)
    ∙ length-append (front s) (s.dialled.symbols ++ rest)
    ∙ rw (front_length s, length-append s.dialled.symbols rest, ls, length-append s.list.types (127 ∷ 0 ∷ 0 ∷ []), lt)

same_self : (l : List ℕ) → same l l ≡ true
unfolding same
same_self l = every_of 110 _ (λ i h. eq-eqb (get_or l i 0) (get_or l i 0) refl)

-- any setup that a program holds comes back from its bytes
pub there_and_back : (s : Setup) → Typed s → setup_in (setup_bytes s) ≡ s
unfolding setup_in
there_and_back s t = rw (fields_back s t, eq-eqb (length (setup_bytes s)) 110 (bytes-length s t.symbols-places t.types-places), same_self (setup_bytes s)) refl

-- ---- the other way: bytes that are a setup's are the bytes of the setup that is read

read_length : (b : List ℕ) → length b ≡ 110 → length (setup_bytes (fields_in b)) ≡ 110
unfolding fields_in
read_length b long =
    let ls : length (take 32 (drop 39 b)) ≡ 32 = simp (length-take, length-drop, long) (omega arith) in
    let lt : length (take 32 (drop 75 b)) ≡ 32 = simp (length-take, length-drop, long) (omega arith) in
    bytes-length (fields_in b) ls lt

same-one : (a b : List ℕ) → length a ≡ 110 → length b ≡ 110 → same a b ≡ true → a ≡ b
unfolding same
same-one a b la lb e =
    ext_get_or 0 a b (la ∙ sym lb) (λ i h. eqb-true (get_or a i 0) (get_or b i 0) (every-at 110 (λ k. eqb (get_or a k 0) (get_or b k 0)) e i (rw la at h)))

pub back-and-there : (b : List ℕ) → (eqb (length b) 110 && same (setup_bytes (fields_in b)) b) ≡ true → setup_bytes (setup_in b) ≡ b
unfolding setup_in
back-and-there b e =
    let long : length b ≡ 110 = eqb-true (length b) 110 (and_left (eqb (length b) 110) (same (setup_bytes (fields_in b)) b) e) in
    rw e (same-one (setup_bytes (fields_in b)) b (read_length b long) long (and_right (eqb (length b) 110) (same (setup_bytes (fields_in b)) b) e))

-- and all others stand for the blank setup
pub no-setup : (b : List ℕ) → (eqb (length b) 110 && same (setup_bytes (fields_in b)) b) ≡ false → setup_in b ≡ blank
unfolding setup_in
no-setup b e = rw e refl
