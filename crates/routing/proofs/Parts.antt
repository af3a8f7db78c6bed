-- Lists as the parts of routing handle them: an end part of a list, its tail, where a type stands, a zone stored at the front. Assumes nothing.
use mathlib.Core.Path.{◌≡◌, refl, sym, ap, ◌∙◌}
use mathlib.Core.Logic.{⊎_elim}
use mathlib.Core.Bool.{true, false}
use mathlib.Core.List.{List, [], ◌∷◌, ◌++◌}
use Prim.Native.Nat.{ℕ, zero, suc, ◌+◌, ◌-◌, ◌≤◌, ◌<◌, min}
use native.Mathlib.Nat.{min-zero, zero-min, suc-min-suc, suc-sub-suc, sub-zero, zero-add}
use native.Mathlib.Omega.{arith}
use lib.Dec.{eqb, leb}
use lib.ListN.{length, get_or, take, drop, length-take}
use lib.Seq.{sets, sets-eq, take-nil, drop-nil, take_all, take_at}
use borrow.Author.Tests.{le-leb, lt-leb}
use Rattle.typeset.proofs.Below.{least-found, least-none}
use Rattle.typeset.proofs.Laws.{split}
use Rattle.zone.specs.declared.Zone.{Zone}
use Rattle.zone.specs.Order.{list_of}
use Rattle.routing.specs.Steps.{place_of, stands, before, empty, tail}
use Rattle.std.specs.Prelude.{HoldsAt}
use Rattle.std.specs.List.{AllWithin}
use borrow.Author.Tests.{lt-ltb, le-ltb}
use native.Mathlib.Nat.{le_refl}
use Rattle.typeset.specs.Sets.{least}

-- ---- end parts

pub take-cut : (l : List ℕ) (n : ℕ) → take (min n (length l)) l ≡ take n l
take-cut [] n = take-nil (min n 0) ∙ sym (take-nil n)
take-cut (x ∷ l) zero = ap (λ (k : ℕ). take k (x ∷ l)) (zero-min (suc (length l)))
take-cut (x ∷ l) (suc n) = ap (λ (k : ℕ). take k (x ∷ l)) (suc-min-suc n (length l)) ∙ ap (λ (r : List ℕ). x ∷ r) (take-cut l n)

-- with its start and its end brought within the list
pub part_cut : (l : List ℕ) (k n : ℕ)
    → take (min n (length l) - min k (min n (length l))) (drop (min k (min n (length l))) l) ≡ drop k (take n l)
part_cut [] k n = simp (drop-nil, take-nil)
part_cut (x ∷ l) k zero = simp (zero-min, min-zero, drop-nil)
part_cut (x ∷ l) zero (suc n) = simp (zero-min, sub-zero, suc-min-suc) (ap (λ (r : List ℕ). x ∷ r) (take-cut l n))
part_cut (x ∷ l) (suc k) (suc n) = simp (suc-min-suc, suc-sub-suc) (part_cut l k n)

pub tail-cut : (l : List ℕ) → take (length l - min (length l) 1) (drop (min (length l) 1) l) ≡ tail l
tail-cut [] = refl
tail-cut (x ∷ l) =
    let one : min (suc (length l)) 1 ≡ 1 = omega arith in
    let rest : suc (length l) - 1 ≡ length l = omega arith in
    rw (one, rest) (take_all (length l) l (omega arith))

pub tail-length : (l : List ℕ) → length (tail l) ≡ length l - 1
tail-length [] = refl
tail-length (x ∷ l) = omega arith

leb-suc : (a b : ℕ) → leb (suc a) (suc b) ≡ leb a b
leb-suc a b =
    ⊎_elim
    (λ (h : b < a). lt-leb (suc a) (suc b) (omega arith) ∙ sym (lt-leb a b h))
    (λ (h : a ≤ b). le-leb (suc a) (suc b) (omega arith) ∙ sym (le-leb a b h))
    (split b a)

pub empty-drop : (k : ℕ) (l : List ℕ) → empty (drop k l) ≡ leb (length l) k
empty-drop k [] = ap empty (drop-nil k) ∙ sym (le-leb 0 k (omega arith))
empty-drop zero (x ∷ l) =
    let more : 0 < length (x ∷ l) = omega arith in
    sym (lt-leb (length (x ∷ l)) 0 more)
empty-drop (suc k) (x ∷ l) = empty-drop k l ∙ sym (leb-suc (length l) k)

-- ---- a list as the program holds it

pub list-short : (z : Zone) → length z.types ≡ 32 → length (list_of z) ≤ 32
unfolding list_of
list-short z long = simp length-take (omega arith)

-- ---- where a type stands

pub before-found : (t : ℕ) (zone : List ℕ) (i : ℕ) → (i < length zone) × HoldsAt (λ u. eqb u t ≡ true) zone i × AllWithin (λ u. eqb u t ≡ false) zone 0 i → i + 1 ≡ before t zone
unfolding before stands place_of
before-found t zone i (h, here, none) =
    let first : least (length zone) (λ k. eqb (get_or zone k 0) t) ≡ i = least-found (length zone) (λ k. eqb (get_or zone k 0) t) i (λ k l. none k 0 (omega arith) l) h (here 0) in
    rw (first, lt-ltb i (length zone) h)

pub before-nowhere : (t : ℕ) (zone : List ℕ) → AllWithin (λ u. eqb u t ≡ false) zone 0 (length zone) → 0 ≡ before t zone
unfolding before stands place_of
before-nowhere t zone none =
    let last : least (length zone) (λ k. eqb (get_or zone k 0) t) ≡ length zone = least-none (length zone) (λ k. eqb (get_or zone k 0) t) (λ k l. none k 0 (omega arith) l) in
    rw (last, le-ltb (length zone) (length zone) (le_refl (length zone)))

-- ---- a list stored from place 0 on

pub stored-front : (xs l : List ℕ) → length xs ≤ length l → sets l 0 xs ≡ xs ++ drop (length xs) l
stored-front xs l h = sets-eq xs l 0 (omega arith) ∙ ap (λ (k : ℕ). xs ++ drop k l) (zero-add (length xs))

pub stored-held : (xs l : List ℕ) → length xs ≤ length l → take (length xs) (sets l 0 xs) ≡ xs
stored-held xs l h = ap (take (length xs)) (stored-front xs l h) ∙ take_at xs (drop (length xs) l) (length xs) refl
