-- A list of types as the program holds it, `held`: its first `len` places are the list, and the others are 0. Assumes nothing.
use mathlib.Core.Path.{◌≡◌, refl, sym, ap, ◌∙◌}
use mathlib.Core.List.{List, ◌++◌}
use mathlib.Core.Logic.{⊎_elim}
use native.Mathlib.Omega.{arith}
use lib.Seq.{take_all}
use Rattle.typeset.proofs.Laws.{split}
use Prim.Native.Nat.{ℕ, zero, suc, ◌-◌, ◌≤◌, min, ◌<◌}
use native.Mathlib.Nat.{zero-add, sub-zero, suc-sub-suc, zero-sub}
use lib.ListN.{length, take, drop, replicate, length-replicate}
use lib.Seq.{sets, length-sets, sets-eq, take_at}
use Rattle.typeset.proofs.Laws.{size-le}
use Rattle.zone.specs.declared.Zone.{Zone}
use Rattle.zone.specs.Order.{zone_list, held}
use Rattle.zone.proofs.Members.{zone-length}

pub drop-replicate : (k n a : ℕ) → drop k (replicate n a) ≡ replicate (n - k) a
drop-replicate zero n a = ap (λ (m : ℕ). replicate m a) (sym (sub-zero n))
drop-replicate (suc k) zero a = ap (λ (m : ℕ). replicate m a) (sym (zero-sub (suc k)))
drop-replicate (suc k) (suc n) a = drop-replicate k n a ∙ ap (λ (m : ℕ). replicate m a) (sym (suc-sub-suc n k))

-- a run of stores into n places of 0, from place 0 on: what is stored, then 0 in the places that are left
pub stores-pad : (n : ℕ) (xs : List ℕ) → length xs ≤ n → sets (replicate n 0) 0 xs ≡ xs ++ replicate (n - length xs) 0
stores-pad n xs h =
    sets-eq xs (replicate n 0) 0 (simp (length-replicate, zero-add) h)
    ∙ ap (λ (l : List ℕ). xs ++ l) (ap (λ (k : ℕ). drop k (replicate n 0)) (zero-add (length xs)) ∙ drop-replicate (length xs) n 0)

-- ---- what a list of at most 32 types is as the program holds it

-- what a loop that stores it leaves
pub held-stored : (l : List ℕ) → length l ≤ 32 → sets (replicate 32 0) 0 l ≡ (held l).types
unfolding held
held-stored l h = stores-pad 32 l h

pub held-length : (l : List ℕ) → length l ≤ 32 → length (held l).types ≡ 32
held-length l h = ap length (sym (held-stored l h)) ∙ length-sets (replicate 32 0) 0 l

-- what a reader of the first `len` places gets
pub held-list : (l : List ℕ) → take (held l).len (held l).types ≡ l
unfolding held
held-list l = take_at l (replicate (32 - length l) 0) (length l) refl

-- so two lists that are held alike are equal
pub held_one : (k l : List ℕ) → held k ≡ held l → k ≡ l
held_one k l e = sym (held-list k) ∙ ap (λ (z : Zone). take z.len z.types) e ∙ held-list l

-- a zone has at most 32 types
pub zone-fits : (rows : List ℕ) (s : ℕ) → length (zone_list rows s) ≤ 32
zone-fits rows s = rw (zone-length rows s) (size-le s)

-- the first n of 32 places, with n cut at 32 first: the same
pub cut : (n : ℕ) (l : List ℕ) → length l ≡ 32 → take (min n 32) l ≡ take n l
cut n l long =
    ⊎_elim
    (λ (h : n < 32).
    let e : min n 32 ≡ n = omega arith in
    rw e)
    (λ (h : 32 ≤ n).
    let e : min n 32 ≡ 32 = omega arith in
    let whole : length l ≤ 32 = omega arith in
    let long-enough : length l ≤ n = omega arith in
    rw (e, take_all 32 l whole, take_all n l long-enough))
    (split n 32)
