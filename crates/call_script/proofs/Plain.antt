-- What is known of a row by value. Assumes nothing.
use mathlib.Core.Path.{◌≡◌, refl, sym, subst}
use Prim.Native.Nat.{ℕ, ◌<◌, ◌≤◌}
use mathlib.Core.Bool.{Bool, true, false, cond, not}
use mathlib.Core.Logic.{◌⊎◌, inl, inr, ⊎_elim}
use native.Mathlib.Omega.{arith}
use borrow.Author.Tests.{lt-ltb, le-ltb}
use lib.Dec.{T as Holds, ltb, ltb→lt, nltb→le}
use Rattle.call_script.specs.Lent.{within}

-- a row has at most as many records as there are
apart : (n : ℕ) → (4 < n) ⊎ (n ≤ 4)
apart n = by (ltb 4 n) refl
  where
    by : (t : Bool) → ltb 4 n ≡ t → (4 < n) ⊎ (n ≤ 4)
    by true e = inl (ltb→lt 4 n (subst Holds (sym e) tt))
    by false e = inr (nltb→le 4 n (subst (λ (t : Bool). Holds (not t)) (sym e) tt))

pub few : (n : ℕ) → within n ≤ 4
few n = ⊎_elim (λ (l : 4 < n). subst (λ (t : Bool). cond t 4 n ≤ 4) (sym (lt-ltb 4 n l)) (omega arith)) (λ (l : n ≤ 4). subst (λ (t : Bool). cond t 4 n ≤ 4) (sym (le-ltb 4 n l)) l) (apart n)
