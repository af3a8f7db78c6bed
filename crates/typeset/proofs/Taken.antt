-- A loop that takes the types out of a set one by one, the lowest first: what it has asked so far for one of them, and what is left to ask. Assumes nothing.
use mathlib.Core.Path.{◌≡◌, refl, sym, ap, ap₂, ◌∙◌}
use mathlib.Core.Bool.{Bool, true, false, not, ◌&&◌, ◌||◌, and_comm}
use Prim.Native.Nat.{ℕ, ◌^◌, ◌<◌}
use native.Mathlib.Omega.{arith}
use lib.Dec.{eqb}
use Rattle.typeset.specs.Sets.{has, some, without, lowest, size}
use Rattle.typeset.proofs.Bools.{fails, and_left, clash}
use Rattle.typeset.proofs.Below.{some_at, some-ext, some-but}
use Rattle.typeset.proofs.Laws.{has-empty, has-without-at, lowest-has, lowest-lt, size-without}

-- one type of s passes
abbrev pub some_in : ℕ → (ℕ → Bool) → Bool
some_in s p = some 32 (λ t. has t s && p t)

-- ---- the empty set

pub some_in-empty : (p : ℕ → Bool) → some_in 0 p ≡ false
some_in-empty p = fails (some_in 0 p) (λ e. let r = some_at 32 _ e in clash (and_left _ _ r.2) (has-empty r.0))

-- ---- one type of s apart from the others

and-turn : (a b c : Bool) → (a && b && c) ≡ (a && c && b)
and-turn true b c = and_comm b c
and-turn false b c = refl

pub some_in-but : (s : ℕ) (p : ℕ → Bool) (u : ℕ) → u < 32 → has u s ≡ true → some_in s p ≡ (p u || some_in (without s u) p)
some_in-but s p u h e =
    some-but 32 (λ t. has t s && p t) u h
    ∙ ap₂ ◌||◌ (ap (λ (b : Bool). b && p u) e)
    (some-ext 32 _ _ (λ t l. and-turn (has t s) (p t) (not (eqb t u)) ∙ ap (λ (b : Bool). b && p t) (sym (has-without-at s u t l))))

-- ---- a turn of the loop: u is the lowest type of s, which is not empty
module _ {s u : ℕ} (h : s < 2 ^ 32) (ne : ¬ (s ≡ 0)) (low : u ≡ lowest s) where
  pub taken-below : u < 32
  taken-below = rw low (lowest-lt h ne)

  pub taken-has : has u s ≡ true
  taken-has = rw low (lowest-has s (lowest-lt h ne))

  -- what is left has one type less
  pub taken-less : {v : ℕ} → v ≡ without s u → size v < size s
  taken-less {v} e = rw e (omega (arith, size-without u h taken-has))
