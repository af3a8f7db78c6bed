-- Ranges read off an array place by place. Assumes nothing.
use mathlib.Core.List.{List, [], ◌∷◌}
use Prim.Native.Nat.{ℕ, zero, suc, ◌+◌, ◌<◌, ◌≤◌}
use native.Mathlib.Numerals.{add-one}
use native.Mathlib.Omega.{arith}
use lib.ListN.{length, get_or, take}
use Rattle.plan.specs.declared.Subscriber.{Subscriber}
use Rattle.plan.specs.Parts.{at}
use Rattle.planbytes.specs.Numbers.{Below}
use Rattle.planfile.specs.Typed.{TypedSubscriber, AllTyped}

-- ---- numbers

pub below-each : (n : ℕ) (xs : List ℕ) → ((i : ℕ) → get_or xs i 0 < n) → Below n xs
unfolding Below
below-each n [] f = tt
below-each n (x ∷ xs) f = (f 0, below-each n xs (λ i. f (suc i)))

-- ---- subscribers

pub typed-none : (l : List Subscriber) → AllTyped (take 0 l)
unfolding AllTyped
typed-none l = tt

typed-suc : (l : List Subscriber) (x : ℕ) → x < length l → AllTyped (take x l) → TypedSubscriber (at l x) → AllTyped (take (suc x) l)
unfolding AllTyped
typed-suc [] x h b g = absurd (omega arith)
typed-suc (y ∷ l) zero h b g = (g, tt)
typed-suc (y ∷ l) (suc x) h b g = (b.0, typed-suc l x (omega arith) b.1 g)

pub typed-more : (l : List Subscriber) (x : ℕ) → x < length l → AllTyped (take x l) → TypedSubscriber (at l x) → AllTyped (take (x + 1) l)
typed-more l x h b g = rw (add-one x) (typed-suc l x h b g)

pub typed-all : (l : List Subscriber) (x : ℕ) → length l ≤ x → AllTyped (take x l) → AllTyped l
unfolding AllTyped
typed-all [] x h b = tt
typed-all (y ∷ l) zero h b = absurd (omega arith)
typed-all (y ∷ l) (suc x) h b = (b.0, typed-all l x (omega arith) b.1)
