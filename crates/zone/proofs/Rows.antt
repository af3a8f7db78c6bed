-- The laws of `preceded`, `unpreceded` and `next` (`Order.antt`), and the steps of the loop that makes `preceded`. Assumes nothing.
use mathlib.Core.Path.{◌≡◌, sym, ap, ◌∙◌}
use mathlib.Core.Bool.{Bool, true, false, not, ◌&&◌, ◌||◌, or-false, or_assoc}
use mathlib.Core.List.{List}
use Prim.Native.Nat.{ℕ, ◌^◌, ◌<◌}
use lib.ListN.{get_or}
use lib.Dec.{eqb}
use borrow.Author.Tests.{eqb-true, eqb-false}
use mathlib.Core.Logic.{⊎_elim}
use Rattle.typeset.specs.Sets.{has, some, without, join, lowest}
use Rattle.typeset.proofs.Bools.{yes_or_no, and_left}
use Rattle.typeset.proofs.Below.{set_of-lt}
use Rattle.typeset.proofs.Laws.{has-ext, has-set_of, has-join-at, has-empty, minus-lt, has-minus, has-below, lowest-has, lowest-lt}
use Rattle.typeset.proofs.Taken.{some_in-empty, some_in-but}
use Rattle.zone.specs.Order.{preceded, unpreceded, next}
use Rattle.order.specs.Rules.{precedes}

-- u is in s and comes before t
abbrev pub before : List ℕ → ℕ → ℕ → ℕ → Bool
before rows s t u = has u s && precedes rows u t

-- what a type of s precedes was found, or a type that is left precedes it
abbrev pub Found : List ℕ → ℕ → ℕ → ℕ → Type 0
Found rows s found left = (t : ℕ) → t < 32 → some 32 (before rows s t) ≡ (has t found || some 32 (before rows left t))

pub found_none : (rows : List ℕ) (s : ℕ) → Found rows s 0 s
found_none rows s t h = rw (has-empty t)

-- the row of a type that is left is joined, and the type goes
pub found-row : (rows : List ℕ) (s found left u : ℕ) → Found rows s found left → u < 32 → has u left ≡ true
    → Found rows s (join found (get_or rows u 0)) (without left u)
unfolding precedes
found-row rows s found left u f l e t h =
    let rest = some 32 (before rows (without left u) t) in
    f t h ∙ ap (λ (b : Bool). has t found || b) (some_in-but left (λ u. precedes rows u t) u l e)
    ∙ sym (or_assoc (has t found) (has t (get_or rows u 0)) rest)
    ∙ ap (λ (b : Bool). b || rest) (sym (has-join-at found (get_or rows u 0) t h))

pub found_all : (rows : List ℕ) (s found : ℕ) → found < 2 ^ 32 → Found rows s found 0 → found ≡ preceded rows s
unfolding preceded
found_all rows s found h f =
    has-ext 32 found _ h (set_of-lt 32 _)
    (λ t l. sym (f t l ∙ ap (λ (b : Bool). has t found || b) (some_in-empty (λ u. precedes rows u t)) ∙ or-false (has t found)) ∙ sym (has-set_of 32 _ t l))

pub has-preceded : (rows : List ℕ) (s t : ℕ) → t < 32 → has t (preceded rows s) ≡ some 32 (before rows s t)
unfolding preceded
has-preceded rows s t h = has-set_of 32 _ t h

-- ---- next

-- where some type is first, next is the lowest of those; where none is, the lowest of all
pub next-stuck : (rows : List ℕ) (s : ℕ) → unpreceded rows s ≡ 0 → next rows s ≡ lowest s
unfolding next
next-stuck rows s e = rw e

pub next-free : (rows : List ℕ) (s : ℕ) → eqb (unpreceded rows s) 0 ≡ false → next rows s ≡ lowest (unpreceded rows s)
unfolding next
next-free rows s e = rw e

pub first-lt : (rows : List ℕ) (s : ℕ) → unpreceded rows s < 2 ^ 32
unfolding unpreceded
first-lt rows s = minus-lt s (preceded rows s)

pub has_first : (rows : List ℕ) (s t : ℕ) → s < 2 ^ 32 → has t (unpreceded rows s) ≡ (has t s && not (has t (preceded rows s)))
unfolding unpreceded
has_first rows s t h = has-minus (preceded rows s) t h

pub next-has : (rows : List ℕ) {s : ℕ} → s < 2 ^ 32 → ¬ (s ≡ 0) → has (next rows s) s ≡ true
next-has rows {s} h ne =
    ⊎_elim
    (λ e. rw (next-stuck rows s (eqb-true (unpreceded rows s) 0 e)) (lowest-has s (lowest-lt h ne)))
    (λ e. rw (next-free rows s e)
    (and_left _ _ (sym (has_first rows s _ h) ∙ lowest-has (unpreceded rows s) (lowest-lt (first-lt rows s) (eqb-false (unpreceded rows s) 0 e)))))
    (yes_or_no (eqb (unpreceded rows s) 0))

pub next-lt : (rows : List ℕ) {s : ℕ} → s < 2 ^ 32 → ¬ (s ≡ 0) → next rows s < 32
next-lt rows {s} h ne = has-below 32 (next rows s) h (next-has rows h ne)
