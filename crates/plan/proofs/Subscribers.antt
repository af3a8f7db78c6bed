-- The rules of the subscribers one after the other, as the loop of `soundness::all_sound` goes through them. Assumes nothing.
use mathlib.Core.Path.{◌≡◌, ap, ◌∙◌}
use mathlib.Core.Bool.{Bool, true, ◌&&◌, and-true}
use mathlib.Core.Logic.{◌⊎◌, inl, inr, ⊎_elim}
use mathlib.Core.List.{List}
use Prim.Native.Nat.{ℕ, zero, suc, ◌+◌, ◌-◌, ◌≤◌, ◌<◌}
use native.Mathlib.Nat.{not-suc-le-zero}
use native.Mathlib.Omega.{arith}
use lib.Dec.{ltb, leb}
use lib.ListN.{length}
use borrow.Author.Tests.{leb-true, ltb-true, lt-ltb, eqb-true}
use Rattle.typeset.specs.Sets.{every, implies}
use Rattle.typeset.proofs.Bools.{and_left, and_right, imp-at}
use Rattle.typeset.proofs.Below.{every-at}
use Rattle.typeset.proofs.Laws.{split}
use Rattle.plan.specs.declared.Types.{Types}
use Rattle.plan.specs.declared.Subscriber.{Subscriber}
use Rattle.plan.specs.Parts.{box_number, at, box}
use Rattle.plan.specs.Rules.{kind_known, address_given, count_fits, numbers_given, numbers_differ, boxes_blank, sets_in_choices, reversible_twice, lines_apart, one_kind, ascends}
use Rattle.plan.specs.Sound.{boxes_sound, own_sound, listed_sound, numbers_apart, subscriber_sound}
use Rattle.plan.specs.Table.{fits, claimed}
use Rattle.plan.specs.Steps.{above}
use Rattle.plan.proofs.Numbers.{Among, Numbered, Taken, taken_next, fits-is}

-- L19 as the code tests it, with k the place before i
pub above-code : (subs : List Subscriber) (i k : ℕ) {r : Bool} → k ≡ i - 1 → r ≡ above i (at subs k).address (at subs i).address
    → r ≡ ascends subs i
unfolding above ascends
above-code subs i k e p = p ∙ ap (λ (m : ℕ). above i (at subs m).address (at subs i).address) e

-- ---- what each of the first i subscribers keeps
module _ (t : Types) (subs : List Subscriber) (i : ℕ) (e : every i (subscriber_sound t subs) ≡ true) (j : ℕ) (h : j < i) where
  pub own_at : own_sound t (at subs j) ≡ true
  unfolding subscriber_sound
  own_at = and_left (own_sound t (at subs j)) (ascends subs j)
      (and_left (own_sound t (at subs j) && ascends subs j) (numbers_apart subs j) (every-at i (subscriber_sound t subs) e j h))

  pub ascends-at : ascends subs j ≡ true
  unfolding subscriber_sound
  ascends-at = and_right (own_sound t (at subs j)) (ascends subs j)
      (and_left (own_sound t (at subs j) && ascends subs j) (numbers_apart subs j) (every-at i (subscriber_sound t subs) e j h))

  pub apart-at : numbers_apart subs j ≡ true
  unfolding subscriber_sound
  apart-at = and_right (own_sound t (at subs j) && ascends subs j) (numbers_apart subs j) (every-at i (subscriber_sound t subs) e j h)

-- the addresses of the first n subscribers strictly ascend
module _ (t : Types) (subs : List Subscriber) (n : ℕ) (e : every n (subscriber_sound t subs) ≡ true) where
  next-above : (i : ℕ) → suc i < n → (at subs i).address < (at subs (suc i)).address
  unfolding ascends
  next-above i h =
      let back : (suc i) - 1 ≡ i = omega arith in
      rw back at (ltb-true (at subs (suc i - 1)).address (at subs (suc i)).address
      (imp-at (ltb 0 (suc i)) (ltb (at subs (suc i - 1)).address (at subs (suc i)).address) (ascends-at t subs n e (suc i) h) (lt-ltb 0 (suc i) (omega arith))))

  pub ascending : (i j : ℕ) → i < j → j < n → (at subs i).address < (at subs j).address
  ascending i zero l h = absurd (not-suc-le-zero l)
  ascending i (suc j) l h =
      ⊎_elim
      (λ (m : i < j). omega (arith, ascending i j m (omega arith), next-above j h))
      (λ (m : j ≤ i). let same : i ≡ j = omega arith in rw same (next-above j h))
      (split i j)

-- ---- what a subscriber that keeps its own rules has
module _ (t : Types) (s : Subscriber) (e : own_sound t s ≡ true) where
  own_first : (kind_known s && address_given s && count_fits s && sets_in_choices t s) ≡ true
  unfolding own_sound
  own_first = and_left _ (reversible_twice t s) (and_left _ (boxes_sound s) e)

  pub own-kind : kind_known s ≡ true
  own-kind = and_left _ (address_given s) (and_left _ (count_fits s) (and_left _ (sets_in_choices t s) own_first))

  pub own-address : address_given s ≡ true
  own-address = and_right (kind_known s) (address_given s) (and_left _ (count_fits s) (and_left _ (sets_in_choices t s) own_first))

  pub own-count : count_fits s ≡ true
  own-count = and_right (kind_known s && address_given s) (count_fits s) (and_left _ (sets_in_choices t s) own_first)

  pub own-sets : sets_in_choices t s ≡ true
  own-sets = and_right (kind_known s && address_given s && count_fits s) (sets_in_choices t s) own_first

  pub own-reversible : reversible_twice t s ≡ true
  unfolding own_sound
  own-reversible = and_right (kind_known s && address_given s && count_fits s && sets_in_choices t s) (reversible_twice t s) (and_left _ (boxes_sound s) e)

  pub own-boxes : boxes_sound s ≡ true
  unfolding own_sound
  own-boxes = and_right (kind_known s && address_given s && count_fits s && sets_in_choices t s && reversible_twice t s) (boxes_sound s) e

  pub kind-not-zero : ¬ (s.kind ≡ 0)
  unfolding kind_known
  kind-not-zero z = omega (arith, leb-true 1 s.kind (and_left (leb 1 s.kind) (leb s.kind 4) own-kind))

  pub numbers-small : (y : ℕ) → y < 4 → ltb y s.count ≡ true → box s y < 65536
  unfolding boxes_sound numbers_given box_number
  numbers-small y h l =
      let given : numbers_given s ≡ true = and_left (numbers_given s) (numbers_differ s) (and_left (numbers_given s && numbers_differ s) (boxes_blank s) own-boxes) in
      let number : box_number (box s y) ≡ true = imp-at (ltb y s.count) (box_number (box s y)) (every-at 4 (λ x. implies (ltb x s.count) (box_number (box s x))) given y h) l in
      omega (arith, leb-true (box s y) 65535 (and_right (leb 1 (box s y)) (leb (box s y) 65535) number))

  -- a mobile, the one kind that needs more than two bits, has no number
  low-kind : (s.kind < 4) ⊎ (s.count ≡ 0)
  unfolding kind_known count_fits
  low-kind =
      ⊎_elim (λ (l : s.kind < 4). inl l)
      (λ (l : 4 ≤ s.kind).
      let most = leb-true s.kind 4 (and_right (leb 1 s.kind) (leb s.kind 4) own-kind) in
      let four : s.kind ≡ 4 = omega (arith, l, most) in
      inr (eqb-true s.count 0 (rw four at own-count)))
      (split s.kind 4)

  pub numbered : length s.boxes ≡ 4 → Numbered s
  numbered long = record { four = long; small = numbers-small; low = low-kind }

-- where the places past its count are 0, its own rules are L10 to L16
pub own-listed : (t : Types) (s : Subscriber) → boxes_blank s ≡ true → own_sound t s ≡ listed_sound t s
unfolding own_sound listed_sound boxes_sound
own-listed t s blank = rw (blank, and-true (numbers_given s && numbers_differ s))

-- ---- those before place i, for the table of numbers
module _ (t : Types) (subs : List Subscriber) (i : ℕ) (e : every i (subscriber_sound t subs) ≡ true) where
  pub one-kind-among : Among one_kind subs i
  unfolding numbers_apart
  one-kind-among j k jk ki =
      and_right (lines_apart (at subs j) (at subs k)) (one_kind (at subs j) (at subs k))
      (every-at k (λ j. lines_apart (at subs j) (at subs k) && one_kind (at subs j) (at subs k)) (apart-at t subs i e k ki) j jk)

  pub kinds-among : (j : ℕ) → j < i → ¬ ((at subs j).kind ≡ 0)
  kinds-among j h = kind-not-zero t (at subs j) (own_at t subs i e j h)

  -- and the subscriber at place i, whose own rules hold, fits into their table where L17 and L18 hold
  pub fits-code : (taken : List ℕ) → Taken taken subs i → own_sound t (at subs i) ≡ true → fits taken (at subs i) ≡ numbers_apart subs i
  fits-code taken 𝓣 own =
      fits-is taken subs i 𝓣 one-kind-among kinds-among (numbers-small t (at subs i) own)

  -- and with it they leave the next table
  pub table-next : (taken : List ℕ) → length (at subs i).boxes ≡ 4 → Taken taken subs i → subscriber_sound t subs i ≡ true → Taken (claimed taken (at subs i)) subs (i + 1)
  unfolding subscriber_sound
  table-next taken four 𝓣 here =
      let own = and_left (own_sound t (at subs i)) (ascends subs i) (and_left (own_sound t (at subs i) && ascends subs i) (numbers_apart subs i) here) in
      taken_next taken subs i (numbered t (at subs i) own four)
      (fits-code taken 𝓣 own ∙ and_right (own_sound t (at subs i) && ascends subs i) (numbers_apart subs i) here) 𝓣
