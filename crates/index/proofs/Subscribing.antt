-- What a list of the index has: the addresses of those who subscribe to the type in the region, and of no other; in a sound plan strictly ascending. A look-up answers that list. Assumes nothing.
use mathlib.Core.Path.{◌≡◌, refl, sym, ap, ◌∙◌}
use mathlib.Core.Logic.{⊎_elim}
use mathlib.Core.Bool.{Bool, true, false, not, ◌&&◌, ◌||◌}
use mathlib.Core.List.{List, [], ◌∷◌, ◌++◌, map, append_assoc}
use Prim.Native.Nat.{ℕ, suc, ◌+◌, ◌-◌, ◌≤◌, ◌<◌, min}
use native.Mathlib.Nat.{min-eq_left}
use native.Mathlib.Omega.{arith}
use lib.Dec.{eqb, ltb}
use lib.ListN.{length, get_or, take, replicate, length-take}
use lib.Seq.{get_or-take, take_at}
use borrow.Author.Tests.{lt-ltb, le-ltb, eqb-false}
use Rattle.typeset.specs.Sets.{has, some}
use Rattle.typeset.proofs.Bools.{yes_or_no, and_right, and-make, not-true}
use Rattle.typeset.proofs.Below.{some-ext}
use Rattle.lists.specs.Lists.{elem, keep, ascend}
use Rattle.lists.proofs.Ascending.{ascend-low}
use Rattle.plan.specs.declared.Region.{Region}
use Rattle.plan.specs.declared.Region.TheVariants.{Source, Target}
use Rattle.plan.specs.declared.Subscriber.{Subscriber}
use Rattle.plan.specs.declared.Plan.{Plan}
use Rattle.plan.specs.Parts.{legal, given, nobody, at, subscribed}
use Rattle.plan.specs.Sound.{sound}
use Rattle.plan.specs.Find.{used}
use Rattle.plan.proofs.Laws.{addresses-ascend, address-given, used_all}
use Rattle.index.specs.Index.{address_of, subscribers_to, row, list_of, tab, index_of, row_for, looked_up}
use Rattle.index.specs.Steps.{wants}
use Rattle.index.proofs.Rows.{tab-at}
use Rattle.index.proofs.Built.{row_count, list-is}
use Rattle.index.proofs.Moved.{few-used, used_le}

-- ---- members

elem-kept : (q : Subscriber → Bool) (a : ℕ) (l : List Subscriber)
    → elem a (map address_of (keep q l)) ≡ some (length l) (λ i. q (at l i) && eqb a (at l i).address)
unfolding elem keep some
elem-kept q a [] = refl
elem-kept q a (s ∷ ss) =
    ⊎_elim
    (λ (e : q s ≡ true). rw e (ap (λ (b : Bool). eqb a s.address || b) (elem-kept q a ss)))
    (λ (e : q s ≡ false). rw e (elem-kept q a ss))
    (yes_or_no (q s))

-- an address is in the list exactly if a subscriber in use has it and subscribes to the type in the region
pub in_list : (p : Plan) (r : Region) (t a : ℕ) → length p.subscribers ≡ 256
    → elem a (subscribers_to p r t) ≡ some (used p) (λ i. has t (subscribed r (at p.subscribers i)) && eqb a (at p.subscribers i).address)
unfolding subscribers_to
in_list p r t a long =
    elem-kept (λ s. has t (subscribed r s)) a (take (used p) p.subscribers) ∙ as_many ∙ some-ext (used p) _ _ (λ i h. same i h)
  where
    as_many : some (length (take (used p) p.subscribers)) (λ i. has t (subscribed r (at (take (used p) p.subscribers) i)) && eqb a (at (take (used p) p.subscribers) i).address)
        ≡ some (used p) (λ i. has t (subscribed r (at (take (used p) p.subscribers) i)) && eqb a (at (take (used p) p.subscribers) i).address)
    as_many = ap (λ (n : ℕ). some n (λ i. has t (subscribed r (at (take (used p) p.subscribers) i)) && eqb a (at (take (used p) p.subscribers) i).address)) (omega (arith, length-take (used p) p.subscribers, used_le p))

    same : (i : ℕ) → i < used p → (has t (subscribed r (at (take (used p) p.subscribers) i)) && eqb a (at (take (used p) p.subscribers) i).address) ≡ (has t (subscribed r (at p.subscribers i)) && eqb a (at p.subscribers i).address)
    same i h = ap (λ (s : Subscriber). has t (subscribed r s) && eqb a s.address) (get_or-take (used p) p.subscribers i nobody h)

-- ---- order

rising : (q : Subscriber → Bool) (b : ℕ) (l : List Subscriber)
    → ((j : ℕ) → j < length l → b < (at l j).address)
    → ((i j : ℕ) → i < j → j < length l → (at l i).address < (at l j).address) → ascend b (map address_of (keep q l)) ≡ true
unfolding ascend keep
rising q b [] low up = refl
rising q b (s ∷ ss) low up =
    let first : b < s.address = low 0 (omega arith) in
    let rest = rising q s.address ss (λ j h. up 0 (suc j) (omega arith) (omega arith)) (λ i j h k. up (suc i) (suc j) (omega arith) (omega arith)) in
    ⊎_elim
    (λ (e : q s ≡ true). rw e (and-make (lt-ltb b s.address first) rest))
    (λ (e : q s ≡ false). rw e (ascend-low b s.address (map address_of (keep q ss)) (omega arith) rest))
    (yes_or_no (q s))

-- an address that somebody can have is not 0
given-pos : (a : ℕ) → given a ≡ true → 0 < a
unfolding given
given-pos a e =
    let other : ¬ (a ≡ 0) = eqb-false a 0 (not-true (eqb a 0) (and_right (legal a) (not (eqb a 0)) e)) in
    omega arith

-- in a sound plan each list strictly ascends
pub ascending : (p : Plan) (r : Region) (t : ℕ) → length p.subscribers ≡ 256 → sound p ≡ true → ascend 0 (subscribers_to p r t) ≡ true
unfolding subscribers_to
ascending p r t long kept = rising (λ s. has t (subscribed r s)) 0 (take (used p) p.subscribers) (λ j h. low j (below j h)) (λ i j h k. up i j h (below j k))
  where
    below : (j : ℕ) → j < length (take (used p) p.subscribers) → j < used p
    below j h = omega (arith, length-take (used p) p.subscribers)

    low : (j : ℕ) → j < used p → 0 < (at (take (used p) p.subscribers) j).address
    low j h = rw (get_or-take (used p) p.subscribers j nobody h) (given-pos (at p.subscribers j).address (address-given p kept j (rw (used_all p kept) at h)))

    up : (i j : ℕ) → i < j → j < used p → (at (take (used p) p.subscribers) i).address < (at (take (used p) p.subscribers) j).address
    up i j h k =
        let first : i < used p = omega arith in
        rw (get_or-take (used p) p.subscribers i nobody first, get_or-take (used p) p.subscribers j nobody k) (addresses-ascend p kept i j h (rw (used_all p kept) at k))

-- ---- what a look-up answers

-- the list of a row, as long as its last place says
row_list : (l : List ℕ) → length l ≤ 256 → take (min (get_or (row l) 256 0) 256) (row l) ≡ l
unfolding row
row_list l h =
    let size : min (get_or (row l) 256 0) 256 ≡ length l = ap (λ (n : ℕ). min n 256) (row_count l h) ∙ min-eq_left h in
    ap (λ (n : ℕ). take n (row l)) size
    ∙ ap (take (length l)) (append_assoc l (replicate (256 - length l) 0) (length l ∷ []))
    ∙ take_at l (replicate (256 - length l) 0 ++ (length l ∷ [])) (length l) refl

few-listed : (p : Plan) (k : ℕ) → length (list_of p k) ≤ 256
few-listed p k = rw (sym (list-is p k)) (few-used p k)

pub list-for : (p : Plan) (r : Region) (t : ℕ) → t < 32 → list_of p (row_for r t) ≡ subscribers_to p r t
unfolding list_of
list-for p Source t h = rw (lt-ltb t 32 h)
list-for p Target t h =
    let past : 32 ≤ 32 + t = omega arith in
    let same : 32 + t - 32 ≡ t = omega arith in
    rw (le-ltb (32 + t) 32 past, same)

pub wants-for : (r : Region) (t : ℕ) → t < 32 → (s : Subscriber) → wants (row_for r t) s ≡ has t (subscribed r s)
unfolding wants
wants-for Source t h s = rw (lt-ltb t 32 h)
wants-for Target t h s =
    let past : 32 ≤ 32 + t = omega arith in
    let same : 32 + t - 32 ≡ t = omega arith in
    rw (le-ltb (32 + t) 32 past, same)

pub row_below : (r : Region) (t : ℕ) → t < 32 → row_for r t < 64
row_below Source t h = omega arith
row_below Target t h = omega arith

-- in the index of a plan: those who subscribe to the type in the region
pub looked-up : (p : Plan) (r : Region) (t : ℕ) → t < 32 → looked_up (index_of p) r t ≡ subscribers_to p r t
unfolding looked_up index_of
looked-up p r t h =
    let there : get_or (tab 64 (λ k. row (list_of p k))) (row_for r t) [] ≡ row (list_of p (row_for r t)) = tab-at 64 (row_for r t) (λ k. row (list_of p k)) (row_below r t h) in
    rw (lt-ltb t 32 h, there) (row_list (list_of p (row_for r t)) (few-listed p (row_for r t)) ∙ list-for p r t h)

-- in any memory: nothing for a type above 31, and no more than 256 places
pub looked-past : (index : List (List ℕ)) (r : Region) (t : ℕ) → 32 ≤ t → looked_up index r t ≡ []
unfolding looked_up
looked-past index r t h = rw (le-ltb t 32 h)

pub looked-few : (index : List (List ℕ)) (r : Region) (t : ℕ) → length (looked_up index r t) ≤ 256
unfolding looked_up
looked-few index r t =
    let places = get_or index (row_for r t) [] in
    ⊎_elim
    (λ (e : ltb t 32 ≡ true). rw e (omega (arith, length-take (min (get_or places 256 0) 256) places)))
    (λ (e : ltb t 32 ≡ false). rw e (omega arith))
    (yes_or_no (ltb t 32))
