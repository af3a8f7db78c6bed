-- What each operation does to the set of links: the memory holds a set again, and which links are in it. Assumes nothing.
use mathlib.Core.Path.{◌≡◌, refl, sym, ap, ap₂, ◌∙◌}
use mathlib.Core.Logic.{⊎_elim}
use mathlib.Core.Bool.{Bool, true, false, not, ◌&&◌, ◌||◌, cond}
use mathlib.Core.List.{List, [], ◌∷◌}
use Prim.Native.Nat.{ℕ, ◌+◌, ◌*◌, ◌^◌, ◌≤◌, ◌<◌}
use native.Mathlib.Omega.{arith}
use lib.Dec.{eqb, ltb}
use lib.ListN.{length}
use borrow.Author.Tests.{eqb-true, eqb-false, ne_eqb, eq-eqb, ltb-true, lt-ltb}
use Rattle.typeset.proofs.Bools.{yes_or_no, clash, or_cases, and_left, and_right, and-make}
use Rattle.refusal.specs.declared.Refusal.TheVariants.{OnePort, LinksFull, NotLinks}
use Rattle.lists.specs.Lists.{elem, keep, ascend}
use Rattle.lists.proofs.Members.{elem-keep}
use Rattle.lists.proofs.Ascending.{one_list, ascend-low}
use Rattle.std.specs.Prelude.{Ok, Err}
use Rattle.links.specs.Links.{sink_of, source_of, apart, touches}
use Rattle.links.specs.Sets.{insert, added, removed, dropped, sources, links, formed, places_of}
use Rattle.links.specs.Said.{said_formed, room_for, add_said, add_after, remove_after, drop_after}
use Rattle.links.proofs.Memory.{positive, rising, three, rising-ascends, rising-keep, rising-insert, apart-taken, formed-places, links-rise, Holds, places-hold}
use Rattle.links.proofs.Laws.{add-there, remove_absent}

elem-insert : (x y : ℕ) (xs : List ℕ) → elem y (insert x xs) ≡ (eqb y x || elem y xs)
unfolding elem insert
elem-insert x y [] = refl
elem-insert x y (z ∷ zs) = ⊎_elim (λ e. rw e) (λ e. rw e (ap (λ (b : Bool). eqb y z || b) (elem-insert x y zs) ∙ swap (eqb y z) (eqb y x) (elem y zs))) (yes_or_no (ltb x z))
  where
    swap : (a b d : Bool) → (a || (b || d)) ≡ (b || (a || d))
    swap true true d = refl
    swap true false d = refl
    swap false true d = refl
    swap false false d = refl

-- the ports of a link in a set differ
member_apart : (b x : ℕ) (xs : List ℕ) → rising b xs ≡ true → elem x xs ≡ true → apart x ≡ true
unfolding rising elem
member_apart b x [] e i = absurd (clash i refl)
member_apart b x (y ∷ ys) e i =
    let t = three (ltb b y) (apart y) (rising y ys) e in
    ⊎_elim (λ s. ap apart (eqb-true x y s) ∙ t.1) (λ s. member_apart y x ys t.2 s) (or_cases (eqb x y) (elem x ys) i)

module _ (m : List ℕ) (good : formed m ≡ true) where
  -- ---- the memory holds a set again: as a list this one

  pub remove-holds : (x : ℕ) → Holds (remove_after x m) (removed x (links m))
  unfolding remove_after removed
  remove-holds x = rw good (places-hold (removed x (links m)) (rising-keep _ 0 (links m) (links-rise m good)))

  pub drop-holds : (p : ℕ) → Holds (drop_after p m) (dropped p (links m))
  unfolding drop_after dropped
  drop-holds p = rw good (places-hold (dropped p (links m)) (rising-keep _ 0 (links m) (links-rise m good)))

  pub add_holds : (x : ℕ) → apart x ≡ true → room_for x m ≡ true → Holds (add_after x m) (added x (links m))
  unfolding add_after add_said added
  add_holds x a r = rw (good, a, r) (places-hold (added x (links m)) rises)
    where
      rises : rising 0 (cond (elem x (links m)) (links m) (insert x (links m))) ≡ true
      rises =
          ⊎_elim
          (λ e. rw e (links-rise m good))
          (λ e. rw e (rising-insert x 0 (links m) a (positive (eqb-false x 0 (apart-taken x a))) e (links-rise m good)))
          (yes_or_no (elem x (links m)))

  -- ---- the links that are in the set after each

  -- removing x: all but x
  pub remove-members : (x y : ℕ) → elem y (links (remove_after x m)) ≡ (not (eqb y x) && elem y (links m))
  unfolding removed
  remove-members x y = rw (remove-holds x).list (elem-keep (λ l. not (eqb l x)) y (links m))

  -- dropping the port p: all that do not touch it
  pub drop-members : (p y : ℕ) → elem y (links (drop_after p m)) ≡ (not (touches p y) && elem y (links m))
  unfolding dropped
  drop-members p y = rw (drop-holds p).list (elem-keep (λ l. not (touches p l)) y (links m))

  -- adding x, where it is accepted: x, and all that were there
  pub add-members : (x y : ℕ) → apart x ≡ true → room_for x m ≡ true → elem y (links (add_after x m)) ≡ (eqb y x || elem y (links m))
  unfolding added
  add-members x y a r = rw (add_holds x a r).list (⊎_elim there absent (yes_or_no (elem x (links m))))
    where
      there : elem x (links m) ≡ true → elem y (cond (elem x (links m)) (links m) (insert x (links m))) ≡ (eqb y x || elem y (links m))
      there e = rw e (⊎_elim (λ s. rw s (ap (λ (z : ℕ). elem z (links m)) (eqb-true y x s) ∙ e)) (λ s. rw s) (yes_or_no (eqb y x)))

      absent : elem x (links m) ≡ false → elem y (cond (elem x (links m)) (links m) (insert x (links m))) ≡ (eqb y x || elem y (links m))
      absent e = rw e (elem-insert x y (links m))

  -- dropping leaves the links of other ports
  pub drop-leaves : (p y : ℕ) → touches p y ≡ false → elem y (links (drop_after p m)) ≡ elem y (links m)
  drop-leaves p y e = drop-members p y ∙ rw e

  -- ---- what changes nothing

  -- removing a link that is absent: it is accepted
  pub absent-stays : (x : ℕ) → length m ≡ 64 → elem x (links m) ≡ false → (said_formed (formed m) ≡ Ok tt) × (remove_after x m ≡ m)
  absent-stays x long e = let t = remove_absent x m long good e in (sym t.0, sym t.1)

  -- adding a link that is there, even with 64 held: it is accepted
  pub present-stays : (x : ℕ) → length m ≡ 64 → elem x (links m) ≡ true → (add_said x m ≡ Ok tt) × (add_after x m ≡ m)
  present-stays x long e = let t = add-there x m long good (member_apart 0 x (links m) (links-rise m good) e) e in (sym t.0, sym t.1)

-- ---- two sets with the same links are the same memory

pub same_memory : (m n : List ℕ) → length m ≡ 64 → length n ≡ 64 → formed m ≡ true → formed n ≡ true → ((l : ℕ) → elem l (links m) ≡ elem l (links n)) → m ≡ n
same_memory m n long long' f g e =
    sym (formed-places m long f)
    ∙ ap places_of (one_list 0 (links m) (links n) (rising-ascends 0 (links m) (links-rise m f)) (rising-ascends 0 (links n) (links-rise n g)) e)
    ∙ formed-places n long' g

-- ---- the sources listed for a sink

joins : (x t s : ℕ) → sink_of x ≡ t → s ≡ source_of x → t * 2 ^ 32 + s ≡ x
joins x t s q r = omega arith

parts : (x t s : ℕ) → s < 2 ^ 32 → t * 2 ^ 32 + s ≡ x → (sink_of x ≡ t) × (s ≡ source_of x)
parts x t s h j = (omega arith, omega arith)

-- those whose link to it is in the set
pub sources-members : (t s : ℕ) (xs : List ℕ) → s < 2 ^ 32 → elem s (sources t xs) ≡ elem (t * 2 ^ 32 + s) xs
unfolding elem sources keep
sources-members t s [] h = refl
sources-members t s (x ∷ xs) h =
    let rest = sources-members t s xs h in
    ⊎_elim
    (λ (e : eqb (sink_of x) t ≡ true).
    let q = eqb-true (sink_of x) t e in
    let same : eqb s (source_of x) ≡ eqb (t * 2 ^ 32 + s) x = ⊎_elim (λ (y : eqb s (source_of x) ≡ true). y ∙ sym (eq-eqb (t * 2 ^ 32 + s) x (joins x t s q (eqb-true s (source_of x) y)))) (λ (y : eqb s (source_of x) ≡ false). y ∙ sym (ne_eqb (t * 2 ^ 32 + s) x (λ j. eqb-false s (source_of x) y (parts x t s h j).1))) (yes_or_no (eqb s (source_of x))) in
    rw e (ap₂ ◌||◌ same rest))
    (λ (e : eqb (sink_of x) t ≡ false). rw (e, ne_eqb (t * 2 ^ 32 + s) x (λ j. eqb-false (sink_of x) t e (parts x t s h j).0)) rest)
    (yes_or_no (eqb (sink_of x) t))

-- they ascend, so none is listed twice: each is greater than the one before it, and the first than any number below it
unfoldable pub ascends : List ℕ → Bool
ascends [] = true
ascends (x ∷ xs) = ascend x xs

sources-above : (t b : ℕ) (xs : List ℕ) → sink_of b ≡ t → ascend b xs ≡ true → ascend (source_of b) (sources t xs) ≡ true
unfolding ascend sources keep
sources-above t b [] q e = refl
sources-above t b (x ∷ xs) q e =
    let low : b < x = ltb-true b x (and_left (ltb b x) (ascend x xs) e) in
    let rest = and_right (ltb b x) (ascend x xs) e in
    ⊎_elim
    (λ (y : eqb (sink_of x) t ≡ true). rw y (and-make (lt-ltb (source_of b) (source_of x) (higher b x t q (eqb-true (sink_of x) t y) low)) (sources-above t x xs (eqb-true (sink_of x) t y) rest)))
    (λ (y : eqb (sink_of x) t ≡ false). rw y (sources-above t b xs q (ascend-low b x xs (less b x low) rest)))
    (yes_or_no (eqb (sink_of x) t))
  where
    higher : (b x t : ℕ) → sink_of b ≡ t → sink_of x ≡ t → b < x → source_of b < source_of x
    higher b x t q r h = omega arith

    less : (b x : ℕ) → b < x → b ≤ x
    less b x h = omega arith

list-ascends : (t b : ℕ) (xs : List ℕ) → ascend b xs ≡ true → ascends (sources t xs) ≡ true
unfolding ascend ascends sources keep
list-ascends t b [] e = refl
list-ascends t b (x ∷ xs) e =
    let rest = and_right (ltb b x) (ascend x xs) e in
    ⊎_elim
    (λ (y : eqb (sink_of x) t ≡ true). rw y (sources-above t x xs (eqb-true (sink_of x) t y) rest))
    (λ (y : eqb (sink_of x) t ≡ false). rw y (list-ascends t x xs rest))
    (yes_or_no (eqb (sink_of x) t))

pub sources-ascend : (t : ℕ) (m : List ℕ) → formed m ≡ true → ascends (sources t (links m)) ≡ true
sources-ascend t m f = list-ascends t 0 (links m) (rising-ascends 0 (links m) (links-rise m f))

-- ---- which refusal: 82 before 80, 80 before 81

pub not-links-first : (x : ℕ) (m : List ℕ) → formed m ≡ false → add_said x m ≡ Err NotLinks
unfolding add_said
not-links-first x m f = rw f

pub one-port-next : (x : ℕ) (m : List ℕ) → formed m ≡ true → apart x ≡ false → add_said x m ≡ Err OnePort
unfolding add_said
one-port-next x m f a = rw (f, a)

pub full-last : (x : ℕ) (m : List ℕ) → formed m ≡ true → apart x ≡ true → elem x (links m) ≡ false → ltb (length (links m)) 64 ≡ false → add_said x m ≡ Err LinksFull
unfolding add_said room_for
full-last x m f a e n = rw (f, a, e, n)
