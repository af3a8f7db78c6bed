-- What the program leaves in memory is what each operation says. Assumes nothing.
use mathlib.Core.Path.{◌≡◌, refl, sym, ap, ◌∙◌}
use mathlib.Core.Logic.{⊎_elim}
use mathlib.Core.Bool.{Bool, true, false, not, ◌||◌}
use mathlib.Core.List.{List, [], ◌∷◌, ◌++◌, map, append_assoc}
use Prim.Native.Nat.{ℕ, zero, suc, ◌+◌, ◌-◌, ◌≤◌, ◌<◌}
use native.Mathlib.Nat.{zero-add}
use native.Mathlib.Numerals.{add-one}
use native.Mathlib.Omega.{arith}
use lib.Dec.{eqb, ltb}
use lib.ListN.{length, get_or, set, drop, replicate, length-append, length-replicate, length-map, replicate-append-replicate}
use lib.Seq.{sets, length-sets, sets-eq, drop_at}
use borrow.Author.Tests.{eqb-true, eqb-false, eq-eqb, ne_eqb, ltb-true, ltb-false, lt-ltb, le-ltb}
use Rattle.typeset.proofs.Bools.{yes_or_no, clash, fails, or_cases}
use Rattle.refusal.specs.declared.Refusal.{Refusal}
use Rattle.refusal.specs.declared.Refusal.TheVariants.{OnePort, LinksFull, NotLinks}
use Rattle.lists.specs.Lists.{elem, keep}
use Rattle.lists.proofs.Places.{keep-le, stores-pad}
use Rattle.lists.proofs.Members.{or_no, elem-keep, keep-keep, keep-absent}
use Rattle.lists.proofs.Ascending.{above}
use Rattle.std.specs.Prelude.{Ok, Err}
use Rattle.links.specs.Links.{source_of, apart, touches}
use Rattle.links.specs.Sets.{insert, added, removed, dropped, sources, taken, links, formed, places_of}
use Rattle.links.specs.Said.{said_listing, said_formed, room_for, add_said, add_after, remove_after, drop_after, listed, listed_after}
use Rattle.links.specs.Steps.{place_of, pushed, pulled, stays, remaining, audible, heard_at}
use Rattle.links.proofs.Memory.{rising, three, rising-ascends, apart-taken, formed-places, links-rise, links-few, padded, room-none, room-last}

-- ---- stores into a list

sets-cons : (x : ℕ) (xs : List ℕ) (i : ℕ) (ys : List ℕ) → sets (x ∷ xs) (suc i) ys ≡ x ∷ sets xs i ys
sets-cons x xs i [] = refl
sets-cons x xs i (y ∷ ys) = sets-cons x (set xs i y) (suc i) ys

sets-append : (m : List ℕ) (i : ℕ) (xs ys : List ℕ) → sets (sets m i xs) (i + length xs) ys ≡ sets m i (xs ++ ys)
sets-append m i [] ys =
    let none : i + 0 ≡ i = omega arith in
    ap (λ (k : ℕ). sets m k ys) none
sets-append m i (x ∷ xs) ys =
    let one : i + suc (length xs) ≡ suc i + length xs = omega arith in
    ap (λ (k : ℕ). sets (sets (set m i x) (suc i) xs) k ys) one ∙ sets-append (set m i x) (suc i) xs ys

-- ---- a link put in at its place

pushed-all : (b x : ℕ) (xs : List ℕ) (k : ℕ) → rising b xs ≡ true → sets (xs ++ replicate (suc k) 0) 0 (pushed x (xs ++ replicate (suc k) 0)) ≡ x ∷ xs ++ replicate k 0
unfolding pushed rising
pushed-all b x [] k e = refl
pushed-all b x (y ∷ ys) k e =
    let t = three (ltb b y) (apart y) (rising y ys) e in
    rw (apart-taken y t.1) (sets-cons x (ys ++ replicate (suc k) 0) 0 (pushed y (ys ++ replicate (suc k) 0)) ∙ ap (λ (l : List ℕ). x ∷ l) (pushed-all y y ys k t.2))

put_is : (b x : ℕ) (xs : List ℕ) (k : ℕ) → rising b xs ≡ true → elem x xs ≡ false
    → sets (xs ++ replicate (suc k) 0) (place_of x (xs ++ replicate (suc k) 0)) (pushed x (drop (place_of x (xs ++ replicate (suc k) 0)) (xs ++ replicate (suc k) 0))) ≡ insert x xs ++ replicate k 0
unfolding place_of insert elem pushed rising
put_is b x [] k e n = refl
put_is b x (y ∷ ys) k e n =
    let t = three (ltb b y) (apart y) (rising y ys) e in
    let no = or_no (eqb x y) (elem x ys) n in
    ⊎_elim
    (λ (l : ltb y x ≡ true).
    let low : y < x = ltb-true y x l in
    let not_first : ltb x y ≡ false = le-ltb x y (omega arith) in
    rw (apart-taken y t.1, l, not_first) (sets-cons y (ys ++ replicate (suc k) 0) (place_of x (ys ++ replicate (suc k) 0)) (pushed x (drop (place_of x (ys ++ replicate (suc k) 0)) (ys ++ replicate (suc k) 0))) ∙ ap (λ (r : List ℕ). y ∷ r) (put_is y x ys k t.2 no.1)))
    (λ (l : ltb y x ≡ false).
    let first : ltb x y ≡ true = lt-ltb x y (between x y (ltb-false y x l) (eqb-false x y no.0)) in
    rw (apart-taken y t.1, l, first) (pushed-all b x (y ∷ ys) k e))
    (yes_or_no (ltb y x))
  where
    between : (x y : ℕ) → x ≤ y → (x ≡ y → ⊥) → x < y
    between x y h f = omega arith

-- ---- a link taken out of its place

pulled-all : (b y : ℕ) (ys : List ℕ) (k : ℕ) → rising b ys ≡ true → sets (y ∷ ys ++ replicate k 0) 0 (pulled (ys ++ replicate k 0)) ≡ ys ++ replicate (suc k) 0
unfolding pulled rising
pulled-all b y [] zero e = refl
pulled-all b y [] (suc k) e = refl
pulled-all b y (z ∷ zs) k e =
    let t = three (ltb b z) (apart z) (rising z zs) e in
    rw (apart-taken z t.1) (sets-cons z (z ∷ zs ++ replicate k 0) 0 (pulled (zs ++ replicate k 0)) ∙ ap (λ (l : List ℕ). z ∷ l) (pulled-all z z zs k t.2))

taken_is : (b x : ℕ) (xs : List ℕ) (k : ℕ) → rising b xs ≡ true → elem x xs ≡ true
    → sets (xs ++ replicate k 0) (place_of x (xs ++ replicate k 0)) (pulled (drop (suc (place_of x (xs ++ replicate k 0))) (xs ++ replicate k 0))) ≡ keep (λ l. not (eqb l x)) xs ++ replicate (suc k) 0
unfolding place_of elem keep rising
taken_is b x [] k e m = absurd (clash m refl)
taken_is b x (y ∷ ys) k e m =
    let t = three (ltb b y) (apart y) (rising y ys) e in
    ⊎_elim
    (λ (l : ltb y x ≡ true).
    let low : y < x = ltb-true y x l in
    let other : eqb y x ≡ false = ne_eqb y x (λ q. omega arith) in
    let mirror : eqb x y ≡ false = ne_eqb x y (λ q. omega arith) in
    rw (apart-taken y t.1, l, other)
    (sets-cons y (ys ++ replicate k 0) (place_of x (ys ++ replicate k 0)) (pulled (drop (suc (place_of x (ys ++ replicate k 0))) (ys ++ replicate k 0)))
    ∙ ap (λ (l : List ℕ). y ∷ l) (taken_is y x ys k t.2 (rw mirror at m))))
    (λ (l : ltb y x ≡ false).
    let high : x ≤ y = ltb-false y x l in
    let same : x ≡ y = found x y ys high t.2 m in
    rw (apart-taken y t.1, l, eq-eqb y x (sym same))
    (pulled-all y y ys k t.2
    ∙ ap (λ (l : List ℕ). l ++ replicate (suc k) 0) (sym (keep-absent x ys (fails (elem x ys) (λ i. let up : y < x = above y ys x (rising-ascends y ys t.2) i in omega arith))))))
    (yes_or_no (ltb y x))
  where
    found : (x y : ℕ) (ys : List ℕ) → x ≤ y → rising y ys ≡ true → (eqb x y || elem x ys) ≡ true → x ≡ y
    found x y ys h e m = ⊎_elim (λ i. eqb-true x y i) (λ i. let up : y < x = above y ys x (rising-ascends y ys e) i in absurd (omega arith)) (or_cases (eqb x y) (elem x ys) m)

-- ---- whether it is there

elem_at : (m : List ℕ) (i : ℕ) → i < length m → elem (get_or m i 0) m ≡ true
unfolding elem
elem_at [] i h = absurd (omega arith)
elem_at (x ∷ xs) zero h = rw (eq-eqb x x refl)
elem_at (x ∷ xs) (suc i) h = ⊎_elim (λ e. rw e) (λ e. rw e (elem_at xs i (omega arith))) (yes_or_no (eqb (get_or xs i 0) x))

get_d_past : (m : List ℕ) (i : ℕ) → length m ≤ i → get_or m i 0 ≡ 0
get_d_past [] i h = refl
get_d_past (x ∷ xs) zero h = absurd (omega arith)
get_d_past (x ∷ xs) (suc i) h = get_d_past xs i (omega arith)

absent-at : (b x : ℕ) (xs : List ℕ) (k : ℕ) → rising b xs ≡ true → (get_or (xs ++ replicate k 0) (place_of x (xs ++ replicate k 0)) 0 ≡ x → ⊥) → elem x xs ≡ false
unfolding place_of elem rising
absent-at b x [] k e f = refl
absent-at b x (y ∷ ys) k e f =
    let t = three (ltb b y) (apart y) (rising y ys) e in
    let some = apart-taken y t.1 in
    ⊎_elim
    (λ (l : ltb y x ≡ true).
    let low : y < x = ltb-true y x l in
    let other : eqb x y ≡ false = ne_eqb x y (λ q. omega arith) in
    rw other (absent-at y x ys k t.2 (rw (some, l) at f)))
    (λ (l : ltb y x ≡ false).
    let high : x ≤ y = ltb-false y x l in
    let g : y ≡ x → ⊥ = rw (some, l) at f in
    let other : eqb x y ≡ false = ne_eqb x y (λ q. g (sym q)) in
    rw other (fails (elem x ys) (λ i. let up : y < x = above y ys x (rising-ascends y ys t.2) i in omega arith)))
    (yes_or_no (ltb y x))

-- its place is among the links, or the one after them
place-low : (b x : ℕ) (xs : List ℕ) (k : ℕ) → rising b xs ≡ true → place_of x (xs ++ replicate k 0) ≤ length xs
unfolding place_of rising
place-low b x [] zero e = omega arith
place-low b x [] (suc k) e = omega arith
place-low b x (y ∷ ys) k e =
    let t = three (ltb b y) (apart y) (rising y ys) e in
    ⊎_elim
    (λ (l : ltb y x ≡ true). rw (apart-taken y t.1, l) (omega (arith, place-low y x ys k t.2)))
    (λ (l : ltb y x ≡ false). rw (apart-taken y t.1, l) (omega arith))
    (yes_or_no (ltb y x))

-- a link with both ends at one port stands in no set
rising-apart : (b x : ℕ) (xs : List ℕ) → rising b xs ≡ true → elem x xs ≡ true → apart x ≡ true
unfolding rising elem
rising-apart b x [] e m = absurd (clash m refl)
rising-apart b x (y ∷ ys) e m =
    let t = three (ltb b y) (apart y) (rising y ys) e in
    ⊎_elim (λ i. ap apart (eqb-true x y i) ∙ t.1) (λ i. rising-apart y x ys t.2 i) (or_cases (eqb x y) (elem x ys) m)

pub one-port-absent : (x : ℕ) (m : List ℕ) → formed m ≡ true → apart x ≡ false → elem x (links m) ≡ false
one-port-absent x m f a = fails (elem x (links m)) (λ i. clash (rising-apart 0 x (links m) (links-rise m f) i) a)

-- ---- what is left, as a list and zeros

-- a list and zeros that fill 64 places
filled : (m ys : List ℕ) (k : ℕ) → m ≡ ys ++ replicate k 0 → length m ≡ 64 → m ≡ places_of ys
unfolding places_of
filled m ys k e long =
    let both : length ys + k ≡ 64 = sym (ap (λ (n : ℕ). length ys + n) (length-replicate {A = ℕ} k 0)) ∙ sym (length-append ys (replicate k 0)) ∙ ap length (sym e) ∙ long in
    let left : k ≡ 64 - length ys = omega (arith, both) in
    e ∙ ap (λ (n : ℕ). ys ++ replicate n 0) left

over-all : (m : List ℕ) → length m ≡ 64 → formed m ≡ true → (xs : List ℕ) → length xs ≤ length (links m) → sets (sets m 0 xs) (0 + length xs) (replicate (length (links m) - length xs) 0) ≡ places_of xs
over-all m long f xs h =
    let n = length (links m) in
    let ys = xs ++ replicate (n - length xs) 0 in
    let whole : 0 + length ys ≡ n = zero-add (length ys) ∙ length-append xs (replicate (n - length xs) 0) ∙ omega (arith, h, length-replicate {A = ℕ} (n - length xs) 0) in
    let rest : drop (0 + length ys) m ≡ replicate (64 - n) 0 = ap (λ (k : ℕ). drop k m) whole ∙ ap (drop n) (padded m long f) ∙ drop_at (links m) (replicate (64 - n) 0) n refl in
    let fits : 0 + length ys ≤ length m = omega (arith, whole, long, links-few m long) in
    filled _ xs (n - length xs + (64 - n))
    (sets-append m 0 xs (replicate (n - length xs) 0) ∙ sets-eq ys m 0 fits ∙ ap (λ (l : List ℕ). ys ++ l) rest
    ∙ append_assoc xs (replicate (n - length xs) 0) (replicate (64 - n) 0) ∙ ap (λ (l : List ℕ). xs ++ l) (replicate-append-replicate (n - length xs) (64 - n) 0))
    (length-sets (sets m 0 xs) (0 + length xs) (replicate (n - length xs) 0) ∙ length-sets m 0 xs ∙ long)

places-stored : (xs : List ℕ) → length xs ≤ 64 → sets (replicate 64 0) 0 xs ≡ places_of xs
unfolding places_of
places-stored xs h = stores-pad 64 xs h

remaining-is : (p : ℕ) (m : List ℕ) → remaining p m ≡ dropped p (links m)
unfolding remaining stays links dropped
remaining-is p m = keep-keep taken (λ l. not (touches p l)) m

pub remaining-few : (p : ℕ) (m : List ℕ) → length (remaining p m) ≤ length (links m)
unfolding dropped
remaining-few p m = rw (remaining-is p m) (keep-le (λ l. not (touches p l)) (links m))

heard-is : (t : ℕ) (m : List ℕ) → heard_at t m ≡ sources t (links m)
unfolding heard_at audible sources links
heard-is t m = ap (map _) (keep-keep taken _ m)

heard-few : (t : ℕ) (m : List ℕ) → length m ≡ 64 → length (heard_at t m) ≤ 64
unfolding heard_at
heard-few t m long = omega (arith, long, keep-le (audible t) m, length-map (keep (audible t) m) source_of)

-- ---- what each operation answers, and what it leaves

module _ (x : ℕ) (m : List ℕ) where
  pub add-no-set : formed m ≡ false → (Err NotLinks ≡ add_said x m) × (m ≡ add_after x m)
  unfolding add_said add_after
  add-no-set f = rw f (refl, refl)

  pub add-one-port : formed m ≡ true → apart x ≡ false → (Err OnePort ≡ add_said x m) × (m ≡ add_after x m)
  unfolding add_said add_after
  add-one-port f a = rw (f, a) (refl, refl)

  pub remove-no-set : formed m ≡ false → (Err NotLinks ≡ said_formed (formed m)) × (m ≡ remove_after x m)
  unfolding remove_after
  remove-no-set f = rw f (refl, refl)

  pub drop-no-set : formed m ≡ false → (Err NotLinks ≡ said_formed (formed m)) × (m ≡ drop_after x m)
  unfolding drop_after
  drop-no-set f = rw f (refl, refl)

  pub listed-no-set : (room : List ℕ) → formed m ≡ false → (Err NotLinks ≡ listed x m) × (room ≡ listed_after x m room)
  unfolding listed listed_after
  listed-no-set room f = rw f (refl, refl)

  module _ (long : length m ≡ 64) (f : formed m ≡ true) where
    -- where a link stands in memory it is one of the links
    among : apart x ≡ true → elem x (links m) ≡ elem x m
    unfolding links
    among a = elem-keep taken x m ∙ rw (apart-taken x a)

    in_place : apart x ≡ true → (i : ℕ) → i < 64 → get_or m i 0 ≡ x → elem x (links m) ≡ true
    in_place a i h e = among a ∙ ap (λ (y : ℕ). elem y m) (sym e) ∙ elem_at m i (omega (arith, long))

    -- i is the place of the link, as the program finds it
    module _ (i : ℕ) (place : i ≡ place_of x m) where
      not_there : (get_or m i 0 ≡ x → ⊥) → elem x (links m) ≡ false
      not_there g =
          absent-at 0 x (links m) (64 - length (links m)) (links-rise m f)
          (λ e. g (ap (λ (j : ℕ). get_or m j 0) place ∙ ap (λ (l : List ℕ). get_or l (place_of x l) 0) (padded m long f) ∙ e))

      full : i ≡ 64 → ltb (length (links m)) 64 ≡ false
      full e =
          let low = place-low 0 x (links m) (64 - length (links m)) (links-rise m f) in
          let same : place_of x (links m ++ replicate (64 - length (links m)) 0) ≡ i = ap (place_of x) (sym (padded m long f)) ∙ sym place in
          le-ltb (length (links m)) 64 (omega (arith, low, same, e))

      past_all : apart x ≡ true → i ≡ 64 → get_or m i 0 ≡ x → ⊥
      past_all a e g =
          let none : get_or m i 0 ≡ 0 = get_d_past m i (omega (arith, long, e)) in
          clash (eq-eqb x 0 (sym g ∙ none)) (apart-taken x a)

    -- a link that is there
    pub add-there : apart x ≡ true → elem x (links m) ≡ true → (Ok tt ≡ add_said x m) × (m ≡ add_after x m)
    unfolding add_said add_after room_for added
    add-there a e = rw (f, a, e) (refl, sym (formed-places m long f))

    pub add-found : apart x ≡ true → (i : ℕ) → i < 64 → get_or m i 0 ≡ x → (Ok tt ≡ add_said x m) × (m ≡ add_after x m)
    add-found a i h e = add-there a (in_place a i h e)

    -- no room
    pub add-full : apart x ≡ true → (i : ℕ) → i ≡ place_of x m → i ≡ 64 → (Err LinksFull ≡ add_said x m) × (m ≡ add_after x m)
    unfolding add_said add_after room_for
    add-full a i p e = rw (f, a, not_there i p (past_all i p a e), full i p e) (refl, refl)

    pub add-no-room : apart x ≡ true → (i : ℕ) → i ≡ place_of x m → (get_or m i 0 ≡ x → ⊥) → (get_or m 63 0 ≡ 0 → ⊥) → (Err LinksFull ≡ add_said x m) × (m ≡ add_after x m)
    unfolding add_said add_after room_for
    add-no-room a i p g n = rw (f, a, not_there i p g, room-none m long f n) (refl, refl)

    pub add_done : apart x ≡ true → (i : ℕ) → i ≡ place_of x m → (get_or m i 0 ≡ x → ⊥) → get_or m 63 0 ≡ 0 → (Ok tt ≡ add_said x m) × (sets m i (pushed x (drop i m)) ≡ add_after x m)
    unfolding add_said add_after room_for added
    add_done a i p g z = rw (f, a, not_there i p g, room-last m long f z) (refl, placed)
      where
        placed : sets m i (pushed x (drop i m)) ≡ places_of (insert x (links m))
        placed =
            let low = ltb-true (length (links m)) 64 (room-last m long f z) in
            let one : 64 - length (links m) ≡ suc (63 - length (links m)) = omega arith in
            filled _ (insert x (links m)) (63 - length (links m))
            (ap (λ (j : ℕ). sets m j (pushed x (drop j m))) p
            ∙ ap (λ (l : List ℕ). sets l (place_of x l) (pushed x (drop (place_of x l) l))) (padded m long f ∙ ap (λ (k : ℕ). links m ++ replicate k 0) one)
            ∙ put_is 0 x (links m) (63 - length (links m)) (links-rise m f) (not_there i p g))
            (length-sets m i (pushed x (drop i m)) ∙ long)

    -- removing
    pub remove_absent : elem x (links m) ≡ false → (Ok tt ≡ said_formed (formed m)) × (m ≡ remove_after x m)
    unfolding remove_after removed
    remove_absent e = rw (f, keep-absent x (links m) e) (refl, sym (formed-places m long f))

    pub remove-past : apart x ≡ true → (i : ℕ) → i ≡ place_of x m → i ≡ 64 → (Ok tt ≡ said_formed (formed m)) × (m ≡ remove_after x m)
    remove-past a i p e = remove_absent (not_there i p (past_all i p a e))

    pub remove-missed : (i : ℕ) → i ≡ place_of x m → (get_or m i 0 ≡ x → ⊥) → (Ok tt ≡ said_formed (formed m)) × (m ≡ remove_after x m)
    remove-missed i p g = remove_absent (not_there i p g)

    pub remove-found : apart x ≡ true → (i : ℕ) → i ≡ place_of x m → i < 64 → get_or m i 0 ≡ x
        → (Ok tt ≡ said_formed (formed m)) × (sets m i (pulled (drop (i + 1) m)) ≡ remove_after x m)
    unfolding remove_after removed
    remove-found a i p h e = rw f (refl, taken_out)
      where
        taken_out : sets m i (pulled (drop (i + 1) m)) ≡ places_of (keep (λ l. not (eqb l x)) (links m))
        taken_out =
            filled _ (keep (λ l. not (eqb l x)) (links m)) (suc (64 - length (links m)))
            (ap (λ (k : ℕ). sets m i (pulled (drop k m))) (add-one i)
            ∙ ap (λ (j : ℕ). sets m j (pulled (drop (suc j) m))) p
            ∙ ap (λ (l : List ℕ). sets l (place_of x l) (pulled (drop (suc (place_of x l)) l))) (padded m long f)
            ∙ taken_is 0 x (links m) (64 - length (links m)) (links-rise m f) (in_place a i h e))
            (length-sets m i (pulled (drop (i + 1) m)) ∙ long)

    -- dropping: those that stay at the front, and zeros after them up to where the links ended
    pub drop-done : (Ok tt ≡ said_formed (formed m)) × (sets (sets m 0 (remaining x m)) (length (remaining x m)) (replicate (length (links m) - length (remaining x m)) 0) ≡ drop_after x m)
    unfolding drop_after
    drop-done = rw f (refl, cleared)
      where
        cleared : sets (sets m 0 (remaining x m)) (length (remaining x m)) (replicate (length (links m) - length (remaining x m)) 0) ≡ places_of (dropped x (links m))
        cleared =
            ap (λ (k : ℕ). sets (sets m 0 (remaining x m)) k (replicate (length (links m) - length (remaining x m)) 0)) (sym (zero-add (length (remaining x m))))
            ∙ over-all m long f (remaining x m) (remaining-few x m)
            ∙ ap places_of (remaining-is x m)

    -- listing: as many, and the room with them
    pub listed-done : (room : List ℕ) → (Ok (length (heard_at x m)) ≡ listed x m) × (sets (replicate 64 0) 0 (heard_at x m) ≡ listed_after x m room)
    unfolding listed listed_after
    listed-done room = rw (f, heard-is x m) (refl, in-room)
      where
        in-room : sets (replicate 64 0) 0 (sources x (links m)) ≡ places_of (sources x (links m))
        in-room = places-stored (sources x (links m)) (rw (← heard-is x m) (heard-few x m long))

-- ---- what `look` answered: the memory holds a set, of so many links, or it holds none

pub looked : (b : Bool) (n k : ℕ) → Ok n ≡ said_listing b k → (b ≡ true) × (n ≡ k)
looked true n k e = (refl, cc)
looked false n k e = let z : ◌≡◌ {A = ℕ} 0 1 = cc in absurd (omega arith)

pub looked_none : (b : Bool) (r : Refusal) (k : ℕ) → Err r ≡ said_listing b k → (b ≡ false) × (r ≡ NotLinks)
looked_none true r k e = let z : ◌≡◌ {A = ℕ} 0 1 = cc in absurd (omega arith)
looked_none false r k e = (refl, cc)
