-- Memory that holds a set, as a list that ascends and zeros after it. Assumes nothing.
use mathlib.Core.Path.{◌≡◌, refl, sym, ap, ◌∙◌}
use mathlib.Core.Logic.{⊎_elim}
use mathlib.Core.Bool.{Bool, true, false, ◌&&◌}
use mathlib.Core.List.{List, [], ◌∷◌, ◌++◌}
use Prim.Native.Nat.{ℕ, zero, suc, ◌+◌, ◌-◌, ◌≤◌, ◌<◌}
use native.Mathlib.Nat.{suc-sub-suc, sub-zero}
use native.Mathlib.Omega.{arith}
use lib.Dec.{eqb, ltb}
use lib.ListN.{length, get_or, drop, replicate, length-append, length-replicate, get_or-replicate, get_or-append}
use lib.Seq.{get_or-append-add}
use borrow.Author.Tests.{eqb-true, eqb-false, ltb-true, ltb-false, lt-ltb}
use Rattle.typeset.proofs.Bools.{yes_or_no, clash, and_left, and_right, and-make}
use Rattle.lists.specs.Lists.{elem, keep, ascend}
use Rattle.lists.proofs.Places.{keep-le}
use Rattle.lists.proofs.Members.{keep-passes, or_no}
use Rattle.links.specs.Links.{apart}
use Rattle.links.specs.Sets.{taken, links, blank, formed_from, formed, places_of, insert}
use Rattle.links.proofs.Loops.{blank-there}

-- links that ascend: each is greater than the one before it, first than b, and its ports differ
unfoldable pub rising : ℕ → List ℕ → Bool
rising b [] = true
rising b (x ∷ xs) = ltb b x && apart x && rising x xs

-- three tests that pass
pub three : (a b d : Bool) → (a && b && d) ≡ true → (a ≡ true) × (b ≡ true) × (d ≡ true)
three a b d e = (and_left a b (and_left (a && b) d e), and_right a b (and_left (a && b) d e), and_right (a && b) d e)

pub rising-ascends : (b : ℕ) (xs : List ℕ) → rising b xs ≡ true → ascend b xs ≡ true
unfolding rising ascend
rising-ascends b [] e = refl
rising-ascends b (x ∷ xs) e =
    let t = three (ltb b x) (apart x) (rising x xs) e in
    and-make t.0 (rising-ascends x xs t.2)

pub rising-low : (a b : ℕ) (xs : List ℕ) → a ≤ b → rising b xs ≡ true → rising a xs ≡ true
unfolding rising
rising-low a b [] h e = refl
rising-low a b (x ∷ xs) h e =
    let t = three (ltb b x) (apart x) (rising x xs) e in
    let high : b < x = ltb-true b x t.0 in
    and-make (and-make (lt-ltb a x (omega arith)) t.1) t.2

pub rising-keep : (p : ℕ → Bool) (b : ℕ) (xs : List ℕ) → rising b xs ≡ true → rising b (keep p xs) ≡ true
unfolding rising keep
rising-keep p b [] e = refl
rising-keep p b (x ∷ xs) e =
    let t = three (ltb b x) (apart x) (rising x xs) e in
    let high : b < x = ltb-true b x t.0 in
    let rest = rising-keep p x xs t.2 in
    ⊎_elim
    (λ y. rw y (and-make (and-make t.0 t.1) rest))
    (λ y. rw y (rising-low b x (keep p xs) (omega arith) rest))
    (yes_or_no (p x))

pub rising-insert : (x b : ℕ) (xs : List ℕ) → apart x ≡ true → b < x → elem x xs ≡ false → rising b xs ≡ true → rising b (insert x xs) ≡ true
unfolding rising insert elem
rising-insert x b [] a h n e = and-make (and-make (lt-ltb b x h) a) refl
rising-insert x b (y ∷ ys) a h n e =
    let t = three (ltb b y) (apart y) (rising y ys) e in
    let no = or_no (eqb x y) (elem x ys) n in
    let other = eqb-false x y no.0 in
    ⊎_elim
    (λ (l : ltb x y ≡ true). rw l (and-make (and-make (lt-ltb b x h) a) (and-make (and-make l t.1) t.2)))
    (λ (l : ltb x y ≡ false).
    let ge = ltb-false x y l in
    let above : y < x = below_or x y ge other in
    rw l (and-make (and-make t.0 t.1) (rising-insert x y ys a above no.1 t.2)))
    (yes_or_no (ltb x y))
  where
    below_or : (x y : ℕ) → y ≤ x → (x ≡ y → ⊥) → y < x
    below_or x y h f = omega arith

pub positive : {x : ℕ} → (x ≡ 0 → ⊥) → 0 < x
positive f = omega arith

-- a link is not 0
pub apart-taken : (x : ℕ) → apart x ≡ true → eqb x 0 ≡ false
unfolding apart
apart-taken x a = ⊎_elim (λ e. absurd (clash a (rw (eqb-true x 0 e) refl))) (λ e. e) (yes_or_no (eqb x 0))

-- ---- from memory to the list

blank-is : (m : List ℕ) → blank m ≡ true → m ≡ replicate (length m) 0
unfolding blank
blank-is [] e = refl
blank-is (x ∷ xs) e = rw (eqb-true x 0 (and_left (eqb x 0) (blank xs) e)) (ap (λ (l : List ℕ). 0 ∷ l) (blank-is xs (and_right (eqb x 0) (blank xs) e)))

blank_none : (m : List ℕ) → blank m ≡ true → keep taken m ≡ []
unfolding blank keep
blank_none [] e = refl
blank_none (x ∷ xs) e = rw (and_left (eqb x 0) (blank xs) e) (blank_none xs (and_right (eqb x 0) (blank xs) e))

pub formed-pad : (b : ℕ) (m : List ℕ) → formed_from b m ≡ true → m ≡ links m ++ replicate (length m - length (links m)) 0
unfolding formed_from links keep
formed-pad b [] e = refl
formed-pad b (x ∷ xs) e =
    ⊎_elim
    (λ z.
    let rest : blank xs ≡ true = rw z at e in
    rw (z, blank_none xs rest, eqb-true x 0 z)
    (ap (λ (l : List ℕ). 0 ∷ l) (blank-is xs rest) ∙ ap (λ (k : ℕ). replicate k 0) (sym (sub-zero (suc (length xs))))))
    (λ z. rw z
    (ap (λ (l : List ℕ). x ∷ l) (formed-pad x xs (three (ltb b x) (apart x) (formed_from x xs) (rw z at e)).2
    ∙ ap (λ (k : ℕ). links xs ++ replicate k 0) (sym (suc-sub-suc (length xs) (length (links xs)))))))
    (yes_or_no (eqb x 0))

formed-rising : (b : ℕ) (m : List ℕ) → formed_from b m ≡ true → rising b (links m) ≡ true
unfolding formed_from links keep rising
formed-rising b [] e = refl
formed-rising b (x ∷ xs) e =
    ⊎_elim
    (λ z. rw (z, blank_none xs (rw z at e)))
    (λ z.
    let t = three (ltb b x) (apart x) (formed_from x xs) (rw z at e) in
    rw z (and-make (and-make t.0 t.1) (formed-rising x xs t.2)))
    (yes_or_no (eqb x 0))

-- the links of a set rise, and the memory is those links and zeros
pub links-rise : (m : List ℕ) → formed m ≡ true → rising 0 (links m) ≡ true
unfolding formed
links-rise m e = formed-rising 0 m e

pub formed-places : (m : List ℕ) → length m ≡ 64 → formed m ≡ true → places_of (links m) ≡ m
unfolding formed places_of
formed-places m long e = sym (formed-pad 0 m e ∙ ap (λ (n : ℕ). links m ++ replicate (n - length (links m)) 0) long)

pub links-few : (m : List ℕ) → length m ≡ 64 → length (links m) ≤ 64
unfolding links
links-few m long = omega (arith, keep-le taken m)

-- ---- from the list to memory

zeros : (k : ℕ) → blank (replicate k 0) ≡ true
unfolding blank
zeros zero = refl
zeros (suc k) = zeros k

pub rising-formed : (b : ℕ) (xs : List ℕ) (k : ℕ) → rising b xs ≡ true → formed_from b (xs ++ replicate k 0) ≡ true
unfolding rising formed_from
rising-formed b [] zero e = refl
rising-formed b [] (suc k) e = zeros k
rising-formed b (x ∷ xs) k e =
    let t = three (ltb b x) (apart x) (rising x xs) e in
    rw (apart-taken x t.1, t.0, t.1) (rising-formed x xs k t.2)

pub links-pad : (b : ℕ) (xs : List ℕ) (k : ℕ) → rising b xs ≡ true → links (xs ++ replicate k 0) ≡ xs
unfolding rising links keep
links-pad b [] zero e = refl
links-pad b [] (suc k) e = links-pad b [] k e
links-pad b (x ∷ xs) k e =
    let t = three (ltb b x) (apart x) (rising x xs) e in
    rw (apart-taken x t.1) (ap (λ (l : List ℕ). x ∷ l) (links-pad x xs k t.2))

-- a list that rises, in memory, is a set, and that list
pub record Holds (m xs : List ℕ) : Type 0 where
  pub set : formed m ≡ true
  pub list : links m ≡ xs

pub places-hold : (xs : List ℕ) → rising 0 xs ≡ true → Holds (places_of xs) xs
unfolding places_of formed
places-hold xs e = record { set = rising-formed 0 xs (64 - length xs) e; list = links-pad 0 xs (64 - length xs) e }

pub places-length : (xs : List ℕ) → length xs ≤ 64 → length (places_of xs) ≡ 64
unfolding places_of
places-length xs h = length-append xs (replicate (64 - length xs) 0) ∙ omega (arith, length-replicate {A = ℕ} (64 - length xs) 0)

-- 64 numbers stored over 64 places
-- ---- a set in lent memory: where its last place is free there is room, and only there

module _ (m : List ℕ) (long : length m ≡ 64) (good : formed m ≡ true) where
  pub padded : m ≡ links m ++ replicate (64 - length (links m)) 0
  unfolding places_of
  padded = sym (formed-places m long good)

  pub room-none : (get_or m 63 0 ≡ 0 → ⊥) → ltb (length (links m)) 64 ≡ false
  room-none f = ⊎_elim (λ l. absurd (f (free (ltb-true (length (links m)) 64 l)))) (λ l. l) (yes_or_no (ltb (length (links m)) 64))
    where
      free : length (links m) < 64 → get_or m 63 0 ≡ 0
      free l =
          let at : 63 ≡ length (links m) + (63 - length (links m)) = omega arith in
          let low : 63 - length (links m) < 64 - length (links m) = omega arith in
          ap (λ (l : List ℕ). get_or l 63 0) padded ∙ ap (λ (n : ℕ). get_or (links m ++ replicate (64 - length (links m)) 0) n 0) at
          ∙ get_or-append-add (links m) (replicate (64 - length (links m)) 0) (63 - length (links m)) 0
          ∙ get_or-replicate (64 - length (links m)) (63 - length (links m)) 0 0 low

  pub room-last : get_or m 63 0 ≡ 0 → ltb (length (links m)) 64 ≡ true
  unfolding links
  room-last z = ⊎_elim (λ l. l) (λ l. absurd (full l)) (yes_or_no (ltb (length (keep taken m)) 64))
    where
      full : ltb (length (keep taken m)) 64 ≡ false → ⊥
      full l =
          let le = keep-le taken m in
          let ge = ltb-false (length (keep taken m)) 64 l in
          let low : 63 < length (keep taken m) = omega arith in
          let same : get_or m 63 0 ≡ get_or (keep taken m) 63 0 = ap (λ (l : List ℕ). get_or l 63 0) padded ∙ get_or-append (keep taken m) (replicate (64 - length (keep taken m)) 0) 0 63 low in
          clash (keep-passes taken 0 m 63 low) (rw (← same, z) refl)

  -- each of its first places has a link, and those after them have none
  pub link_at : (i : ℕ) → i < length (links m) → get_or m i 0 ≡ 0 → ⊥
  unfolding links
  link_at i h z =
      let same : get_or m i 0 ≡ get_or (keep taken m) i 0 = ap (λ (l : List ℕ). get_or l i 0) padded ∙ get_or-append (keep taken m) (replicate (64 - length (keep taken m)) 0) 0 i h in
      clash (keep-passes taken 0 m i h) (rw (← same, z) refl)

  pub blank-after : (i : ℕ) → length (links m) ≤ i → blank (drop i m) ≡ true
  blank-after i h = ap (λ (l : List ℕ). blank (drop i l)) padded ∙ past (links m) (64 - length (links m)) i h
    where
      past : (xs : List ℕ) (k i : ℕ) → length xs ≤ i → blank (drop i (xs ++ replicate k 0)) ≡ true
      past [] k i h = blank-there (replicate k 0) i (zeros k)
      past (x ∷ xs) k zero h = absurd (omega arith)
      past (x ∷ xs) k (suc i) h = past xs k i (omega arith)
