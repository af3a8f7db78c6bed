-- What a loop through the places of memory needs of each definition: the place i, and what follows it. Assumes nothing.
use mathlib.Core.Path.{◌≡◌, refl, sym, ap, ap₂, ◌∙◌}
use mathlib.Core.Logic.{⊎_elim}
use mathlib.Core.Bool.{Bool, true, false, ◌&&◌, and-true}
use mathlib.Core.List.{List, [], ◌∷◌}
use Prim.Native.Nat.{ℕ, zero, suc, ◌+◌, ◌≤◌, ◌<◌}
use native.Mathlib.Numerals.{add-one}
use native.Mathlib.Omega.{arith}
use lib.Dec.{eqb, ltb}
use lib.ListN.{length, get_or, set, drop, drop_of_length-le}
use lib.Bits.{bit_or, or_add_and, and_le_l, and_le_r}
use lib.Seq.{sets}
use borrow.Author.Tests.{eq-eqb, ne_eqb, le-ltb, lt-ltb, eqb-true}
use Rattle.typeset.proofs.Bools.{yes_or_no, both_ways, and_left, and_right, and-make}
use Rattle.lists.specs.Lists.{keep}
use Rattle.lists.proofs.Places.{here, keep-yes, keep-no}
use Rattle.links.specs.Links.{apart}
use Rattle.links.specs.Sets.{blank, formed_from, formed}
use Rattle.links.specs.Steps.{pushed, pulled}

-- ---- tests

-- two numbers have no bit where neither has one
or-none : (a b : ℕ) → eqb (bit_or a b) 0 ≡ (eqb a 0 && eqb b 0)
or-none a b =
    both_ways (eqb (bit_or a b) 0) (eqb a 0 && eqb b 0)
    (λ e. let z = eqb-true (bit_or a b) 0 e in and-make (eq-eqb a 0 (omega (arith, z, or_add_and a b, and_le_r a b))) (eq-eqb b 0 (omega (arith, z, or_add_and a b, and_le_l a b))))
    (λ e. eq-eqb (bit_or a b) 0 (ap₂ bit_or (eqb-true a 0 (and_left (eqb a 0) (eqb b 0) e)) (eqb-true b 0 (and_right (eqb a 0) (eqb b 0) e))))

pub blank-on : (rest : ℕ) (m : List ℕ) (i : ℕ) → i < length m → (eqb rest 0 && blank (drop i m)) ≡ (eqb (bit_or rest (get_or m i 0)) 0 && blank (drop (i + 1) m))
unfolding blank
blank-on rest m i h = rw (here m i 0 h, or-none rest (get_or m i 0)) (apart-and (eqb rest 0) (eqb (get_or m i 0) 0) (blank (drop (i + 1) m)))
  where
    apart-and : (a b d : Bool) → (a && (b && d)) ≡ ((a && b) && d)
    apart-and true b d = refl
    apart-and false b d = refl

pub blank-end : (rest : ℕ) (m : List ℕ) (i : ℕ) → length m ≤ i → (eqb rest 0 && blank (drop i m)) ≡ eqb rest 0
unfolding blank
blank-end rest m i h = rw (drop_of_length-le m h) (and-true (eqb rest 0))

module _ (b : ℕ) (m : List ℕ) (i : ℕ) (h : i < length m) where
  pub formed-free : get_or m i 0 ≡ 0 → formed_from b (drop i m) ≡ blank (drop i m)
  unfolding formed_from blank
  formed-free e = rw (here m i 0 h, eq-eqb (get_or m i 0) 0 e)

  pub formed-low : (get_or m i 0 ≡ 0 → ⊥) → get_or m i 0 ≤ b → formed_from b (drop i m) ≡ false
  unfolding formed_from
  formed-low n l = rw (here m i 0 h, ne_eqb (get_or m i 0) 0 n, le-ltb b (get_or m i 0) l)

  pub formed-one : (get_or m i 0 ≡ 0 → ⊥) → b < get_or m i 0 → apart (get_or m i 0) ≡ false → formed_from b (drop i m) ≡ false
  unfolding formed_from
  formed-one n l a = rw (here m i 0 h, ne_eqb (get_or m i 0) 0 n, lt-ltb b (get_or m i 0) l, a)

  pub formed-more : (get_or m i 0 ≡ 0 → ⊥) → b < get_or m i 0 → apart (get_or m i 0) ≡ true
      → formed_from b (drop i m) ≡ formed_from (get_or m i 0) (drop (i + 1) m)
  unfolding formed_from
  formed-more n l a = rw (here m i 0 h, ne_eqb (get_or m i 0) 0 n, lt-ltb b (get_or m i 0) l, a)

pub formed-end : (b : ℕ) (m : List ℕ) (i : ℕ) → length m ≤ i → formed_from b (drop i m) ≡ true
unfolding formed_from
formed-end b m i h = rw (drop_of_length-le m h)

-- ---- memory that is written over from the front: what is still to be read stands as it did

drop-set : (s : List ℕ) (n i v : ℕ) → n < i → drop i (set s n v) ≡ drop i s
drop-set [] n i v h = refl
drop-set (x ∷ s) zero zero v h = absurd (omega arith)
drop-set (x ∷ s) zero (suc i) v h = refl
drop-set (x ∷ s) (suc n) zero v h = absurd (omega arith)
drop-set (x ∷ s) (suc n) (suc i) v h = drop-set s n i v (omega arith)

drop-next : (s m : List ℕ) (i : ℕ) → drop i s ≡ drop i m → drop (i + 1) s ≡ drop (i + 1) m
drop-next s m i e = rw (add-one i) (drop_more s i ∙ ap (drop 1) e ∙ sym (drop_more m i))
  where
    drop_more : (s : List ℕ) (i : ℕ) → drop (suc i) s ≡ drop 1 (drop i s)
    drop_more [] zero = refl
    drop_more [] (suc i) = refl
    drop_more (x ∷ s) zero = refl
    drop_more (x ∷ s) (suc i) = drop_more s i

pub unread : (s m : List ℕ) (n i v : ℕ) → n ≤ i → drop i s ≡ drop i m → drop (i + 1) (set s n v) ≡ drop (i + 1) m
unread s m n i v h e = drop-set s n (i + 1) v (omega arith) ∙ drop-next s m i e

-- so what is read is what stood there
pub same_read : (s m : List ℕ) (i : ℕ) → drop i s ≡ drop i m → get_or s i 0 ≡ get_or m i 0
same_read s m i e = first-is s i ∙ ap (λ (l : List ℕ). get_or l 0 0) e ∙ sym (first-is m i)
  where
    first-is : (s : List ℕ) (i : ℕ) → get_or s i 0 ≡ get_or (drop i s) 0 0
    first-is [] zero = refl
    first-is [] (suc i) = refl
    first-is (x ∷ s) zero = refl
    first-is (x ∷ s) (suc i) = first-is s i

-- ---- a link put in: what is still to come, stored from the place i on; m is the memory as it was, s as it is

push-more : (x : ℕ) (m : List ℕ) (i : ℕ) (out : List ℕ) → i < length m → (get_or m i 0 ≡ 0 → ⊥)
    → sets out i (pushed x (drop i m)) ≡ sets (set out i x) (i + 1) (pushed (get_or m i 0) (drop (i + 1) m))
unfolding pushed
push-more x m i out h n = rw (here m i 0 h, ne_eqb (get_or m i 0) 0 n, add-one i)

push-free : (x : ℕ) (m : List ℕ) (i : ℕ) (out : List ℕ) → i < length m → get_or m i 0 ≡ 0 → sets out i (pushed x (drop i m)) ≡ set out i x
unfolding pushed
push-free x m i out h e = rw (here m i 0 h, eq-eqb (get_or m i 0) 0 e)

module _ (x : ℕ) (s m : List ℕ) (i : ℕ) (t : List ℕ) (e : sets s i (pushed x (drop i m)) ≡ t) where
  pub push-on : i < length m → drop i s ≡ drop i m → (get_or s i 0 ≡ 0 → ⊥)
      → (sets (set s i x) (i + 1) (pushed (get_or s i 0) (drop (i + 1) m)) ≡ t) × (drop (i + 1) (set s i x) ≡ drop (i + 1) m)
  push-on h d n =
      let read = same_read s m i d in
      (rw read (sym (push-more x m i s h (λ z. n (read ∙ z))) ∙ e), unread s m i i x (omega arith) d)

  pub push-last : i < length m → drop i s ≡ drop i m → get_or s i 0 ≡ 0 → set s i x ≡ t
  push-last h d z = sym (push-free x m i s h (sym (same_read s m i d) ∙ z)) ∙ e

  pub push-end : length m ≤ i → s ≡ t
  unfolding pushed
  push-end h = rw (drop_of_length-le m h) at e

-- ---- one place down

pull-more : (m : List ℕ) (i : ℕ) (out : List ℕ) (n : ℕ) → i < length m → (get_or m i 0 ≡ 0 → ⊥)
    → sets out n (pulled (drop i m)) ≡ sets (set out n (get_or m i 0)) (n + 1) (pulled (drop (i + 1) m))
unfolding pulled
pull-more m i out n h z = rw (here m i 0 h, ne_eqb (get_or m i 0) 0 z, add-one n)

pull-free : (m : List ℕ) (i : ℕ) (out : List ℕ) (n : ℕ) → i < length m → get_or m i 0 ≡ 0 → sets out n (pulled (drop i m)) ≡ set out n (get_or m i 0)
unfolding pulled
pull-free m i out n h z = rw (here m i 0 h, eq-eqb (get_or m i 0) 0 z)

module _ (s m : List ℕ) (i : ℕ) (t : List ℕ) (e : sets s i (pulled (drop (i + 1) m)) ≡ t) where
  pub pull-on : i + 1 < length m → drop (i + 1) s ≡ drop (i + 1) m → (get_or s (i + 1) 0 ≡ 0 → ⊥)
      → (sets (set s i (get_or s (i + 1) 0)) (i + 1) (pulled (drop (i + 1 + 1) m)) ≡ t) × (drop (i + 1 + 1) (set s i (get_or s (i + 1) 0)) ≡ drop (i + 1 + 1) m)
  pull-on h d n =
      let read = same_read s m (i + 1) d in
      (rw read (sym (pull-more m (i + 1) s i h (λ z. n (read ∙ z))) ∙ e), unread s m i (i + 1) (get_or s (i + 1) 0) (omega arith) d)

  pub pull-last : i + 1 < length m → drop (i + 1) s ≡ drop (i + 1) m → get_or s (i + 1) 0 ≡ 0 → set s i (get_or s (i + 1) 0) ≡ t
  pull-last h d z =
      let read = same_read s m (i + 1) d in
      rw read (sym (pull-free m (i + 1) s i h (sym read ∙ z)) ∙ e)

  pub pull-end : length m ≤ i + 1 → (j : ℕ) → i ≡ j → set s j 0 ≡ t
  unfolding pulled
  pull-end h j q = ap (λ (k : ℕ). set s k 0) (sym q) ∙ (rw (drop_of_length-le m h) at e)

-- ---- those that stay, brought to the front

module _ (p : ℕ → Bool) (s m : List ℕ) (n i : ℕ) (t : List ℕ) (d : drop i s ≡ drop i m) (e : sets s n (keep p (drop i m)) ≡ t) where
  pub front-on : i < length m → n ≤ i → p (get_or s i 0) ≡ true → (sets (set s n (get_or s i 0)) (n + 1) (keep p (drop (i + 1) m)) ≡ t) × (drop (i + 1) (set s n (get_or s i 0)) ≡ drop (i + 1) m)
  front-on h l y = (rw read (sym more ∙ e), unread s m n i (get_or s i 0) l d)
    where
      read : get_or s i 0 ≡ get_or m i 0
      read = same_read s m i d

      more : sets s n (keep p (drop i m)) ≡ sets (set s n (get_or m i 0)) (n + 1) (keep p (drop (i + 1) m))
      more = ap (sets s n) (keep-yes p m i 0 h (ap p (sym read) ∙ y)) ∙ ap (λ (k : ℕ). sets (set s n (get_or m i 0)) k (keep p (drop (i + 1) m))) (sym (add-one n))

  pub front-skip : i < length m → p (get_or s i 0) ≡ false → (sets s n (keep p (drop (i + 1) m)) ≡ t) × (drop (i + 1) s ≡ drop (i + 1) m)
  front-skip h y = (ap (sets s n) (sym (keep-no p m i 0 h (ap p (sym (same_read s m i d)) ∙ y))) ∙ e, drop-next s m i d)

-- ---- in a set all is 0 from the first 0 on

pub blank-there : (m : List ℕ) (i : ℕ) → blank m ≡ true → blank (drop i m) ≡ true
unfolding blank
blank-there m zero e = e
blank-there [] (suc i) e = refl
blank-there (x ∷ xs) (suc i) e = blank-there xs i (and_right (eqb x 0) (blank xs) e)

pub free-blank : (b : ℕ) (m : List ℕ) (i : ℕ) → formed_from b m ≡ true → i < length m → get_or m i 0 ≡ 0 → blank (drop i m) ≡ true
unfolding formed_from blank
free-blank b [] i e h z = absurd (omega arith)
free-blank b (x ∷ xs) zero e h z = rw (eq-eqb x 0 z) (rw (eq-eqb x 0 z) at e)
free-blank b (x ∷ xs) (suc i) e h z =
    ⊎_elim
    (λ n. blank-there xs i (rw n at e))
    (λ n. free-blank x xs i (and_right (ltb b x && apart x) (formed_from x xs) (rw n at e)) (omega arith) z)
    (yes_or_no (eqb x 0))

-- so no test that fails at 0 keeps anything from there on
pub blank-keeps : (p : ℕ → Bool) → p 0 ≡ false → (m : List ℕ) → blank m ≡ true → keep p m ≡ []
unfolding keep blank
blank-keeps p z [] e = refl
blank-keeps p z (x ∷ xs) e = rw (eqb-true x 0 (and_left (eqb x 0) (blank xs) e), z) (blank-keeps p z xs (and_right (eqb x 0) (blank xs) e))

pub keep-free : (p : ℕ → Bool) → p 0 ≡ false → (m : List ℕ) (i : ℕ) → formed m ≡ true → i < length m → get_or m i 0 ≡ 0 → keep p (drop i m) ≡ []
unfolding formed
keep-free p z m i e h f = blank-keeps p z (drop i m) (free-blank 0 m i e h f)
