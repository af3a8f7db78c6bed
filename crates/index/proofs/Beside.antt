-- A row of the index beside the list that it should hold. Assumes nothing.
use mathlib.Core.Path.{◌≡◌, refl, sym, ap, ap₂, ◌∙◌}
use mathlib.Core.Logic.{⊎_elim}
use mathlib.Core.Bool.{Bool, true, false, ◌&&◌, cond}
use mathlib.Core.List.{List, [], ◌∷◌, ◌++◌, map, append_assoc, append-nil}
use Prim.Native.Nat.{ℕ, zero, suc, ◌+◌, ◌-◌, ◌^◌, ◌≤◌, ◌<◌}
use native.Mathlib.Nat.{add-zero, add-suc}
use native.Mathlib.Numerals.{add-one}
use native.Mathlib.Omega.{arith}
use lib.Dec.{eqb, ltb}
use lib.ListN.{length, get_or, set, drop, replicate, length-append, length-replicate, get_or-replicate, get_or-append}
use lib.Seq.{get_or_at, get_or-append-add, get_or-set_same, get_or-set_other}
use borrow.Author.Tests.{lt-ltb, le-ltb, eq-eqb, ne_eqb, eqb-true, eqb-false, ltb-true, ltb-false}
use Rattle.typeset.specs.Sets.{every, without, lowest}
use Rattle.typeset.proofs.Bools.{yes_or_no}
use Rattle.typeset.proofs.Below.{every-ext, every-last, every-no}
use Rattle.plan.specs.declared.Subscriber.{Subscriber}
use Rattle.plan.specs.Parts.{nobody, at}
use Rattle.lists.proofs.Places.{here}
use Rattle.index.specs.Index.{address_of, row}
use Rattle.index.specs.Steps.{wants, members, touched, ends_at, goes_on, all_go_on, owing}
use Rattle.index.specs.Said.{same_row}
use Rattle.lists.specs.Lists.{keep}
use Rattle.index.proofs.Rows.{touched-here, touched-gone, touched-other, touched_none}
use Rattle.index.proofs.Built.{row_count, touched-source, touched-target, members-le}

-- ---- a row that goes on with a list from its first place on is the list's row

and-join : (a b c : Bool) → (a && (b && c)) ≡ (a && b && c)
and-join true b c = refl
and-join false b c = refl

every-split : (m n : ℕ) (p : ℕ → Bool) → every (m + n) p ≡ (every m p && every n (λ j. p (m + j)))
unfolding every
every-split m zero p = ap (λ (k : ℕ). every k p) (add-zero m) ∙ both (every m p)
  where
    both : (a : Bool) → a ≡ (a && true)
    both true = refl
    both false = refl
every-split m (suc n) p =
    ap (λ (k : ℕ). every k p) (add-suc m n) ∙ every-last (m + n) p ∙ ap (λ (b : Bool). b && p (m + n)) (every-split m n p)
    ∙ sym (and-join (every m p) (every n (λ j. p (m + j))) (p (m + n))) ∙ ap (λ (b : Bool). every m p && b) (sym (every-last n (λ j. p (m + j))))

-- the places of a list's row
row_at : (before : List ℕ) (a : ℕ) (l : List ℕ) → get_or (row (before ++ a ∷ l)) (length before) 0 ≡ a
unfolding row
row_at before a l =
    let all = before ++ a ∷ l in
    ap (λ (r : List ℕ). get_or r (length before) 0) (append_assoc all _ _ ∙ append_assoc before (a ∷ l) _) ∙ get_or_at before a _ 0 (length before) refl

row-past : (l : List ℕ) (j : ℕ) → j < 256 - length l → get_or (row l) (length l + j) 0 ≡ 0
unfolding row
row-past l j h =
    let zeros : List ℕ = replicate (256 - length l) 0 in
    ap (λ (r : List ℕ). get_or r (length l + j) 0) (append_assoc l zeros (length l ∷ []))
    ∙ get_or-append-add l (zeros ++ (length l ∷ [])) j 0
    ∙ get_or-append zeros (length l ∷ []) 0 j (rw (length-replicate {A = ℕ} (256 - length l) 0) h)
    ∙ get_or-replicate {A = ℕ} (256 - length l) j 0 0 h

module _ (r : List ℕ) where
  -- place j of the row is that of the list's row
  abbrev fits : List ℕ → ℕ → Bool
  fits l j = eqb (get_or r j 0) (get_or (row l) j 0)

  ends_is : (before : List ℕ) → length before ≤ 256 → (every (length before) (fits before) && ends_at (length before) r) ≡ every 257 (fits before)
  unfolding ends_at
  ends_is before h =
      let n = length before in
      let past : every (256 - n) (λ j. eqb (get_or r (n + j) 0) 0) ≡ every (256 - n) (λ j. fits before (n + j)) =
      every-ext (256 - n) _ _ (λ j l. ap (eqb (get_or r (n + j) 0)) (sym (row-past before j l))) in
      let last : eqb (get_or r 256 0) n ≡ fits before 256 = ap (eqb (get_or r 256 0)) (sym (row_count before h)) in
      let all : n + (256 - n) ≡ 256 = omega arith in
      ap₂ (λ (a b : Bool). every n (fits before) && (a && b)) past last
      ∙ and-join (every n (fits before)) _ _
      ∙ ap (λ (b : Bool). b && fits before 256) (sym (every-split n (256 - n) (fits before)) ∙ ap (λ (k : ℕ). every k (fits before)) all)
      ∙ sym (every-last 256 (fits before))

  goes-is : (l before : List ℕ) → length before + length l ≤ 256 → (every (length before) (fits (before ++ l)) && goes_on (length before) r l) ≡ every 257 (fits (before ++ l))
  unfolding goes_on
  goes-is [] before h = rw (append-nil before) (ends_is before (omega arith))
  goes-is (a ∷ l) before h =
      let n = length before in
      let all : (before ++ (a ∷ [])) ++ l ≡ before ++ a ∷ l = append_assoc before (a ∷ []) l in
      let longer : length (before ++ (a ∷ [])) ≡ n + 1 = length-append before (a ∷ []) in
      let more : length (before ++ (a ∷ [])) ≡ suc n = longer ∙ add-one n in
      let here : eqb (get_or r n 0) a ≡ fits (before ++ a ∷ l) n = ap (eqb (get_or r n 0)) (sym (row_at before a l)) in
      rw (lt-ltb n 256 (omega arith))
      (ap (λ (b : Bool). every n (fits (before ++ a ∷ l)) && (b && goes_on (n + 1) r l)) here
      ∙ and-join (every n (fits (before ++ a ∷ l))) (fits (before ++ a ∷ l) n) (goes_on (n + 1) r l)
      ∙ ap (λ (b : Bool). b && goes_on (n + 1) r l) (sym (every-last n (fits (before ++ a ∷ l))))
      ∙ ap₂ (λ (k m : ℕ). every k (fits (before ++ a ∷ l)) && goes_on m r l) (sym more) (sym longer)
      ∙ ap (λ (x : List ℕ). every (length (before ++ (a ∷ []))) (fits x) && goes_on (length (before ++ (a ∷ []))) r l) (sym all)
      ∙ goes-is l (before ++ (a ∷ [])) (omega arith)
      ∙ ap (λ (x : List ℕ). every 257 (fits x)) all)

  pub same-is-going : (l : List ℕ) → length l ≤ 256 → goes_on 0 r l ≡ same_row r (row l)
  unfolding same_row every
  same-is-going l h = goes-is l [] (omega arith)

-- ---- the rows of the types of a set go on with an address

module _ {left t : ℕ} (h : left < 2 ^ 32) (ne : ¬ (left ≡ 0)) (low : t ≡ lowest left) (first a : ℕ) (small : first + t < 64)
    (met : List ℕ) (index : List (List ℕ)) (rest : ℕ → List ℕ) where
  at_row : goes_on (get_or met (first + t) 0) (get_or index (first + t) []) (owing first left a rest (first + t))
      ≡ (ltb (get_or met (first + t) 0) 256 && (eqb (get_or (get_or index (first + t) []) (get_or met (first + t) 0) 0) a && goes_on (get_or met (first + t) 0 + 1) (get_or index (first + t) []) (rest (first + t))))
  unfolding owing goes_on
  at_row = rw (touched-here h ne low first)

  -- there is no place left, or another address is there
  pub going-full : 256 ≤ get_or met (first + t) 0 → all_go_on met index (owing first left a rest) ≡ false
  unfolding all_go_on
  going-full full = every-no 64 _ (first + t) small (at_row ∙ rw (le-ltb (get_or met (first + t) 0) 256 full))

  pub going-other : ¬ (get_or (get_or index (first + t) []) (get_or met (first + t) 0) 0 ≡ a) → all_go_on met index (owing first left a rest) ≡ false
  unfolding all_go_on
  going-other n = every-no 64 _ (first + t) small (at_row ∙ rw (ne_eqb _ _ n) (and_no (ltb (get_or met (first + t) 0) 256)))
    where
      and_no : (b : Bool) → (b && false) ≡ false
      and_no true = refl
      and_no false = refl

  owed-gone : owing first (without left t) a rest (first + t) ≡ rest (first + t)
  unfolding owing
  owed-gone = rw (touched-gone h ne low first)

  owed-other : (j : ℕ) → (j ≡ first + t → ⊥) → owing first left a rest j ≡ owing first (without left t) a rest j
  unfolding owing
  owed-other j n = rw (touched-other h ne low first j n)

  -- it is there
  pub going_next : length met ≡ 64 → get_or met (first + t) 0 < 256 → get_or (get_or index (first + t) []) (get_or met (first + t) 0) 0 ≡ a
      → all_go_on met index (owing first left a rest) ≡ all_go_on (set met (first + t) (get_or met (first + t) 0 + 1)) index (owing first (without left t) a rest)
  unfolding all_go_on
  going_next long few e =
      every-ext 64 _ _ (λ j l. ⊎_elim
      (λ (s : eqb j (first + t) ≡ true). here j (eqb-true j (first + t) s))
      (λ (s : eqb j (first + t) ≡ false). there j (eqb-false j (first + t) s))
      (yes_or_no (eqb j (first + t))))
    where
      here : (j : ℕ) → j ≡ first + t → goes_on (get_or met j 0) (get_or index j []) (owing first left a rest j)
          ≡ goes_on (get_or (set met (first + t) (get_or met (first + t) 0 + 1)) j 0) (get_or index j []) (owing first (without left t) a rest j)
      here j s = rw s
          (at_row
          ∙ rw (lt-ltb (get_or met (first + t) 0) 256 few, eq-eqb _ _ e)
          (ap₂ (λ (n : ℕ) (l : List ℕ). goes_on n (get_or index (first + t) []) l) (sym (get_or-set_same met (first + t) (get_or met (first + t) 0 + 1) 0 (rw long small))) (sym owed-gone)))

      there : (j : ℕ) → (j ≡ first + t → ⊥) → goes_on (get_or met j 0) (get_or index j []) (owing first left a rest j)
          ≡ goes_on (get_or (set met (first + t) (get_or met (first + t) 0 + 1)) j 0) (get_or index j []) (owing first (without left t) a rest j)
      there j n = ap₂ (λ (m : ℕ) (l : List ℕ). goes_on m (get_or index j []) l) (sym (get_or-set_other met (first + t) j (get_or met (first + t) 0 + 1) 0 n)) (owed-other j n)

pub owing-none : (first a : ℕ) (met : List ℕ) (index : List (List ℕ)) (rest : ℕ → List ℕ) → all_go_on met index (owing first 0 a rest) ≡ all_go_on met index rest
unfolding all_go_on owing
owing-none first a met index rest = every-ext 64 _ _ (λ j l. rw (touched_none first j))

-- ---- one subscriber more: the rows go on with its address where it is in them

module _ (met : List ℕ) (index : List (List ℕ)) (s : Subscriber) (ss : List Subscriber) where
  pub owing-one : all_go_on met index (owing 0 s.source s.address (owing 32 s.target s.address (λ k. members k ss))) ≡ all_go_on met index (λ k. members k (s ∷ ss))
  unfolding all_go_on owing members keep
  owing-one = every-ext 64 _ _ (λ k l. ap (goes_on (get_or met k 0) (get_or index k [])) (both k l))
    where
      both : (k : ℕ) → k < 64
          → cond (touched 0 s.source k) (s.address ∷ cond (touched 32 s.target k) (s.address ∷ map address_of (keep (wants k) ss)) (map address_of (keep (wants k) ss))) (cond (touched 32 s.target k) (s.address ∷ map address_of (keep (wants k) ss)) (map address_of (keep (wants k) ss)))
          ≡ map address_of (cond (wants k s) (s ∷ keep (wants k) ss) (keep (wants k) ss))
      both k l = ⊎_elim
          (λ (e : ltb k 32 ≡ true). let w = touched-source k s (ltb-true k 32 e) in rw (w.0, w.1) (move k))
          (λ (e : ltb k 32 ≡ false). let w = touched-target k s (ltb-false k 32 e) l in rw (w.0, w.1) (move k))
          (yes_or_no (ltb k 32))
        where
          move : (k : ℕ) → cond (wants k s) (s.address ∷ map address_of (keep (wants k) ss)) (map address_of (keep (wants k) ss)) ≡ map address_of (cond (wants k s) (s ∷ keep (wants k) ss) (keep (wants k) ss))
          move k = ⊎_elim (λ (e : wants k s ≡ true). rw e) (λ (e : wants k s ≡ false). rw e) (yes_or_no (wants k s))

-- nobody more
pub all_none : (met : List ℕ) (index : List (List ℕ)) → all_go_on met index (λ k. members k []) ≡ all_go_on met index (λ k. [])
unfolding members keep
all_none met index = refl

-- ---- the whole index

pub all_same : (index : List (List ℕ)) (l : List Subscriber) → length l ≤ 256
    → all_go_on (replicate 64 0) index (λ k. members k l) ≡ every 64 (λ k. same_row (get_or index k []) (row (members k l)))
unfolding all_go_on
all_same index l h =
    every-ext 64 _ _ (λ k low.
    ap (λ (n : ℕ). goes_on n (get_or index k []) (members k l)) (get_or-replicate {A = ℕ} 64 k 0 0 low)
    ∙ same-is-going (get_or index k []) (members k l) (omega (arith, members-le k l)))

-- ---- a turn of the loop through the subscribers, in two parts: its source set, then its target set

module _ (subs : List Subscriber) (i : ℕ) (low : i < length subs) (met met' : List ℕ) (index : List (List ℕ)) (r whole : Bool)
    (inv : all_go_on met index (λ k. members k (drop i subs)) ≡ whole)
    (f : (rest : ℕ → List ℕ) → (r && all_go_on met' index rest) ≡ all_go_on met index (owing 0 (at subs i).source (at subs i).address rest)) where
  after-source : (r && all_go_on met' index (owing 32 (at subs i).target (at subs i).address (λ k. members k (drop (i + 1) subs)))) ≡ whole
  after-source =
      f (owing 32 (at subs i).target (at subs i).address (λ k. members k (drop (i + 1) subs)))
      ∙ owing-one met index (at subs i) (drop (i + 1) subs)
      ∙ ap (λ (l : List Subscriber). all_go_on met index (λ k. members k l)) (sym (here subs i nobody low))
      ∙ inv

  pub source-no : r ≡ false → false ≡ whole
  source-no e = rw e at after-source

  pub source-yes : r ≡ true → all_go_on met' index (owing 32 (at subs i).target (at subs i).address (λ k. members k (drop (i + 1) subs))) ≡ whole
  source-yes e = rw e at after-source

module _ (met met' : List ℕ) (index : List (List ℕ)) (r whole : Bool) (s : Subscriber) (rest : ℕ → List ℕ)
    (inv : all_go_on met index (owing 32 s.target s.address rest) ≡ whole)
    (f : (rest : ℕ → List ℕ) → (r && all_go_on met' index rest) ≡ all_go_on met index (owing 32 s.target s.address rest)) where
  after-target : (r && all_go_on met' index rest) ≡ whole
  after-target = f rest ∙ inv

  pub target-no : r ≡ false → false ≡ whole
  target-no e = rw e at after-target

  pub target-yes : r ≡ true → all_go_on met' index rest ≡ whole
  target-yes e = rw e at after-target
