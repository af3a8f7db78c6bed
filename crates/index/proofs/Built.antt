-- What one pass through the subscribers leaves in 64 blank rows: each has the addresses of those who are in it. Assumes nothing.
use mathlib.Core.Path.{◌≡◌, refl, sym, ap, ◌∙◌}
use mathlib.Core.Logic.{⊎_elim}
use mathlib.Core.Bool.{true, false, cond}
use mathlib.Core.List.{List, [], ◌∷◌, ◌++◌, map, append_assoc, append-nil}
use Prim.Native.Nat.{ℕ, suc, ◌+◌, ◌-◌, ◌≤◌, ◌<◌}
use native.Mathlib.Nat.{sub-zero}
use native.Mathlib.Omega.{arith}
use lib.Dec.{ltb}
use lib.ListN.{length, get_or, set, take, replicate, length-append, length-replicate, get_or-replicate, replicate-append-replicate}
use lib.Seq.{get_or_at, set_at, ext_get_or}
use borrow.Author.Tests.{lt-ltb, le-ltb, le-leb, lt-leb, ltb-true, ltb-false}
use Rattle.typeset.proofs.Bools.{yes_or_no}
use Rattle.lists.specs.Lists.{keep}
use Rattle.lists.proofs.Places.{keep-le}
use Rattle.lists.proofs.Members.{keep-ext}
use Rattle.plan.specs.declared.Subscriber.{Subscriber}
use Rattle.plan.specs.declared.Plan.{Plan}
use Rattle.plan.specs.Find.{used}
use Rattle.index.specs.Index.{address_of, subscribers_to, row, list_of, tab, index_of}
use Rattle.index.specs.Steps.{wants, members, touched, upon, with_one_more}
use Rattle.index.proofs.Rows.{each-length, each_at, tab-length, tab-at, tab-ext}

-- ---- one address more in a row

map-length : (f : Subscriber → ℕ) (l : List Subscriber) → length (map f l) ≡ length l
map-length f [] = refl
map-length f (s ∷ ss) = ap suc (map-length f ss)

pub members-le : (k : ℕ) (l : List Subscriber) → length (members k l) ≤ length l
unfolding members
members-le k l = omega (arith, keep-le (wants k) l, map-length address_of (keep (wants k) l))

front : (l : List ℕ) → length l ≤ 256 → length (l ++ replicate (256 - length l) 0) ≡ 256
front l h = simp (length-append, length-replicate) (omega arith)

pub row-length : (l : List ℕ) → length l ≤ 256 → length (row l) ≡ 257
unfolding row
row-length l h = simp (length-append, length-replicate) (omega arith)

pub row_count : (l : List ℕ) → length l ≤ 256 → get_or (row l) 256 0 ≡ length l
unfolding row
row_count l h = get_or_at (l ++ replicate (256 - length l) 0) (length l) [] 0 256 (front l h)

snoc-length : (l : List ℕ) (a : ℕ) → length (l ++ (a ∷ [])) ≡ length l + 1
snoc-length l a = length-append l (a ∷ [])

-- the place after the list, and the places after that
apart : (l : List ℕ) → length l < 256 → row l ≡ l ++ 0 ∷ (replicate (255 - length l) 0 ++ (length l ∷ []))
unfolding row
apart l h =
    let more : 256 - length l ≡ suc (255 - length l) = omega arith in
    ap (λ (k : ℕ). l ++ replicate k 0 ++ (length l ∷ [])) more ∙ append_assoc l (replicate (suc (255 - length l)) 0) (length l ∷ [])

stored : (l : List ℕ) (a : ℕ) → length l < 256 → set (set (row l) (length l) a) 256 (length l + 1) ≡ row (l ++ (a ∷ []))
unfolding row
stored l a h =
    let zeros : List ℕ = replicate (255 - length l) 0 in
    let whole : length (l ++ a ∷ replicate (255 - length l) 0) ≡ 256 = simp (length-append, length-replicate) (omega arith) in
    let longer : length (l ++ (a ∷ [])) ≡ length l + 1 = snoc-length l a in
    let rest : 256 - length (l ++ (a ∷ [])) ≡ 255 - length l = omega arith in
    ap (λ (r : List ℕ). set r 256 (length l + 1)) (ap (λ (r : List ℕ). set r (length l) a) (apart l h) ∙ set_at l 0 (zeros ++ (length l ∷ [])) a (length l) refl ∙ sym (append_assoc l (a ∷ zeros) (length l ∷ [])))
    ∙ set_at (l ++ a ∷ zeros) (length l) [] (length l + 1) 256 whole
    ∙ ap (λ (r : List ℕ). r ++ ((length l + 1) ∷ [])) (sym (append_assoc l (a ∷ []) zeros) ∙ ap (λ (k : ℕ). l ++ (a ∷ []) ++ replicate k 0) (sym rest))
    ∙ ap (λ (k : ℕ). l ++ (a ∷ []) ++ replicate (256 - length (l ++ (a ∷ []))) 0 ++ (k ∷ [])) (sym longer)

added-row : (l : List ℕ) (a : ℕ) → length l < 256 → with_one_more a (row l) ≡ row (l ++ (a ∷ []))
unfolding with_one_more
added-row l a h =
    let fits : length l ≤ 256 = omega arith in
    rw (row_count l fits, lt-ltb (length l) 256 h) (stored l a h)

-- some addresses more
unfoldable pub added_all : List ℕ → List ℕ → List ℕ
added_all [] r = r
added_all (a ∷ l) r = added_all l (with_one_more a r)

added-all : (l m : List ℕ) → length m + length l ≤ 256 → added_all l (row m) ≡ row (m ++ l)
unfolding added_all
added-all [] m h = ap row (sym (append-nil m))
added-all (a ∷ l) m h =
    ap (added_all l) (added-row m a (omega arith)) ∙ added-all l (m ++ (a ∷ [])) (omega (arith, snoc-length m a)) ∙ ap row (append_assoc m (a ∷ []) l)

-- ---- one subscriber more

module _ (k : ℕ) (s : Subscriber) where
  pub touched-source : k < 32 → (touched 0 s.source k ≡ wants k s) × (touched 32 s.target k ≡ false)
  unfolding touched wants
  touched-source h = rw (sub-zero k, lt-ltb k 32 h, lt-leb 32 k h, le-leb 0 k (omega arith)) (refl, refl)

  pub touched-target : 32 ≤ k → k < 64 → (touched 0 s.source k ≡ false) × (touched 32 s.target k ≡ wants k s)
  unfolding touched wants
  touched-target h l =
      let low : ltb (k - 32) 32 ≡ true = lt-ltb (k - 32) 32 (omega arith) in
      rw (sub-zero k, le-ltb k 32 h, le-leb 32 k h, le-leb 0 k (omega arith), low) (refl, refl)

-- what the subscriber's own two sets do to row k, if each row of a set is made another by g
pub in-turn : (k : ℕ) (s : Subscriber) (g : List ℕ → List ℕ) (r : List ℕ) → k < 64
    → cond (touched 32 s.target k) (g (cond (touched 0 s.source k) (g r) r)) (cond (touched 0 s.source k) (g r) r) ≡ cond (wants k s) (g r) r
in-turn k s g r h =
    ⊎_elim
    (λ (e : ltb k 32 ≡ true). let w = touched-source k s (ltb-true k 32 e) in rw (w.1, w.0))
    (λ (e : ltb k 32 ≡ false). let w = touched-target k s (ltb-false k 32 e) h in rw (w.0, w.1))
    (yes_or_no (ltb k 32))

-- one subscriber after the other
unfoldable pub entering : List Subscriber → List (List ℕ) → List (List ℕ)
entering [] rows = rows
entering (s ∷ ss) rows = entering ss (upon 32 s.target (λ k. with_one_more s.address) (upon 0 s.source (λ k. with_one_more s.address) rows))

pub entering-one : (s : Subscriber) (ss : List Subscriber) (rows : List (List ℕ))
    → entering (s ∷ ss) rows ≡ entering ss (upon 32 s.target (λ k. with_one_more s.address) (upon 0 s.source (λ k. with_one_more s.address) rows))
unfolding entering
entering-one s ss rows = refl

pub entering-end : (rows : List (List ℕ)) → entering [] rows ≡ rows
unfolding entering
entering-end rows = refl

pub upon-length : (first types : ℕ) (f : ℕ → List ℕ → List ℕ) (rows : List (List ℕ)) → length (upon first types f rows) ≡ length rows
unfolding upon
upon-length first types f rows = each-length _ rows

pub upon-at : (first types : ℕ) (f : ℕ → List ℕ → List ℕ) (rows : List (List ℕ)) (k : ℕ) → k < length rows
    → get_or (upon first types f rows) k [] ≡ cond (touched first types k) (f k (get_or rows k [])) (get_or rows k [])
unfolding upon
upon-at first types f rows k h = each_at _ rows k h

module _ (k : ℕ) (low : k < 64) where
  entering-at : (l : List Subscriber) (rows : List (List ℕ)) → k < length rows → get_or (entering l rows) k [] ≡ added_all (members k l) (get_or rows k [])
  unfolding entering members keep added_all
  entering-at [] rows h = refl
  entering-at (s ∷ ss) rows h =
      let g : ℕ → List ℕ → List ℕ = λ j. with_one_more s.address in
      let one = upon 0 s.source g rows in
      let two = upon 32 s.target g one in
      let long : k < length one = rw (upon-length 0 s.source g rows) h in
      let longer : k < length two = rw (upon-length 32 s.target g one) long in
      let there : get_or two k [] ≡ cond (wants k s) (with_one_more s.address (get_or rows k [])) (get_or rows k []) =
      upon-at 32 s.target g one k long
      ∙ ap (λ (r : List ℕ). cond (touched 32 s.target k) (with_one_more s.address r) r) (upon-at 0 s.source g rows k h)
      ∙ in-turn k s (with_one_more s.address) (get_or rows k []) low in
      entering-at ss two longer ∙ ap (added_all (members k ss)) there ∙ ⊎_elim (λ (e : wants k s ≡ true). rw e) (λ (e : wants k s ≡ false). rw e) (yes_or_no (wants k s))

entering-length : (l : List Subscriber) (rows : List (List ℕ)) → length (entering l rows) ≡ length rows
unfolding entering
entering-length [] rows = refl
entering-length (s ∷ ss) rows = entering-length ss _ ∙ upon-length 32 s.target _ _ ∙ upon-length 0 s.source _ rows

blank-row : replicate 257 0 ≡ row []
unfolding row
blank-row = sym (replicate-append-replicate 256 1 0)

pub entered_all : (l : List Subscriber) → length l ≤ 256 → entering l (replicate 64 (replicate 257 0)) ≡ tab 64 (λ k. row (members k l))
entered_all l h =
    let zeros : List ℕ = replicate 257 0 in
    let rows : List (List ℕ) = replicate 64 zeros in
    ext_get_or [] (entering l rows) (tab 64 (λ k. row (members k l)))
    (entering-length l rows ∙ length-replicate 64 zeros ∙ sym (tab-length 64 (λ k. row (members k l))))
    (λ k low.
    let below : k < 64 = rw (entering-length l rows ∙ length-replicate 64 zeros) at low in
    let short : k < length rows = rw (length-replicate 64 zeros) below in
    entering-at k below l rows short
    ∙ ap (added_all (members k l)) (get_or-replicate 64 k zeros [] below ∙ blank-row)
    ∙ added-all (members k l) [] (omega (arith, members-le k l))
    ∙ sym (tab-at 64 k (λ k. row (members k l)) below))

-- ---- one row made anew

module _ (k : ℕ) (s : Subscriber) (ss : List Subscriber) (r : List ℕ) where
  pub adding-yes : wants k s ≡ true → added_all (members k (s ∷ ss)) r ≡ added_all (members k ss) (with_one_more s.address r)
  unfolding members keep added_all
  adding-yes e = rw e

  pub adding-no : wants k s ≡ false → added_all (members k (s ∷ ss)) r ≡ added_all (members k ss) r
  unfolding members keep
  adding-no e = rw e

pub adding-end : (k : ℕ) (r : List ℕ) → added_all (members k []) r ≡ r
unfolding members keep added_all
adding-end k r = refl

pub remade : (k : ℕ) (l : List Subscriber) → length l ≤ 256 → added_all (members k l) (replicate 257 0) ≡ row (members k l)
remade k l h = ap (added_all (members k l)) blank-row ∙ added-all (members k l) [] (omega (arith, members-le k l))

-- ---- the list of row k

pub list-is : (p : Plan) (k : ℕ) → members k (take (used p) p.subscribers) ≡ list_of p k
unfolding list_of subscribers_to members wants
list-is p k = ⊎_elim
    (λ (e : ltb k 32 ≡ true). rw e (ap (map address_of) (keep-ext _ _ (take (used p) p.subscribers) (λ s. rw e))))
    (λ (e : ltb k 32 ≡ false). rw e (ap (map address_of) (keep-ext _ _ (take (used p) p.subscribers) (λ s. rw e))))
    (yes_or_no (ltb k 32))

pub index_is : (p : Plan) → tab 64 (λ k. row (members k (take (used p) p.subscribers))) ≡ index_of p
unfolding index_of
index_is p = tab-ext 64 _ _ (λ k h. ap row (list-is p k))
