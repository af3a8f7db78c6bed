-- A change of one subscriber's sets: the rows that are not touched stay as they were, and with the others made anew the index is the changed plan's. Assumes nothing.
use mathlib.Core.Path.{◌≡◌, refl, sym, ap, ◌∙◌}
use mathlib.Core.Logic.{⊎_elim}
use mathlib.Core.Bool.{Bool, true, false, not, ◌&&◌, ◌||◌, cond}
use mathlib.Core.List.{List, [], ◌∷◌, map}
use Prim.Native.Nat.{ℕ, zero, suc, ◌-◌, ◌≤◌, ◌<◌}
use native.Mathlib.Omega.{arith}
use lib.Dec.{eqb, ltb}
use lib.ListN.{length, get_or, set, take, replicate, length-take}
use lib.Seq.{take-set-lt, get_or-take, ext_get_or}
use borrow.Author.Tests.{eqb-true, ltb-true, ltb-false}
use Rattle.typeset.specs.Sets.{has, minus}
use Rattle.typeset.proofs.Bools.{yes_or_no}
use Rattle.typeset.proofs.Below.{every-at, every-ext}
use Rattle.typeset.proofs.Laws.{has-join-at, has-minus-at}
use Rattle.lists.specs.Lists.{keep}
use Rattle.plan.specs.declared.Subscriber.{Subscriber}
use Rattle.plan.specs.declared.Plan.{Plan}
use Rattle.plan.specs.Parts.{nobody, at}
use Rattle.plan.specs.Find.{used}
use Rattle.index.specs.Index.{address_of, row, list_of, tab, index_of, resubscribed, changed}
use Rattle.index.specs.Steps.{wants, members, touched, upon, differing, all_go_on}
use Rattle.index.specs.Said.{same_row, matches}
use Rattle.index.proofs.Rows.{tab-length, tab-at}
use Rattle.index.proofs.Built.{upon-at, upon-length, in-turn, members-le, row-length, list-is, index_is}
use Rattle.index.proofs.Beside.{all_same}

-- ---- the types that are in one of two sets only

pub differing-no : (a b t : ℕ) → t < 32 → has t (differing a b) ≡ false → has t b ≡ has t a
unfolding differing
differing-no a b t h e = cases (has t a) (has t b) (sym (has-join-at (minus a b) (minus b a) t h ∙ rw (has-minus-at a b t h, has-minus-at b a t h)) ∙ e)
  where
    cases : (x y : Bool) → (x && not y || y && not x) ≡ false → y ≡ x
    cases true true e = refl
    cases true false e = sym e
    cases false true e = e
    cases false false e = refl

-- a subscriber is in row k as before, if the sets do not differ there
unmoved : (k source target : ℕ) (s : Subscriber) → k < 64 → wants k (resubscribed (differing s.source source) (differing s.target target) s) ≡ false
    → wants k (resubscribed source target s) ≡ wants k s
unfolding wants
unmoved k source target s h e =
    ⊎_elim
    (λ (l : ltb k 32 ≡ true). rw l (differing-no s.source source k (ltb-true k 32 l) (rw l at e)))
    (λ (l : ltb k 32 ≡ false).
    let up : 32 ≤ k = ltb-false k 32 l in
    rw l (differing-no s.target target (k - 32) (omega arith) (rw l at e)))
    (yes_or_no (ltb k 32))

-- ---- one subscriber changed

members-set : (k : ℕ) (l : List Subscriber) (i : ℕ) (s : Subscriber) → i < length l → wants k s ≡ wants k (at l i) → s.address ≡ (at l i).address
    → members k (set l i s) ≡ members k l
unfolding members keep
members-set k [] i s h e a = absurd (omega arith)
members-set k (x ∷ l) zero s h e a =
    ⊎_elim
    (λ (w : wants k x ≡ true). rw (e, w) (ap (λ (n : ℕ). n ∷ map address_of (keep (wants k) l)) a))
    (λ (w : wants k x ≡ false). rw (e, w))
    (yes_or_no (wants k x))
members-set k (x ∷ l) (suc i) s h e a =
    let rest = members-set k l i s (omega arith) e a in
    ⊎_elim
    (λ (w : wants k x ≡ true). rw w (ap (λ (r : List ℕ). x.address ∷ r) rest))
    (λ (w : wants k x ≡ false). rw w rest)
    (yes_or_no (wants k x))

module _ (subs : List Subscriber) (count i source target : ℕ) (long : length subs ≡ 256) (few : count ≤ 256) (h : i < count) where
  abbrev after : List Subscriber
  after = set subs i (resubscribed source target (at subs i))

  pub members_kept : (k : ℕ) → wants k (resubscribed source target (at subs i)) ≡ wants k (at subs i) → members k (take count after) ≡ members k (take count subs)
  members_kept k e =
      let there : at (take count subs) i ≡ at subs i = get_or-take count subs i nobody h in
      let new : Subscriber = resubscribed source target (at subs i) in
      let low : i < length (take count subs) = rw (length-take count subs) (omega arith) in
      ap (members k) (take-set-lt count subs i new h)
      ∙ members-set k (take count subs) i new low (e ∙ ap (wants k) (sym there)) (ap address_of (sym there))

  -- the touched rows made anew
  pub renewed : (index : List (List ℕ)) → length index ≡ 64 → ((k : ℕ) → k < 64 → get_or index k [] ≡ row (members k (take count subs)))
      → upon 32 (differing (at subs i).target target) (λ k l. row (members k (take count after)))
      (upon 0 (differing (at subs i).source source) (λ k l. row (members k (take count after))) index)
      ≡ tab 64 (λ k. row (members k (take count after)))
  renewed index size rows =
      let f : ℕ → List ℕ → List ℕ = λ k l. row (members k (take count after)) in
      let one = upon 0 (differing (at subs i).source source) f index in
      let two = upon 32 (differing (at subs i).target target) f one in
      let once : length one ≡ 64 = upon-length 0 (differing (at subs i).source source) f index ∙ size in
      let twice : length two ≡ 64 = upon-length 32 (differing (at subs i).target target) f one ∙ once in
      ext_get_or [] two (tab 64 (λ k. row (members k (take count after)))) (twice ∙ sym (tab-length 64 (λ k. row (members k (take count after)))))
      (λ k l.
      let low : k < 64 = rw twice at l in
      let short : k < length index = rw size low in
      let shorter : k < length one = rw once low in
      upon-at 32 (differing (at subs i).target target) f one k shorter
      ∙ ap (λ (r : List ℕ). cond (touched 32 (differing (at subs i).target target) k) (f k []) r) (upon-at 0 (differing (at subs i).source source) f index k short)
      ∙ in-turn k (resubscribed (differing (at subs i).source source) (differing (at subs i).target target) (at subs i)) (λ r. f k []) (get_or index k []) low
      ∙ made k low
      ∙ sym (tab-at 64 k (λ k. row (members k (take count after))) low))
    where
      made : (k : ℕ) → k < 64
          → cond (wants k (resubscribed (differing (at subs i).source source) (differing (at subs i).target target) (at subs i))) (row (members k (take count after))) (get_or index k [])
          ≡ row (members k (take count after))
      made k low = ⊎_elim
          (λ (e : wants k (resubscribed (differing (at subs i).source source) (differing (at subs i).target target) (at subs i)) ≡ true). rw e)
          (λ (e : wants k (resubscribed (differing (at subs i).source source) (differing (at subs i).target target) (at subs i)) ≡ false).
          rw e (rows k low ∙ ap row (sym (members_kept k (unmoved k source target (at subs i) low e)))))
          (yes_or_no (wants k (resubscribed (differing (at subs i).source source) (differing (at subs i).target target) (at subs i))))

-- ---- what passes the test is the plan's index

pub record Shaped (index : List (List ℕ)) : Type 0 where
  pub rows : length index ≡ 64
  pub places : (k : ℕ) → k < 64 → length (get_or index k []) ≡ 257

same-is : (a b : List ℕ) → length a ≡ 257 → length b ≡ 257 → same_row a b ≡ true → a ≡ b
unfolding same_row
same-is a b x y e =
    ext_get_or 0 a b (x ∙ sym y) (λ j h. eqb-true (get_or a j 0) (get_or b j 0) (every-at 257 (λ u. eqb (get_or a u 0) (get_or b u 0)) e j (rw x at h)))

pub used_le : (p : Plan) → used p ≤ 256
unfolding used
used_le p = omega arith

pub few-used : (p : Plan) (k : ℕ) → length (members k (take (used p) p.subscribers)) ≤ 256
few-used p k = omega (arith, members-le k (take (used p) p.subscribers), length-take (used p) p.subscribers, used_le p)

-- the test of the code is that of the definition
pub matches-code : (p : Plan) (index : List (List ℕ)) → all_go_on (replicate 64 0) index (λ k. members k (take (used p) p.subscribers)) ≡ matches p index
unfolding matches
matches-code p index =
    all_same index (take (used p) p.subscribers) (omega (arith, length-take (used p) p.subscribers, used_le p))
    ∙ every-ext 64 _ _ (λ k h. ap (λ (l : List ℕ). same_row (get_or index k []) (row l)) (list-is p k))

module _ (p : Plan) (index : List (List ℕ)) (𝓢 : Shaped index) (e : matches p index ≡ true) where
  pub row_is : (k : ℕ) → k < 64 → get_or index k [] ≡ row (members k (take (used p) p.subscribers))
  unfolding matches
  row_is k low =
      same-is (get_or index k []) (row (list_of p k)) (𝓢.places k low) (ap length (ap row (sym (list-is p k))) ∙ row-length _ (few-used p k))
      (every-at 64 (λ u. same_row (get_or index u []) (row (list_of p u))) e k low)
      ∙ ap row (sym (list-is p k))

  pub matches-is : index ≡ index_of p
  matches-is =
      ext_get_or [] index (tab 64 (λ k. row (members k (take (used p) p.subscribers)))) (𝓢.rows ∙ sym (tab-length 64 (λ k. row (members k (take (used p) p.subscribers)))))
      (λ k h. let low : k < 64 = rw 𝓢.rows at h in row_is k low ∙ sym (tab-at 64 k (λ k. row (members k (take (used p) p.subscribers))) low))
      ∙ index_is p

  -- so an update leaves the changed plan's
  pub update-is : (i source target : ℕ) → length p.subscribers ≡ 256 → i < used p
      → upon 32 (differing (at p.subscribers i).target target) (λ k l. row (members k (take (used p) (changed p i source target).subscribers)))
      (upon 0 (differing (at p.subscribers i).source source) (λ k l. row (members k (take (used p) (changed p i source target).subscribers))) index)
      ≡ index_of (changed p i source target)
  unfolding changed used
  update-is i source target long h =
      renewed p.subscribers (used p) i source target long (used_le p) h index 𝓢.rows row_is ∙ index_is (changed p i source target)
