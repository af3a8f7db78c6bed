-- 46: the new sets fit exactly where the changed plan is sound again. No other rule of a plan speaks of a subscriber's sets. Assumes nothing.
use mathlib.Core.Path.{◌≡◌, refl, sym, ap, ap₂, ◌∙◌}
use mathlib.Core.Logic.{⊎_elim, ◌⊎◌, inl, inr}
use mathlib.Core.Bool.{Bool, true, false, ◌&&◌}
use mathlib.Core.List.{List}
use Prim.Native.Nat.{ℕ, ◌-◌, ◌<◌}
use native.Mathlib.Omega.{arith}
use lib.Dec.{eqb, ltb, leb}
use lib.ListN.{length, set}
use lib.Seq.{get_or-set_same, get_or-set_other}
use borrow.Author.Tests.{eqb-true, eqb-false, lt-leb, le-leb}
use Rattle.typeset.specs.Sets.{within, meet, every, implies}
use Rattle.typeset.proofs.Bools.{yes_or_no, both_ways, and_left, and_right, and-make}
use Rattle.typeset.proofs.Below.{every_of, every-ext}
use Rattle.typeset.proofs.Laws.{same_code}
use Rattle.plan.specs.declared.Region.TheVariants.{Source, Target}
use Rattle.plan.specs.declared.Types.{Types}
use Rattle.plan.specs.declared.Subscriber.{Subscriber}
use Rattle.plan.specs.declared.Plan.{Plan}
use Rattle.plan.specs.Parts.{choice, nobody, at}
use Rattle.plan.specs.Rules.{kind_known, address_given, count_fits, numbers_given, sets_in_choices, reversible_twice, numbers_differ, boxes_blank, holds, shares, lines_apart, one_kind, ascends, blank, rest_blank}
use Rattle.plan.specs.Sound.{boxes_sound, own_sound, numbers_apart, subscriber_sound, sound}
use Rattle.plan.specs.Find.{used}
use Rattle.plan.proofs.Subscribers.{own_at, ascends-at, apart-at, own-kind, own-address, own-count, own-sets, own-reversible, own-boxes}
use Rattle.plan.proofs.Laws.{few, types-kept, source-kept, target-kept, subscribers-kept, rest-kept, used_all}
use Rattle.index.specs.Index.{resubscribed, changed}
use Rattle.index.specs.Said.{sets_fit}

pub fit-code : (t : Types) (source target : ℕ)
    → (within source (choice Source t) && within target (choice Target t) && eqb (meet t.reversible source) (meet t.reversible target)) ≡ sets_fit t source target
unfolding sets_fit
fit-code t source target = ap (λ (b : Bool). within source (choice Source t) && within target (choice Target t) && b) (same_code t.reversible source target)

-- ---- the two rules of a subscriber's sets

fit_is : (t : Types) (source target : ℕ) (s : Subscriber)
    → sets_fit t source target ≡ (sets_in_choices t (resubscribed source target s) && reversible_twice t (resubscribed source target s))
unfolding sets_fit sets_in_choices reversible_twice
fit_is t source target s = refl

-- its other rules do not speak of its sets
own-again : (t : Types) (source target : ℕ) (s : Subscriber) → own_sound t s ≡ true → sets_fit t source target ≡ true → own_sound t (resubscribed source target s) ≡ true
unfolding own_sound kind_known address_given count_fits boxes_sound numbers_given numbers_differ boxes_blank
own-again t source target s e f =
    let both = sym (fit_is t source target s) ∙ f in
    let sets = and_left (sets_in_choices t (resubscribed source target s)) (reversible_twice t (resubscribed source target s)) both in
    let twice = and_right (sets_in_choices t (resubscribed source target s)) (reversible_twice t (resubscribed source target s)) both in
    and-make (and-make (and-make (and-make (and-make (own-kind t s e) (own-address t s e)) (own-count t s e)) sets) twice) (own-boxes t s e)

-- ---- the subscribers, of which one has other sets

module _ (subs : List Subscriber) (i source target : ℕ) (here : i < length subs) where
  abbrev after : List Subscriber
  after = set subs i (resubscribed source target (at subs i))

  at_after : (j : ℕ) → (at after j ≡ resubscribed source target (at subs j)) ⊎ (at after j ≡ at subs j)
  at_after j =
      ⊎_elim
      (λ (e : eqb j i ≡ true). inl (rw (eqb-true j i e) (get_or-set_same subs i (resubscribed source target (at subs i)) nobody here)))
      (λ (e : eqb j i ≡ false). inr (get_or-set_other subs i j (resubscribed source target (at subs i)) nobody (eqb-false j i e)))
      (yes_or_no (eqb j i))

  -- what does not speak of the sets
  stays : {A : Type 0} (f : Subscriber → A) → ((s : Subscriber) → f (resubscribed source target s) ≡ f s) → (j : ℕ) → f (at after j) ≡ f (at subs j)
  stays f e j = ⊎_elim (λ x. ap f x ∙ e (at subs j)) (λ x. ap f x) (at_after j)

  ascends-again : (j : ℕ) → ascends after j ≡ ascends subs j
  unfolding ascends
  ascends-again j =
      ap₂ (λ (x y : ℕ). implies (ltb 0 j) (ltb x y)) (stays (λ s. s.address) (λ s. refl) (j - 1)) (stays (λ s. s.address) (λ s. refl) j)

  lines-again : (j k : ℕ) → lines_apart (at after j) (at after k) ≡ lines_apart (at subs j) (at subs k)
  unfolding lines_apart shares holds
  lines-again j k = stays (λ s. lines_apart s (at after k)) (λ s. refl) j ∙ stays (λ s. lines_apart (at subs j) s) (λ s. refl) k

  kinds-again : (j k : ℕ) → one_kind (at after j) (at after k) ≡ one_kind (at subs j) (at subs k)
  unfolding one_kind shares holds
  kinds-again j k = stays (λ s. one_kind s (at after k)) (λ s. refl) j ∙ stays (λ s. one_kind (at subs j) s) (λ s. refl) k

  apart-again : (j : ℕ) → numbers_apart after j ≡ numbers_apart subs j
  unfolding numbers_apart
  apart-again j = every-ext j _ _ (λ m l. ap₂ ◌&&◌ (lines-again m j) (kinds-again m j))

  blank-again : (count : ℕ) → i < count → rest_blank after count ≡ rest_blank subs count
  unfolding rest_blank
  blank-again count low = every-ext 256 _ _ (λ j l. ⊎_elim
      (λ (e : eqb j i ≡ true).
      let in_use : leb count j ≡ false = lt-leb count j (rw (eqb-true j i e) low) in
      rw in_use)
      (λ (e : eqb j i ≡ false). ap (λ (s : Subscriber). implies (leb count j) (blank s)) (get_or-set_other subs i j (resubscribed source target (at subs i)) nobody (eqb-false j i e)))
      (yes_or_no (eqb j i)))

  -- each keeps its rules exactly where the new sets fit
  all-again : (t : Types) (count : ℕ) → i < count → every count (subscriber_sound t subs) ≡ true → every count (subscriber_sound t after) ≡ sets_fit t source target
  unfolding subscriber_sound
  all-again t count low e =
      both_ways (every count (subscriber_sound t after)) (sets_fit t source target)
      (λ all.
      let own = rw (get_or-set_same subs i (resubscribed source target (at subs i)) nobody here) at (own_at t after count all i low) in
      fit_is t source target (at subs i) ∙ and-make (own-sets t (resubscribed source target (at subs i)) own) (own-reversible t (resubscribed source target (at subs i)) own))
      (λ fit. every_of count _ (λ j l.
      and-make
      (and-make
      (⊎_elim
      (λ x. ap (own_sound t) x ∙ own-again t source target (at subs j) (own_at t subs count e j l) fit)
      (λ x. ap (own_sound t) x ∙ own_at t subs count e j l)
      (at_after j))
      (ascends-again j ∙ ascends-at t subs count e j l))
      (apart-again j ∙ apart-at t subs count e j l)))

-- 46 is what the request says: the new sets break a rule of the plan
pub still-sound : (p : Plan) (i source target : ℕ) → sound p ≡ true → i < used p → length p.subscribers ≡ 256 → sound (changed p i source target) ≡ sets_fit p.types source target
unfolding sound changed
still-sound p i source target e h long =
    let low : i < p.count = rw (used_all p e) at h in
    let here : i < length p.subscribers = rw long (omega (arith, few p e)) in
    rw (le-leb p.count 256 (few p e), types-kept p e, source-kept p e, target-kept p e)
    (ap₂ ◌&&◌ (all-again p.subscribers i source target here p.types p.count low (subscribers-kept p e)) (blank-again p.subscribers i source target here p.count low ∙ rest-kept p e)
    ∙ with-true (sets_fit p.types source target))
  where
    with-true : (b : Bool) → (b && true) ≡ b
    with-true true = refl
    with-true false = refl
