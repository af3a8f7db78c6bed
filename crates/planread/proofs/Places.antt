-- The rules of a subscriber speak of it and of those before it only; and the reader's test of the next one is those rules. Assumes nothing.
use mathlib.Core.Path.{◌≡◌, refl, sym, ap, ◌∙◌}
use mathlib.Core.Logic.{⊎_elim}
use mathlib.Core.Bool.{Bool, true, false, ◌&&◌}
use mathlib.Core.List.{List}
use Prim.Native.Nat.{ℕ, zero, suc, ◌-◌, ◌<◌}
use native.Mathlib.Nat.{lt-suc_self, lt_trans}
use native.Mathlib.Omega.{arith}
use lib.Dec.{ltb}
use lib.ListN.{length, set}
use lib.Seq.{get_or-set_same, get_or-set_other}
use borrow.Author.Tests.{lt-ltb}
use Rattle.typeset.specs.Sets.{every}
use Rattle.typeset.proofs.Bools.{yes_or_no, clash, both_ways}
use Rattle.typeset.proofs.Below.{every-at, every_of}
use Rattle.plan.specs.declared.Types.{Types}
use Rattle.plan.specs.declared.Subscriber.{Subscriber}
use Rattle.plan.specs.Parts.{at, given}
use Rattle.plan.specs.Rules.{address_given, lines_apart, one_kind, ascends}
use Rattle.plan.specs.Sound.{own_sound, numbers_apart, subscriber_sound}
use Rattle.plan.specs.Table.{fits}
use Rattle.plan.proofs.Numbers.{last_kind, Taken}
use Rattle.plan.proofs.Lookup.{zero-not-given}
use Rattle.plan.proofs.Subscribers.{own-address, fits-code}

-- the same subscribers in the first n places
abbrev pub Alike : List Subscriber → List Subscriber → ℕ → Type 0
Alike xs ys n = (j : ℕ) → j < n → at xs j ≡ at ys j

every-ext : (n : ℕ) (p q : ℕ → Bool) → ((t : ℕ) → t < n → p t ≡ q t) → every n p ≡ every n q
every-ext n p q f =
    both_ways (every n p) (every n q)
    (λ e. every_of n q (λ t h. sym (f t h) ∙ every-at n p e t h))
    (λ e. every_of n p (λ t h. f t h ∙ every-at n q e t h))

-- ---- what the first places decide

pub ascends-alike : (xs ys : List Subscriber) (i : ℕ) → Alike xs ys (suc i) → ascends xs i ≡ ascends ys i
unfolding ascends
ascends-alike xs ys i f =
    let before : i - 1 < suc i = omega arith in
    rw (f (i - 1) before, f i (lt-suc_self i))

pub apart-alike : (xs ys : List Subscriber) (i : ℕ) → Alike xs ys (suc i) → numbers_apart xs i ≡ numbers_apart ys i
unfolding numbers_apart
apart-alike xs ys i f =
    every-ext i (λ j. lines_apart (at xs j) (at xs i) && one_kind (at xs j) (at xs i)) (λ j. lines_apart (at ys j) (at ys i) && one_kind (at ys j) (at ys i))
    (λ j h. rw (f j (lt_trans h (lt-suc_self i)), f i (lt-suc_self i)))

pub sound-alike : (t : Types) (xs ys : List Subscriber) (i : ℕ) → Alike xs ys (suc i) → subscriber_sound t xs i ≡ subscriber_sound t ys i
unfolding subscriber_sound
sound-alike t xs ys i f = rw (f i (lt-suc_self i), ascends-alike xs ys i f, apart-alike xs ys i f)

pub every-alike : (t : Types) (xs ys : List Subscriber) (n : ℕ) → Alike xs ys n → every n (subscriber_sound t xs) ≡ every n (subscriber_sound t ys)
every-alike t xs ys n f =
    every-ext n (subscriber_sound t xs) (subscriber_sound t ys) (λ i h. sound-alike t xs ys i (λ j l. let m : j < n = omega arith in f j m))

last_kind-alike : (xs ys : List Subscriber) (i n : ℕ) → Alike xs ys i → last_kind xs i n ≡ last_kind ys i n
unfolding last_kind
last_kind-alike xs ys zero n f = refl
last_kind-alike xs ys (suc i) n f = rw (f i (lt-suc_self i), last_kind-alike xs ys i n (λ j h. f j (lt_trans h (lt-suc_self i))))

pub taken-alike : (taken : List ℕ) (xs ys : List Subscriber) (i : ℕ) → Alike xs ys i → Taken taken xs i → Taken taken ys i
taken-alike taken xs ys i f 𝓣 = record { long = 𝓣.long; kinds = λ n h. 𝓣.kinds n h ∙ last_kind-alike xs ys i n f }

-- ---- one more subscriber, at place i

pub set-alike : (subs : List Subscriber) (i : ℕ) (s : Subscriber) → Alike subs (set subs i s) i
set-alike subs i s j h = sym (get_or-set_other subs i j s _ (λ e. omega arith))

pub set_there : (subs : List Subscriber) (i : ℕ) (s : Subscriber) → i < length subs → at (set subs i s) i ≡ s
set_there subs i s h = get_or-set_same subs i s _ h

-- the address of the last of the first i subscribers, 0 where there is none
unfoldable pub last_address : List Subscriber → ℕ → ℕ
last_address subs zero = 0
last_address subs (suc i) = (at subs i).address

-- L19: the next one's address is above the last one's
ascends-next : (t : Types) (subs : List Subscriber) (i : ℕ) (s : Subscriber) → i < length subs → own_sound t s ≡ true
    → ascends (set subs i s) i ≡ ltb (last_address subs i) s.address
unfolding ascends last_address address_given
ascends-next t subs zero s h own =
    let some : ¬ (s.address ≡ 0) = λ z. clash (own-address t s own) (ap given z ∙ zero-not-given) in
    sym (lt-ltb 0 s.address (omega arith))
ascends-next t subs (suc i) s h own =
    let e : suc i - 1 ≡ i = omega arith in
    rw (lt-ltb 0 (suc i) (omega arith), e, set_there subs (suc i) s h, ← set-alike subs (suc i) s i (lt-suc_self i))

-- the reader's test of the next subscriber, with the table of the numbers taken, is its rules
pub keeps-is : (t : Types) (subs : List Subscriber) (i : ℕ) (s : Subscriber) (taken : List ℕ) {last : ℕ} {r : Bool} → i < length subs
    → every i (subscriber_sound t subs) ≡ true → Taken taken subs i → last ≡ last_address subs i
    → r ≡ (own_sound t s && ltb last s.address && fits taken s) → r ≡ subscriber_sound t (set subs i s) i
unfolding subscriber_sound
keeps-is t subs i s taken h e 𝓣 l q =
    ⊎_elim
    (λ own. let kept : every i (subscriber_sound t (set subs i s)) ≡ true = sym (every-alike t subs (set subs i s) i (set-alike subs i s)) ∙ e in
    let there = set_there subs i s h in
    let table = taken-alike taken subs (set subs i s) i (set-alike subs i s) 𝓣 in
    let apart : fits taken s ≡ numbers_apart (set subs i s) i =
    ap (fits taken) (sym there) ∙ fits-code t (set subs i s) i kept taken table (ap (own_sound t) there ∙ own) in
    q ∙ rw (there, own, l, apart, ascends-next t subs i s h own))
    (λ (no : own_sound t s ≡ false). q ∙ rw (set_there subs i s h, no))
    (yes_or_no (own_sound t s))
