-- The table of box numbers (`Table.antt`) says what L17 and L18 ask: a subscriber fits in beside those before it exactly where no number is shared that may not be.
-- Assumes nothing.
use mathlib.Core.Path.{◌≡◌, refl, sym, ap, ◌∙◌}
use mathlib.Core.Logic.{◌⊎◌, inl, inr, ⊎_elim}
use mathlib.Core.Bool.{Bool, true, false, not, ◌&&◌, ◌||◌, cond}
use mathlib.Core.List.{List, [], ◌∷◌}
use Prim.Native.Nat.{ℕ, zero, suc, ◌+◌, ◌≤◌, ◌<◌, ◌/◌}
use native.Mathlib.Nat.{not-suc-le-zero, zero-lt-suc, lt-suc_self, lt_trans}
use native.Mathlib.Numerals.{add-one}
use native.Mathlib.Omega.{arith}
use lib.Dec.{eqb, ltb, leb-suc-suc}
use lib.ListN.{length, get_or, take, drop, replicate, length-take, drop_of_length-le, length-replicate}
use lib.Seq.{drop-cons, get_or-take}
use borrow.Author.Tests.{eqb-true, eq-eqb, ltb-true, lt-ltb}
use Rattle.typeset.specs.Sets.{some, implies}
use Rattle.typeset.proofs.Bools.{yes_or_no, clash, both_ways, fails, and_left, and_right, and-make, or_cases, or_left, or_right, not-true, not_of_false, imp-at, imp-of}
use Rattle.typeset.proofs.Below.{every-at, every_of, some_of, some_at, some-ext}
use Rattle.typeset.proofs.Laws.{split}
use Rattle.plan.specs.declared.Subscriber.{Subscriber}
use Rattle.plan.specs.Parts.{at, box}
use Rattle.plan.specs.Rules.{holds, shares, lines_apart, one_kind}
use Rattle.plan.specs.Sound.{numbers_apart}
use Rattle.plan.specs.Table.{holder, entered, may_take, fits, takes, claimed}
use Rattle.plan.proofs.Words.{entered-own, entered-other, entered-length, holder-none}

-- ---- the loop of `soundness::claim`

-- what the numbers from place x on still do to the table
unfoldable pub rest : List ℕ → Subscriber → ℕ → List ℕ
rest taken s x = takes taken s.kind (drop x (take s.count s.boxes))

pub rest_all : (taken : List ℕ) (s : Subscriber) → rest taken s 0 ≡ claimed taken s
unfolding rest claimed
rest_all taken s = refl

pub rest-next : (taken : List ℕ) (s : Subscriber) (x : ℕ) → length s.boxes ≡ 4 → x < 4 → x < s.count
    → rest taken s x ≡ rest (entered taken (box s x) s.kind) s (x + 1)
unfolding rest takes
rest-next taken s x long h l =
    let inside : x < length (take s.count s.boxes) = simp (length-take, long) (omega arith) in
    rw (drop-cons (take s.count s.boxes) x 0 inside, get_or-take s.count s.boxes x 0 l, add-one x)

pub rest-past : (taken : List ℕ) (s : Subscriber) (x : ℕ) → s.count ≤ x → rest taken s x ≡ taken
unfolding rest takes
rest-past taken s x h =
    let short : length (take s.count s.boxes) ≤ x = simp length-take (omega arith) in
    rw (drop_of_length-le (take s.count s.boxes) short)

pub rest-skip : (taken : List ℕ) (s : Subscriber) (x : ℕ) → s.count ≤ x → rest taken s x ≡ rest taken s (x + 1)
rest-skip taken s x h = rest-past taken s x h ∙ sym (rest-past taken s (x + 1) (omega arith))

pub rest-done : (taken : List ℕ) (s : Subscriber) → length s.boxes ≡ 4 → rest taken s 4 ≡ taken
unfolding rest takes
rest-done taken s long =
    let short : length (take s.count s.boxes) ≤ 4 = simp (length-take, long) (omega arith) in
    rw (drop_of_length-le (take s.count s.boxes) short)

-- a subscriber that has no number, and one that has one
pub claimed-none : (taken : List ℕ) (s : Subscriber) → s.count ≡ 0 → claimed taken s ≡ taken
claimed-none taken s e = sym (rest_all taken s) ∙ rest-past taken s 0 (omega arith)

pub claimed-one : (taken : List ℕ) (s : Subscriber) → length s.boxes ≡ 4 → s.count ≡ 1 → claimed taken s ≡ entered taken (box s 0) s.kind
claimed-one taken s long e =
    sym (rest_all taken s) ∙ rest-next taken s 0 long (omega arith) (omega arith) ∙ rest-past (entered taken (box s 0) s.kind) s 1 (omega arith)

-- ---- what the table holds

-- n is one of some numbers
unfoldable elem : ℕ → List ℕ → Bool
elem n [] = false
elem n (m ∷ ms) = eqb m n || elem n ms

-- after a kind takes some numbers, each of them has that kind, and the others are as they were
takes-length : (taken : List ℕ) (kind : ℕ) (ns : List ℕ) → length (takes taken kind ns) ≡ length taken
unfolding takes
takes-length taken kind [] = refl
takes-length taken kind (m ∷ ms) = takes-length (entered taken m kind) kind ms ∙ entered-length taken m kind

-- a number that a kind may take: nobody has it, or only the kind itself
abbrev pub Open : List ℕ → ℕ → ℕ → Type 0
Open taken kind n = (holder taken n ≡ 0) ⊎ (holder taken n ≡ kind)

entered_at : (taken : List ℕ) (m n kind : ℕ) → kind < 4 → m / 16 < length taken → Open taken kind m → holder (entered taken m kind) n ≡ cond (eqb m n) kind (holder taken n)
entered_at taken m n kind k h o =
    ⊎_elim
    (λ e. rw e (ap (holder (entered taken m kind)) (sym (eqb-true m n e)) ∙ entered-own taken kind m k h o))
    (λ e. rw e (entered-other taken kind m k h n e))
    (yes_or_no (eqb m n))

-- what may be taken may be taken after an entry of the kind too
still_open : (taken : List ℕ) (m n kind : ℕ) → kind < 4 → m / 16 < length taken → Open taken kind m → Open taken kind n → Open (entered taken m kind) kind n
still_open taken m n kind k h o p =
    ⊎_elim
    (λ e. inr (entered_at taken m n kind k h o ∙ rw e))
    (λ e. ⊎_elim (λ q. inl (entered_at taken m n kind k h o ∙ rw e q)) (λ q. inr (entered_at taken m n kind k h o ∙ rw e q)) p)
    (yes_or_no (eqb m n))

-- each of some numbers has its place in the table and may be taken
unfoldable AllOpen : List ℕ → ℕ → List ℕ → Type 0
AllOpen taken kind [] = Unit
AllOpen taken kind (n ∷ ns) = (n / 16 < length taken) × Open taken kind n × AllOpen taken kind ns

all-still : (taken : List ℕ) (m kind : ℕ) (ns : List ℕ) → kind < 4 → m / 16 < length taken → Open taken kind m → AllOpen taken kind ns → AllOpen (entered taken m kind) kind ns
unfolding AllOpen
all-still taken m kind [] k h o a = tt
all-still taken m kind (n ∷ ns) k h o a = (rw (entered-length taken m kind) a.0, still_open taken m n kind k h o a.1, all-still taken m kind ns k h o a.2)

cond-or : {A : Type 0} (a b : Bool) (x y : A) → cond b x (cond a x y) ≡ cond (a || b) x y
cond-or true true x y = refl
cond-or true false x y = refl
cond-or false b x y = refl

takes_at : (taken : List ℕ) (kind : ℕ) (ns : List ℕ) (n : ℕ) → kind < 4 → AllOpen taken kind ns → holder (takes taken kind ns) n ≡ cond (elem n ns) kind (holder taken n)
unfolding takes elem AllOpen
takes_at taken kind [] n k a = refl
takes_at taken kind (m ∷ ms) n k a =
    takes_at (entered taken m kind) kind ms n k (all-still taken m kind ms k a.0 a.1 a.2)
    ∙ ap (λ (x : ℕ). cond (elem n ms) kind x) (entered_at taken m n kind k a.0 a.1) ∙ cond-or (eqb m n) (elem n ms) kind (holder taken n)

-- the first c of some numbers, place by place
elem-take : (c n : ℕ) (l : List ℕ) → elem n (take c l) ≡ some (length l) (λ x. ltb x c && eqb (get_or l x 0) n)
unfolding some elem
elem-take zero n l =
    sym (fails (some (length l) (λ x. ltb x 0 && eqb (get_or l x 0) n)) (λ e.
    let r = some_at (length l) (λ x. ltb x 0 && eqb (get_or l x 0) n) e in
    not-suc-le-zero (ltb-true r.0 0 (and_left (ltb r.0 0) (eqb (get_or l r.0 0) n) r.2))))
elem-take (suc c) n [] = refl
elem-take (suc c) n (m ∷ ms) =
    ap (λ (b : Bool). eqb m n || b)
    (elem-take c n ms ∙ some-ext (length ms) _ _ (λ x h. ap (λ (b : Bool). b && eqb (get_or ms x 0) n) (sym (leb-suc-suc (suc x) c))))
    ∙ ap (λ (b : Bool). (b && eqb m n) || some (length ms) (λ x. ltb (suc x) (suc c) && eqb (get_or ms x 0) n))
    (sym (lt-ltb 0 (suc c) (zero-lt-suc c)))

-- so are the first c of some numbers, where each of these is
all-open : (taken : List ℕ) (kind c : ℕ) (l : List ℕ) → ((x : ℕ) → x < length l → x < c → (get_or l x 0 / 16 < length taken) × Open taken kind (get_or l x 0)) → AllOpen taken kind (take c l)
unfolding AllOpen
all-open taken kind zero l f = tt
all-open taken kind (suc c) [] f = tt
all-open taken kind (suc c) (n ∷ ns) f = ((f 0 (omega arith) (omega arith)).0, (f 0 (omega arith) (omega arith)).1, all-open taken kind c ns (λ x h k. f (suc x) (omega (arith, h)) (omega (arith, k))))

-- what a subscriber's numbers are for the table: they have their places in it, and its kind its two bits, if there are any
pub record Numbered (s : Subscriber) : Type 0 where
  pub four : length s.boxes ≡ 4
  pub small : (y : ℕ) → y < 4 → ltb y s.count ≡ true → box s y < 65536
  pub low : (s.kind < 4) ⊎ (s.count ≡ 0)

may-open : (taken : List ℕ) (kind n : ℕ) → may_take taken kind n ≡ true → Open taken kind n
unfolding may_take
may-open taken kind n e =
    ⊎_elim (λ z. inl (eqb-true (holder taken n) 0 z)) (λ r. inr (eqb-true (holder taken n) kind (and_left (eqb (holder taken n) kind) (not (eqb kind 1)) r)))
    (or_cases (eqb (holder taken n) 0) (eqb (holder taken n) kind && not (eqb kind 1)) e)

fits-open : (taken : List ℕ) (s : Subscriber) → length taken ≡ 4096 → Numbered s → fits taken s ≡ true → AllOpen taken s.kind (take s.count s.boxes)
unfolding fits
fits-open taken s long 𝓝 e =
    all-open taken s.kind s.count s.boxes (λ x h l.
    let four : x < 4 = rw 𝓝.four at h in
    let counted = lt-ltb x s.count l in
    let number = 𝓝.small x four counted in
    let place : box s x / 16 < 4096 = omega (arith, number) in (
      rw long place,
      may-open taken s.kind (box s x) (imp-at (ltb x s.count) (may_take taken s.kind (box s x)) (every-at 4 (λ x. implies (ltb x s.count) (may_take taken s.kind (box s x))) e x four) counted),
    ))

takes_none : (taken : List ℕ) (kind c : ℕ) (l : List ℕ) (n : ℕ) → c ≡ 0 → holder (takes taken kind (take c l)) n ≡ cond (elem n (take c l)) kind (holder taken n)
unfolding takes elem
takes_none taken kind zero l n e = refl
takes_none taken kind (suc c) l n e = absurd (omega (arith, e))

-- the table after a subscriber that fits in took its numbers
pub claimed-at : (taken : List ℕ) (s : Subscriber) (n : ℕ) → length taken ≡ 4096 → Numbered s → fits taken s ≡ true
    → holder (claimed taken s) n ≡ cond (holds n s) s.kind (holder taken n)
unfolding claimed holds
claimed-at taken s n long 𝓝 e =
    ⊎_elim (λ k. takes_at taken s.kind (take s.count s.boxes) n k (fits-open taken s long 𝓝 e)) (λ z. takes_none taken s.kind s.count s.boxes n z) 𝓝.low
    ∙ ap (λ (b : Bool). cond b s.kind (holder taken n))
    (elem-take s.count n s.boxes ∙ ap (λ (k : ℕ). some k (λ x. ltb x s.count && eqb (box s x) n)) 𝓝.four)

pub claimed-length : (taken : List ℕ) (s : Subscriber) → length (claimed taken s) ≡ length taken
unfolding claimed
claimed-length taken s = takes-length taken s.kind (take s.count s.boxes)

-- the kind of the last of the first i subscribers that has the number n, 0 where none has it
unfoldable pub last_kind : List Subscriber → ℕ → ℕ → ℕ
last_kind subs zero n = 0
last_kind subs (suc i) n = cond (holds n (at subs i)) (at subs i).kind (last_kind subs i n)

-- the table that the first i subscribers leave
pub record Taken (taken : List ℕ) (subs : List Subscriber) (i : ℕ) : Type 0 where
  pub long : length taken ≡ 4096
  pub kinds : (n : ℕ) → n < 65536 → holder taken n ≡ last_kind subs i n

pub taken_none : (subs : List Subscriber) → Taken (replicate 4096 0) subs 0
unfolding last_kind
taken_none subs = record { long = length-replicate {A = ℕ} 4096 0; kinds = holder-none }

pub taken_next : (taken : List ℕ) (subs : List Subscriber) (i : ℕ) → Numbered (at subs i) → fits taken (at subs i) ≡ true → Taken taken subs i
    → Taken (claimed taken (at subs i)) subs (i + 1)
unfolding last_kind
taken_next taken subs i 𝓝 e 𝓣 =
    rw (add-one i) record {
      long = claimed-length taken (at subs i) ∙ 𝓣.long;
      kinds = λ n h. claimed-at taken (at subs i) n 𝓣.long 𝓝 e ∙ ap (cond (holds n (at subs i)) (at subs i).kind) (𝓣.kinds n h);
    }

-- ---- two subscribers that have a number share it

pub shares_of : (n : ℕ) (a b : Subscriber) → holds n a ≡ true → holds n b ≡ true → shares a b ≡ true
unfolding holds shares
shares_of n a b p q =
    let r = some_at 4 (λ x. ltb x a.count && eqb (box a x) n) p in
    let e : box a r.0 ≡ n = eqb-true (box a r.0) n (and_right (ltb r.0 a.count) (eqb (box a r.0) n) r.2) in
    some_of 4 (λ x. ltb x a.count && holds (box a x) b) r.0 r.1
    (and-make (and_left (ltb r.0 a.count) (eqb (box a r.0) n) r.2) (ap (λ (m : ℕ). holds m b) e ∙ q))

-- and two that share one have it, at a place of the second
pub shares_at : (a b : Subscriber) → shares a b ≡ true
    → (y : ℕ) × (y < 4) × (ltb y b.count ≡ true) × (holds (box b y) a ≡ true)
unfolding holds shares
shares_at a b p =
    let r = some_at 4 (λ x. ltb x a.count && holds (box a x) b) p in
    let low : ltb r.0 a.count ≡ true = and_left (ltb r.0 a.count) (holds (box a r.0) b) r.2 in
    let q = some_at 4 (λ y. ltb y b.count && eqb (box b y) (box a r.0)) (and_right (ltb r.0 a.count) (holds (box a r.0) b) r.2) in
    let same : eqb (box b q.0) (box a r.0) ≡ true = and_right (ltb q.0 b.count) (eqb (box b q.0) (box a r.0)) q.2 in (
      q.0,
      q.1,
      and_left (ltb q.0 b.count) (eqb (box b q.0) (box a r.0)) q.2,
      some_of 4 (λ x. ltb x a.count && eqb (box a x) (box b q.0)) r.0 r.1
          (and-make low (eq-eqb (box a r.0) (box b q.0) (sym (eqb-true (box b q.0) (box a r.0) same)))),
    )

pub holds-own : (s : Subscriber) (y : ℕ) → y < 4 → ltb y s.count ≡ true → holds (box s y) s ≡ true
unfolding holds
holds-own s y h l = some_of 4 (λ x. ltb x s.count && eqb (box s x) (box s y)) y h (and-make l (eq-eqb (box s y) (box s y) refl))

-- ---- the last kind

-- there is none, or it is the kind of one who has the number
last-is : (subs : List Subscriber) (i n : ℕ)
    → (last_kind subs i n ≡ 0) ⊎ ((j : ℕ) × (j < i) × (holds n (at subs j) ≡ true) × (last_kind subs i n ≡ (at subs j).kind))
unfolding last_kind
last-is subs zero n = inl refl
last-is subs (suc i) n =
    ⊎_elim
    (λ e. inr (i, lt-suc_self i, e, rw e))
    (λ e. ⊎_elim (λ z. inl (rw e z)) (λ r. inr (r.0, lt_trans r.1 (lt-suc_self i), r.2, rw e r.3)) (last-is subs i n))
    (yes_or_no (holds n (at subs i)))

-- a rule of two subscribers holds among the first i
abbrev pub Among : (Subscriber → Subscriber → Bool) → List Subscriber → ℕ → Type 0
Among rule subs i = (j k : ℕ) → j < k → k < i → rule (at subs j) (at subs k) ≡ true

-- and it is the kind of each who has the number
last-kind : (subs : List Subscriber) (i n j : ℕ) → Among one_kind subs i → j < i → holds n (at subs j) ≡ true
    → last_kind subs i n ≡ (at subs j).kind
unfolding last_kind one_kind
last-kind subs zero n j apart h e = absurd (not-suc-le-zero h)
last-kind subs (suc i) n j apart h e =
    let within_first : Among one_kind subs i = λ a b ab bi. apart a b ab (lt_trans bi (lt-suc_self i)) in
    ⊎_elim
    (λ here. rw here
    (⊎_elim
    (λ (l : j < i). sym (eqb-true (at subs j).kind (at subs i).kind (imp-at (shares (at subs j) (at subs i)) (eqb (at subs j).kind (at subs i).kind)
    (apart j i l (lt-suc_self i)) (shares_of n (at subs j) (at subs i) e here))))
    (λ (l : i ≤ j). let same : i ≡ j = omega arith in ap (λ (k : ℕ). (at subs k).kind) same)
    (split j i)))
    (λ gone. rw gone
    (⊎_elim
    (λ (l : j < i). last-kind subs i n j within_first l e)
    (λ (l : i ≤ j). let same : j ≡ i = omega arith in absurd (clash (ap (λ (k : ℕ). holds n (at subs k)) (sym same) ∙ e) gone))
    (split j i)))
    (yes_or_no (holds n (at subs i)))

-- ---- L17 and L18 for the subscriber at place i, read off the table

-- where two share a number: they are of one kind, and that kind is no line
abbrev pub Agree : Subscriber → Subscriber → Type 0
Agree a b = (a.kind ≡ b.kind) × (eqb b.kind 1 ≡ false)

apart_of : (a b : Subscriber) → (shares a b ≡ true → Agree a b) → (lines_apart a b && one_kind a b) ≡ true
unfolding lines_apart one_kind
apart_of a b f =
    and-make
    (not_of_false (fails (eqb a.kind 1 && eqb b.kind 1 && shares a b) (λ e.
    clash (and_right (eqb a.kind 1) (eqb b.kind 1) (and_left (eqb a.kind 1 && eqb b.kind 1) (shares a b) e))
    (f (and_right (eqb a.kind 1 && eqb b.kind 1) (shares a b) e)).1)))
    (imp-of (shares a b) (eqb a.kind b.kind) (λ e. eq-eqb a.kind b.kind (f e).0))

pub agree_at : (a b : Subscriber) → (lines_apart a b && one_kind a b) ≡ true → shares a b ≡ true → Agree a b
unfolding lines_apart one_kind
agree_at a b e sh =
    let one : a.kind ≡ b.kind =
    eqb-true a.kind b.kind (imp-at (shares a b) (eqb a.kind b.kind) (and_right (lines_apart a b) (one_kind a b) e) sh) in (
      one,
      fails (eqb b.kind 1) (λ line.
          clash (and-make (and-make (ap (λ (k : ℕ). eqb k 1) one ∙ line) line) sh)
          (not-true (eqb a.kind 1 && eqb b.kind 1 && shares a b) (and_left (lines_apart a b) (one_kind a b) e))),
    )

may-take-of : (taken : List ℕ) (kind n : ℕ) → (holder taken n ≡ 0) ⊎ ((holder taken n ≡ kind) × (eqb kind 1 ≡ false)) → may_take taken kind n ≡ true
unfolding may_take
may-take-of taken kind n (inl z) = or_left (eqb (holder taken n) kind && not (eqb kind 1)) (eq-eqb (holder taken n) 0 z)
may-take-of taken kind n (inr r) = or_right (eqb (holder taken n) 0) (and-make (eq-eqb (holder taken n) kind r.0) (not_of_false r.1))

may-take-at : (taken : List ℕ) (kind n : ℕ) → may_take taken kind n ≡ true → (holder taken n ≡ 0) ⊎ ((holder taken n ≡ kind) × (eqb kind 1 ≡ false))
unfolding may_take
may-take-at taken kind n e =
    ⊎_elim (λ z. inl (eqb-true (holder taken n) 0 z))
    (λ r. inr (
      eqb-true (holder taken n) kind (and_left (eqb (holder taken n) kind) (not (eqb kind 1)) r),
      not-true (eqb kind 1) (and_right (eqb (holder taken n) kind) (not (eqb kind 1)) r),
    ))
    (or_cases (eqb (holder taken n) 0) (eqb (holder taken n) kind && not (eqb kind 1)) e)

pub fits-is : (taken : List ℕ) (subs : List Subscriber) (i : ℕ) → Taken taken subs i → Among one_kind subs i
    → ((j : ℕ) → j < i → ¬ ((at subs j).kind ≡ 0)) → ((y : ℕ) → y < 4 → ltb y (at subs i).count ≡ true → box (at subs i) y < 65536)
    → fits taken (at subs i) ≡ numbers_apart subs i
unfolding fits numbers_apart
fits-is taken subs i 𝓣 one known small =
    let s = at subs i in
    both_ways (fits taken s) (numbers_apart subs i)
    (λ f. every_of i (λ j. lines_apart (at subs j) s && one_kind (at subs j) s) (λ j h. apart_of (at subs j) s (λ sh.
    let r = shares_at (at subs j) s sh in
    let last : holder taken (box s r.0) ≡ (at subs j).kind =
    𝓣.kinds (box s r.0) (small r.0 r.1 r.2) ∙ last-kind subs i (box s r.0) j one h r.3 in
    ⊎_elim (λ z. absurd (known j h (sym last ∙ z))) (λ p. (sym last ∙ p.0, p.1))
    (may-take-at taken s.kind (box s r.0) (imp-at (ltb r.0 s.count) (may_take taken s.kind (box s r.0))
    (every-at 4 (λ x. implies (ltb x s.count) (may_take taken s.kind (box s x))) f r.0 r.1) r.2)))))
    (λ p. every_of 4 (λ x. implies (ltb x s.count) (may_take taken s.kind (box s x))) (λ y h.
    imp-of (ltb y s.count) (may_take taken s.kind (box s y)) (λ l.
    let held = 𝓣.kinds (box s y) (small y h l) in
    may-take-of taken s.kind (box s y)
    (⊎_elim (λ z. inl (held ∙ z))
    (λ r.
    let agree = agree_at (at subs r.0) s (every-at i (λ j. lines_apart (at subs j) s && one_kind (at subs j) s) p r.0 r.1)
    (shares_of (box s y) (at subs r.0) s r.2 (holds-own s y h l)) in
    inr (held ∙ r.3 ∙ agree.0, agree.1))
    (last-is subs i (box s y))))))
