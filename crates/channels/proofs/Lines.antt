-- ONE TUNNEL: the two channels and what is under way between them. Runs of statuses count as one. The lines that can come about are found by search, and one computation shows that nothing leads out of them and that whatever is under way can be taken. Assumes nothing.
use Prim.Native.Nat.{ℕ, zero, suc, ◌<◌}
use mathlib.Core.Path.{◌≡◌, refl, sym, ap, ap₂, ◌∙◌}
use mathlib.Core.Bool.{Bool, true, false, cond, not, ◌&&◌, ◌||◌}
use mathlib.Core.List.{List, [], ◌∷◌, ◌++◌}
use native.Mathlib.Omega.{arith}
use lib.Dec.{T, eqb, eqb→eq, lit<}
use borrow.Author.Tests.{eqb-true}
use Rattle.channels.specs.Channels.{closing3, end_chan, no_state, follows}
use Rattle.channels.proofs.Table.{step-known}

-- WORDS: the kinds of the signals under way, a run of statuses written once
abbrev join : ℕ → List ℕ → List ℕ
join x [] = x ∷ []
join x (y ∷ w) = cond (eqb x 6 && eqb y 6) (y ∷ w) (x ∷ y ∷ w)

abbrev pub squash : List ℕ → List ℕ
squash [] = []
squash (x ∷ w) = join x (squash w)

-- LINES, seen from one end: its channel, the other's, the word towards it, the word from it
pub record Line : Type 0 where
  pub mine : ℕ
  pub theirs : ℕ
  pub come : List ℕ
  pub go : List ℕ

abbrev pub line : ℕ → ℕ → List ℕ → List ℕ → Line
line a b w v = record { mine = a; theirs = b; come = w; go = v }

-- the line that an end sees, as the opener sees it
abbrev pub seen : Bool → Line → Line
seen true l = l
seen false l = line l.theirs l.mine l.go l.come

abbrev same_words : List ℕ → List ℕ → Bool
same_words [] [] = true
same_words [] (y ∷ v) = false
same_words (x ∷ w) [] = false
same_words (x ∷ w) (y ∷ v) = eqb x y && same_words w v

abbrev same : Line → Line → Bool
same l m = elim (eqb l.mine m.mine && eqb l.theirs m.theirs) [ true ↦ same_words l.come m.come && same_words l.go m.go | false ↦ false ]

abbrev pub has : List Line → Line → Bool
has [] l = false
has (m ∷ ms) l = elim (same m l) [ true ↦ true | false ↦ has ms l ]

abbrev every : (Line → Bool) → List Line → Bool
every f [] = true
every f (l ∷ ls) = f l && every f ls

-- THE SEARCH
-- what an end's step leads to, if there is one
abbrev to : ℕ → Line → List Line
to n l = cond (eqb n 9) [] (l ∷ [])

abbrev sending : Bool → Line → ℕ → List Line
sending o l k = let n = follows o true l.mine k in to n (seen o (line n l.theirs l.come (squash (l.go ++ k ∷ []))))

abbrev sendings : Bool → Line → List ℕ → List Line
sendings o l [] = []
sendings o l (k ∷ ks) = sending o l k ++ sendings o l ks

-- a status that is taken may have been the last of its run, or not
abbrev runs : Bool → ℕ → ℕ → ℕ → List ℕ → List ℕ → List Line
runs o n b k w v = cond (eqb k 6) (seen o (line n b (k ∷ w) v) ∷ []) []

abbrev taking : Bool → ℕ → ℕ → List ℕ → List ℕ → List Line
taking o a b [] v = []
taking o a b (k ∷ w) v = let n = follows o false a k in seen o (line n b w v) ∷ runs o n b k w v

abbrev kinds : List ℕ
kinds = 0 ∷ 1 ∷ 2 ∷ 3 ∷ 4 ∷ 5 ∷ 6 ∷ []

abbrev by : Bool → Line → List Line
by o l = sendings o l kinds ++ taking o l.mine l.theirs l.come l.go

abbrev next : Line → List Line
next l = by true l ++ by false (seen false l)

abbrev search-from : ℕ → List Line → List Line → List Line
search-from zero todo found = found
search-from (suc n) [] found = found
search-from (suc n) (l ∷ todo) found = elim (has found l) [ true ↦ search-from n todo found | false ↦ search-from n (next l ++ todo) (l ∷ found) ]

-- a tunnel unused at both ends; and one past the last, in which no channel has a state
abbrev starts : List Line
starts = line 0 0 [] [] ∷ line 9 9 [] [] ∷ []

pub lines : List Line
unfolding follows
lines = search-from 1000 starts []

-- THE COMPUTATION
abbrev fits : Bool → ℕ → List ℕ → Bool
fits o a [] = true
fits o a (k ∷ w) = not (eqb (follows o false a k) 9)

abbrev fine : List Line → Line → Bool
fine ls l = every (has ls) (next l) && (fits true l.mine l.come && fits false l.theirs l.go)

abbrev closed : List Line → Bool
closed ls = every (has ls) starts && every (fine ls) ls

lines-closed : T (closed lines)
unfolding lines follows
lines-closed = tt

-- WHAT IT SHOWS
and_left : (a b : Bool) → T (a && b) → T a
and_left true b t = tt
and_left false b t = absurd t

and_right : (a b : Bool) → T (a && b) → T b
and_right true b t = t
and_right false b t = absurd t

same_word : (w v : List ℕ) → T (same_words w v) → w ≡ v
same_word [] [] t = refl
same_word [] (y ∷ v) t = absurd t
same_word (x ∷ w) [] t = absurd t
same_word (x ∷ w) (y ∷ v) t = ap₂ ◌∷◌ (eqb→eq x y (and_left (eqb x y) (same_words w v) t)) (same_word w v (and_right (eqb x y) (same_words w v) t))

same_line : (l m : Line) → T (same l m) → l ≡ m
same_line l m t = go (eqb l.mine m.mine && eqb l.theirs m.theirs) refl t
  where
    go : (b : Bool) → (eqb l.mine m.mine && eqb l.theirs m.theirs) ≡ b
        → T (elim b [ true ↦ same_words l.come m.come && same_words l.go m.go | false ↦ false ]) → l ≡ m
    go true e t =
        let n : T (eqb l.mine m.mine && eqb l.theirs m.theirs) = rw e tt in
        let p = eqb→eq l.mine m.mine (and_left (eqb l.mine m.mine) (eqb l.theirs m.theirs) n) in
        let q = eqb→eq l.theirs m.theirs (and_right (eqb l.mine m.mine) (eqb l.theirs m.theirs) n) in
        let r = same_word l.come m.come (and_left (same_words l.come m.come) (same_words l.go m.go) t) in
        let s = same_word l.go m.go (and_right (same_words l.come m.come) (same_words l.go m.go) t) in
        λ i. record { mine = p i; theirs = q i; come = r i; go = s i }
    go false e t = absurd t

every-at : (f : Line → Bool) (ls : List Line) (l : Line) → T (every f ls) → T (has ls l) → T (f l)
every-at f [] l t h = absurd h
every-at f (m ∷ ms) l t h = go (same m l) refl h (every-at f ms l (and_right (f m) (every f ms) t))
  where
    go : (b : Bool) → same m l ≡ b → T (elim b [ true ↦ true | false ↦ has ms l ]) → (T (has ms l) → T (f l)) → T (f l)
    go true e h ih = rw (same_line m l (rw e tt)) at (and_left (f m) (every f ms) t)
    go false e h ih = ih h

every_append : (f : Line → Bool) (xs ys : List Line) → T (every f (xs ++ ys)) → T (every f xs) × T (every f ys)
every_append f [] ys t = (tt, t)
every_append f (x ∷ xs) ys t = go (f x) t (every_append f xs ys)
  where
    go : (b : Bool) → T (b && every f (xs ++ ys)) → (T (every f (xs ++ ys)) → T (every f xs) × T (every f ys)) → T (b && every f xs) × T (every f ys)
    go true t ih = ih t
    go false t ih = absurd t

-- one of several kinds
abbrev among : ℕ → List ℕ → Bool
among k [] = false
among k (j ∷ js) = elim (eqb j k) [ true ↦ true | false ↦ among k js ]

every-sending : (f : Line → Bool) (o : Bool) (l : Line) (k : ℕ) (ks : List ℕ) → T (every f (sendings o l ks)) → T (among k ks) → T (every f (sending o l k))
every-sending f o l k [] t h = absurd h
every-sending f o l k (j ∷ js) t h =
    let p = every_append f (sending o l j) (sendings o l js) t in
    go (eqb j k) refl h p.0 (every-sending f o l k js p.1)
  where
    go : (b : Bool) → eqb j k ≡ b → T (elim b [ true ↦ true | false ↦ among k js ]) → T (every f (sending o l j))
        → (T (among k js) → T (every f (sending o l k))) → T (every f (sending o l k))
    go true e h p ih = rw (eqb-true j k e) at p
    go false e h p ih = ih h

a-kind : (k : ℕ) → k < 7 → T (among k kinds)
a-kind zero h = tt
a-kind (suc zero) h = tt
a-kind (suc (suc zero)) h = tt
a-kind (suc (suc (suc zero))) h = tt
a-kind (suc (suc (suc (suc zero)))) h = tt
a-kind (suc (suc (suc (suc (suc zero))))) h = tt
a-kind (suc (suc (suc (suc (suc (suc zero)))))) h = tt
a-kind (suc (suc (suc (suc (suc (suc (suc k))))))) h = absurd (omega arith)

fine-at : (l : Line) → T (has lines l) → T (fine lines l)
fine-at l h = every-at (fine lines) lines l (and_right (every (has lines) starts) (every (fine lines) lines) lines-closed) h

-- what an end's step leads to is among the lines
by-at : (o : Bool) (l : Line) → T (has lines (seen o l)) → T (every (has lines) (by o l))
by-at true l h = (every_append (has lines) (by true l) (by false (seen false l)) (and_left (every (has lines) (next l)) _ (fine-at l h))).0
by-at false l h = (every_append (has lines) (by true (seen false l)) (by false l) (and_left (every (has lines) (next (seen false l))) _ (fine-at (seen false l) h))).1

fits-at : (o : Bool) (l : Line) → T (has lines (seen o l)) → T (fits o l.mine l.come)
fits-at true l h =
    and_left (fits true l.mine l.come) (fits false l.theirs l.go)
    (and_right (every (has lines) (next l)) (fits true l.mine l.come && fits false l.theirs l.go) (fine-at l h))
fits-at false l h =
    and_right (fits true l.theirs l.go) (fits false l.mine l.come)
    (and_right (every (has lines) (next (seen false l))) (fits true l.theirs l.go && fits false l.mine l.come) (fine-at (seen false l) h))

-- RUNS OF STATUSES
join-twice : (y z : ℕ) (q : List ℕ) → (eqb y 6 && eqb z 6) ≡ true → join y (join z q) ≡ join z q
join-twice y z [] e = rw e
join-twice y z (x ∷ q) e = go (eqb z 6 && eqb x 6) refl
  where
    go : (b : Bool) → (eqb z 6 && eqb x 6) ≡ b → join y (cond b (x ∷ q) (z ∷ x ∷ q)) ≡ cond b (x ∷ q) (z ∷ x ∷ q)
    go true f =
        let y6 : T (eqb y 6) = and_left (eqb y 6) (eqb z 6) (rw e tt) in
        let x6 : T (eqb x 6) = and_right (eqb z 6) (eqb x 6) (rw f tt) in
        rw (eqb→eq y 6 y6, eqb→eq x 6 x6)
    go false f = rw e

squash-join : (y : ℕ) (s : List ℕ) (k : ℕ) → squash (join y s ++ k ∷ []) ≡ join y (squash (s ++ k ∷ []))
squash-join y [] k = refl
squash-join y (z ∷ s) k = go (eqb y 6 && eqb z 6) refl
  where
    go : (b : Bool) → (eqb y 6 && eqb z 6) ≡ b → squash (cond b (z ∷ s) (y ∷ z ∷ s) ++ k ∷ []) ≡ join y (join z (squash (s ++ k ∷ [])))
    go true e = sym (join-twice y z (squash (s ++ k ∷ [])) e)
    go false e = refl

squash-add : (w : List ℕ) (k : ℕ) → squash (squash w ++ k ∷ []) ≡ squash (w ++ k ∷ [])
squash-add [] k = refl
squash-add (y ∷ w) k = squash-join y (squash w) k ∙ ap (join y) (squash-add w k)

-- one under way can be taken
runs_on : (o : Bool) (n b k : ℕ) (w v : List ℕ) → eqb k 6 ≡ true → T (every (has lines) (runs o n b k w v)) → T (has lines (seen o (line n b (k ∷ w) v)))
runs_on o n b k w v e t = and_left (has lines (seen o (line n b (k ∷ w) v))) true (rw e at t)

taken : (o : Bool) (a b k : ℕ) (s v : List ℕ) → T (has lines (seen o (line a b (join k s) v)))
    → T (not (eqb (follows o false a k) 9)) × T (has lines (seen o (line (follows o false a k) b s v)))
taken o a b k [] v h =
    let l : Line = line a b (k ∷ []) v in
    let t = (every_append (has lines) (sendings o l kinds) (taking o a b (k ∷ []) v) (by-at o l h)).1 in
    (fits-at o l h, and_left (has lines (seen o (line (follows o false a k) b [] v))) (every (has lines) (runs o (follows o false a k) b k [] v)) t)
taken o a b k (y ∷ s) v h = go (eqb k 6 && eqb y 6) refl h
  where
    go : (c : Bool) → (eqb k 6 && eqb y 6) ≡ c → T (has lines (seen o (line a b (cond c (y ∷ s) (k ∷ y ∷ s)) v)))
        → T (not (eqb (follows o false a k) 9)) × T (has lines (seen o (line (follows o false a k) b (y ∷ s) v)))
    go true e h =
        let l : Line = line a b (y ∷ s) v in
        let k6 = eqb→eq k 6 (and_left (eqb k 6) (eqb y 6) (rw e tt)) in
        let y6 = eqb→eq y 6 (and_right (eqb k 6) (eqb y 6) (rw e tt)) in
        let t = (every_append (has lines) (sendings o l kinds) (taking o a b (y ∷ s) v) (by-at o l h)).1 in
        let r = and_right (has lines (seen o (line (follows o false a y) b s v))) (every (has lines) (runs o (follows o false a y) b y s v)) t in
        rw (k6 ∙ sym y6) (fits-at o l h, runs_on o (follows o false a y) b y s v (rw y6) r)
    go false e h =
        let l : Line = line a b (k ∷ y ∷ s) v in
        let t = (every_append (has lines) (sendings o l kinds) (taking o a b (k ∷ y ∷ s) v) (by-at o l h)).1 in
        (fits-at o l h, and_left (has lines (seen o (line (follows o false a k) b (y ∷ s) v))) (every (has lines) (runs o (follows o false a k) b k (y ∷ s) v)) t)

-- THE INVARIANT OF A TUNNEL, seen from an end: is it the opener? its channel, the other's, the kinds under way to it and from it
pub record Fit (o : Bool) (a b : ℕ) (w v : List ℕ) : Type 0 where
  pub line-is : T (has lines (seen o (line a b (squash w) (squash v))))

started : T (every (has lines) starts)
started = and_left (every (has lines) starts) (every (fine lines) lines) lines-closed

pub fit-unused : (o : Bool) → Fit o 0 0 [] []
fit-unused true = record { line-is = and_left (has lines (line 0 0 [] [])) (has lines (line 9 9 [] []) && true) started }
fit-unused false = record { line-is = and_left (has lines (line 0 0 [] [])) (has lines (line 9 9 [] []) && true) started }

pub fit-nowhere : (o : Bool) → Fit o 9 9 [] []
fit-nowhere true = record { line-is = and_left (has lines (line 9 9 [] [])) true (and_right (has lines (line 0 0 [] [])) (has lines (line 9 9 [] []) && true) started) }
fit-nowhere false = record { line-is = and_left (has lines (line 9 9 [] [])) true (and_right (has lines (line 0 0 [] [])) (has lines (line 9 9 [] []) && true) started) }

pub fit-turned : (o : Bool) {a b : ℕ} {w v : List ℕ} → Fit o a b w v → Fit (not o) b a v w
fit-turned true f = record { line-is = f.line-is }
fit-turned false f = record { line-is = f.line-is }

-- a channel signal is sent where the channel has a step for it
pub fit-sends : {o : Bool} {a b : ℕ} {w v : List ℕ} (k : ℕ) → eqb (follows o true a k) 9 ≡ false → Fit o a b w v
    → Fit o (follows o true a k) b w (v ++ k ∷ [])
fit-sends {o} {a} {b} {w} {v} k n f =
    let l : Line = line a b (squash w) (squash v) in
    let s = every-sending (has lines) o l k kinds (every_append (has lines) (sendings o l kinds) _ (by-at o l f.line-is)).0 (a-kind k (step-known o true a k n).1) in
    record {
      line-is = rw (← squash-add v k) (and_left (has lines (seen o (line (follows o true a k) b (squash w) (squash (squash v ++ k ∷ []))))) true (rw n at s));
    }

-- one under way can be taken
pub fit-takes : {o : Bool} {a b : ℕ} {k : ℕ} {w v : List ℕ} → Fit o a b (k ∷ w) v
    → T (not (eqb (follows o false a k) 9)) × Fit o (follows o false a k) b w v
fit-takes {o} {a} {b} {k} {w} {v} f =
    let t = taken o a b k (squash w) (squash v) f.line-is in
    (t.0, record { line-is = t.1 })

-- WHERE A CHANNEL CAN GO ON: of every line one of these holds. Something is under way; an end may send; both ends are at end_chan; or one is there and the other waits in closing3, which is where the printed programs leave a channel that both ends closed at once. (The last is for tunnels past 255, which have no channel.)
abbrev some : (ℕ → Bool) → List ℕ → Bool
some f [] = false
some f (k ∷ ks) = f k || some f ks

abbrev filled : List ℕ → Bool
filled [] = false
filled (k ∷ w) = true

abbrev may_send : Bool → ℕ → ℕ → Bool
may_send o a k = not (eqb (follows o true a k) 9)

abbrev pair : ℕ → ℕ → Line → Bool
pair a b l = eqb l.mine a && eqb l.theirs b

abbrev under-way : Line → Bool
under-way l = filled l.come || filled l.go

abbrev one-may : Line → Bool
one-may l = some (may_send true l.mine) kinds || some (may_send false l.theirs) kinds

abbrev one_ended : Line → Bool
one_ended l = pair end_chan end_chan l || pair closing3 end_chan l

abbrev other-ended : Line → Bool
other-ended l = pair end_chan closing3 l || pair no_state no_state l

abbrev goes_on : Line → Bool
goes_on l = (under-way l || one-may l) || (one_ended l || other-ended l)

lines-go-on : T (every goes_on lines)
unfolding lines follows
lines-go-on = tt

-- the same seen from an end
pub data GoesOn (o : Bool) (a b : ℕ) (w v : List ℕ) : Type 0 where
  to-me : (k : ℕ) (u : List ℕ) → w ≡ k ∷ u → GoesOn o a b w v
  from-me : (k : ℕ) (u : List ℕ) → v ≡ k ∷ u → GoesOn o a b w v
  i-may : (k : ℕ) → k < 7 → T (not (eqb (follows o true a k) 9)) → GoesOn o a b w v
  they-may : (k : ℕ) → k < 7 → T (not (eqb (follows (not o) true b k) 9)) → GoesOn o a b w v
  both-ended : a ≡ end_chan → b ≡ end_chan → GoesOn o a b w v
  i-wait : a ≡ closing3 → b ≡ end_chan → GoesOn o a b w v
  they-wait : a ≡ end_chan → b ≡ closing3 → GoesOn o a b w v
  nowhere : a ≡ no_state → b ≡ no_state → GoesOn o a b w v

or_else : {C : Type 0} (a b : Bool) → T (a || b) → (T a → C) → (T b → C) → C
or_else true b t f g = f tt
or_else false b t f g = g t

pair_is : {C : Type 0} (n m : ℕ) (l : Line) → T (pair n m l) → (l.mine ≡ n → l.theirs ≡ m → C) → C
pair_is n m l t f =
    f (eqb→eq l.mine n (and_left (eqb l.mine n) (eqb l.theirs m) t)) (eqb→eq l.theirs m (and_right (eqb l.mine n) (eqb l.theirs m) t))

-- a word under way, as it is when its runs are written once
unsquashed : {C : Type 0} (w : List ℕ) → T (filled (squash w)) → ((k : ℕ) (u : List ℕ) → w ≡ k ∷ u → C) → C
unsquashed [] t f = absurd t
unsquashed (k ∷ w) t f = f k w refl

some-kind : {C : Type 0} (f : ℕ → Bool) → T (some f kinds) → ((k : ℕ) → k < 7 → T (f k) → C) → C
some-kind f t g =
    or_else (f 0) _ t (λ h. g 0 (lit< tt) h) (λ t.
    or_else (f 1) _ t (λ h. g 1 (lit< tt) h) (λ t.
    or_else (f 2) _ t (λ h. g 2 (lit< tt) h) (λ t.
    or_else (f 3) _ t (λ h. g 3 (lit< tt) h) (λ t.
    or_else (f 4) _ t (λ h. g 4 (lit< tt) h) (λ t.
    or_else (f 5) _ t (λ h. g 5 (lit< tt) h) (λ t.
    or_else (f 6) _ t (λ h. g 6 (lit< tt) h) (λ t. absurd t)))))))

opener-goes-on : {a b : ℕ} {w v : List ℕ} → Fit true a b w v → GoesOn true a b w v
opener-goes-on {a} {b} {w} {v} f =
    let l : Line = line a b (squash w) (squash v) in
    let t = every-at goes_on lines l lines-go-on f.line-is in
    or_else (under-way l || one-may l) (one_ended l || other-ended l) t
    (λ t.
    or_else (under-way l) (one-may l) t
    (λ t. or_else (filled (squash w)) (filled (squash v)) t (λ t. unsquashed w t to-me) (λ t. unsquashed v t from-me))
    (λ t. or_else (some (may_send true a) kinds) (some (may_send false b) kinds) t (λ t. some-kind (may_send true a) t i-may) (λ t. some-kind (may_send false b) t they-may)))
    (λ t.
    or_else (one_ended l) (other-ended l) t
    (λ t. or_else (pair end_chan end_chan l) (pair closing3 end_chan l) t (λ t. pair_is end_chan end_chan l t both-ended) (λ t. pair_is closing3 end_chan l t i-wait))
    (λ t. or_else (pair end_chan closing3 l) (pair no_state no_state l) t (λ t. pair_is end_chan closing3 l t they-wait) (λ t. pair_is no_state no_state l t nowhere)))

turned_on : {a b : ℕ} {w v : List ℕ} → GoesOn true b a v w → GoesOn false a b w v
turned_on (to-me k u p) = from-me k u p
turned_on (from-me k u p) = to-me k u p
turned_on (i-may k h p) = they-may k h p
turned_on (they-may k h p) = i-may k h p
turned_on (both-ended p q) = both-ended q p
turned_on (i-wait p q) = they-wait q p
turned_on (they-wait p q) = i-wait q p
turned_on (nowhere p q) = nowhere q p

pub fit-goes-on : (o : Bool) {a b : ℕ} {w v : List ℕ} → Fit o a b w v → GoesOn o a b w v
fit-goes-on true f = opener-goes-on f
fit-goes-on false f = turned_on (opener-goes-on (fit-turned false f))
