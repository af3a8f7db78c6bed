-- Bytes that stores leave as they were; the places of a queue by their bytes; places moved down, one put in, the head taken out. Assumes nothing.
use mathlib.Core.Path.{◌≡◌, refl, sym, ap, ap₂, ◌∙◌}
use mathlib.Core.List.{List, [], ◌∷◌, ◌++◌}
use Prim.Native.Nat.{ℕ, zero, suc, ◌+◌, ◌*◌, ◌-◌, ◌≤◌, ◌<◌}
use native.Mathlib.Nat.{le_of_suc-le-suc, not-suc-le-zero}
use native.Mathlib.Omega.{arith}
use lib.ListN.{length, get_or, set, take, drop, length-set, length-drop, length-append, get_or-append}
use Rattle.std.specs.List.{copy_within}
use lib.Seq.{sets, sets-eq, length-take-le, length-sets, get_or-set_same, get_or-set_other, get_or-take, get_or-drop, get_or-append-add, lt-length-sets}
use Rattle.planwrite.proofs.Puts.{puts_then}
use Rattle.signalbytes.specs.Numbers.{signal_number}
use Rattle.signalbytes.proofs.Back.{signal-back}
use Rattle.ends.specs.declared.Signal.{Signal}
use Rattle.call.specs.Protocol as protocol
use Rattle.call.specs.Protocol.{slot, blank, push, pop}
use Rattle.recordbytes.specs.Records.{slot_at, slots_from, queue_at, bytes_from}
use Rattle.recordbytes.specs.Steps.{signal_bytes, pushed_at, popped_at}

-- ---- bytes before, past and within some stores

pub before : (vs l : List ℕ) (at j : ℕ) → j < at → get_or (sets l at vs) j 0 ≡ get_or l j 0
before [] l at j h = refl
before (v ∷ vs) l at j h =
    before vs (set l at v) (suc at) j (omega (arith, h)) ∙ get_or-set_other l at j v 0 (λ e. absurd (omega (arith, h, e)))

pub past : (vs l : List ℕ) (at j : ℕ) → at + length vs ≤ j → get_or (sets l at vs) j 0 ≡ get_or l j 0
past [] l at j h = refl
past (v ∷ vs) l at j h =
    past vs (set l at v) (suc at) j (omega (arith, h)) ∙ get_or-set_other l at j v 0 (λ e. absurd (omega (arith, h, e)))

pub within : (vs l : List ℕ) (at j : ℕ) → j < length vs → at + length vs ≤ length l → get_or (sets l at vs) (at + j) 0 ≡ get_or vs j 0
within [] l at j h f = absurd (not-suc-le-zero h)
within (v ∷ vs) l at zero h f =
    let e : at + 0 ≡ at = omega arith in
    rw e (before vs (set l at v) (suc at) at (omega arith) ∙ get_or-set_same l at v 0 (omega (arith, f)))
within (v ∷ vs) l at (suc j) h f =
    let e : at + suc j ≡ suc at + j = omega arith in
    let same : length (set l at v) ≡ length l = length-set l at v in
    rw e (within vs (set l at v) (suc at) j (le_of_suc-le-suc h) (omega (arith, f, same)))

-- ---- places of the same bytes

pub slots_same : (n : ℕ) (b d : List ℕ) (at to : ℕ) → ((j : ℕ) → j < 3 * n → get_or b (at + j) 0 ≡ get_or d (to + j) 0) → slots_from n b at ≡ slots_from n d to
unfolding slots_from
slots_same zero b d at to h = refl
slots_same (suc n) b d at to h =
    let a0 : at + 0 ≡ at = omega arith in
    let t0 : to + 0 ≡ to = omega arith in
    let e0 : get_or b at 0 ≡ get_or d to 0 = ap (λ (k : ℕ). get_or b k 0) (sym a0) ∙ h 0 (omega arith) ∙ ap (λ (k : ℕ). get_or d k 0) t0 in
    let e1 : get_or b (at + 1) 0 ≡ get_or d (to + 1) 0 = h 1 (omega arith) in
    let e2 : get_or b (at + 2) 0 ≡ get_or d (to + 2) 0 = h 2 (omega arith) in
    ap₂ ◌∷◌ (rw (e0, e1, e2) refl) (slots_same n b d (at + 3) (to + 3) (λ j l. later j (omega (arith, l))))
  where
    later : (j : ℕ) → 3 + j < 3 * suc n → get_or b (at + 3 + j) 0 ≡ get_or d (to + 3 + j) 0
    later j l =
        let p : at + 3 + j ≡ at + (3 + j) = omega arith in
        let q : to + 3 + j ≡ to + (3 + j) = omega arith in
        rw (p, q) (h (3 + j) l)

-- ---- 45 bytes moved down by three
pub moved_down : (row : List ℕ) (at : ℕ) → at + 48 ≤ length row → copy_within row (at + 3) (at + 48) at ≡ sets row at (take 45 (drop (at + 3) row))
moved_down row at h =
    let n : length (take 45 (drop (at + 3) row)) ≡ 45 = length-take-le 45 (drop (at + 3) row) (simp length-drop (omega arith)) in
    let k : at + 48 - (at + 3) ≡ 45 = omega arith in
    rw k (rw n at (sym (sets-eq (take 45 (drop (at + 3) row)) row at (rw n (omega arith)))))

pub put_three : (room : List ℕ) (at a b c : ℕ) → set (set (set room at a) (at + 1) b) (at + 2) c ≡ sets room at (a ∷ b ∷ c ∷ [])
put_three room at a b c =
    let e : at + 1 ≡ suc at = omega arith in
    let f : at + 2 ≡ suc (suc at) = omega arith in
    rw (e, f)

-- and the last place blank
pub popped-put : (b : List ℕ) (q n : ℕ) {m : List ℕ} → q + 49 ≤ length b → n ≡ get_or b q 0 - 1 → m ≡ sets b (q + 1) (take 45 (drop (q + 1 + 3) b))
    → set (set (set (set m (q + 46) 0) (q + 47) 0) (q + 48) 0) q n ≡ popped_at b q
unfolding popped_at
popped-put b q n {m} room en em =
    let d : q + 1 + 3 ≡ q + 4 = omega arith in
    let e : q + 47 ≡ q + 46 + 1 = omega arith in
    let f : q + 48 ≡ q + 46 + 2 = omega arith in
    let g : q + 46 ≡ q + 1 + 45 = omega arith in
    let left : 45 ≤ length (drop (q + 4) b) = simp length-drop (omega arith) in
    let long : length (take 45 (drop (q + 4) b)) ≡ 45 = length-take-le 45 (drop (q + 4) b) left in
    let three : set (set (set m (q + 46) 0) (q + 47) 0) (q + 48) 0 ≡ sets m (q + 46) (0 ∷ 0 ∷ 0 ∷ []) = rw (e, f) (put_three m (q + 46) 0 0 0) in
    let down : m ≡ sets b (q + 1) (take 45 (drop (q + 4) b)) = rw d at em in
    rw (en, three) (ap (λ (z : List ℕ). set z q (get_or b q 0 - 1)) (puts_then b (take 45 (drop (q + 4) b)) (0 ∷ 0 ∷ 0 ∷ []) (q + 1) 45 (q + 46) down refl long g))

-- ---- the places of a queue

pub slots_length : (n : ℕ) (b : List ℕ) (at : ℕ) → length (slots_from n b at) ≡ n
unfolding slots_from
slots_length zero b at = refl
slots_length (suc n) b at = ap suc (slots_length n b (at + 3))

-- the last of some places
slots-last : (n : ℕ) (b : List ℕ) (at : ℕ) → slots_from (suc n) b at ≡ slots_from n b at ++ slot_at b (at + 3 * n) ∷ []
unfolding slots_from
slots-last zero b at = let e : at + 3 * 0 ≡ at = omega arith in rw e
slots-last (suc n) b at =
    let e : at + 3 * suc n ≡ at + 3 + 3 * n = omega arith in
    rw e (ap (λ (z : List Signal). slot_at b at ∷ z) (slots-last n b (at + 3)))

-- a queue of the same bytes, at another place or at its own
pub queue-moved : (b d : List ℕ) (q p : ℕ) → ((j : ℕ) → j < 49 → get_or b (q + j) 0 ≡ get_or d (p + j) 0) → queue_at b q ≡ queue_at d p
queue-moved b d q p h =
    let none : q + 0 ≡ q = omega arith in
    let nought : p + 0 ≡ p = omega arith in
    let count : get_or b q 0 ≡ get_or d p 0 = ap (λ (k : ℕ). get_or b k 0) (sym none) ∙ h 0 (omega arith) ∙ ap (λ (k : ℕ). get_or d k 0) nought in
    rw (count, slots_same 16 b d (q + 1) (p + 1) (λ j l. later j (omega (arith, l)))) refl
  where
    later : (j : ℕ) → 1 + j < 49 → get_or b (q + 1 + j) 0 ≡ get_or d (p + 1 + j) 0
    later j l =
        let e : q + 1 + j ≡ q + (1 + j) = omega arith in
        let f : p + 1 + j ≡ p + (1 + j) = omega arith in
        rw (e, f) (h (1 + j) l)

pub queue-same : (b d : List ℕ) (q : ℕ) → ((j : ℕ) → j < 49 → get_or b (q + j) 0 ≡ get_or d (q + j) 0) → queue_at b q ≡ queue_at d q
queue-same b d q h = queue-moved b d q q h

-- the places of which one has other bytes
slots-put : (m : ℕ) (b d : List ℕ) (at n : ℕ) (x : Signal) → n < m → ((j : ℕ) → j < 3 * n → get_or d (at + j) 0 ≡ get_or b (at + j) 0)
    → ((j : ℕ) → 3 * n + 3 ≤ j → j < 3 * m → get_or d (at + j) 0 ≡ get_or b (at + j) 0) → slot_at d (at + 3 * n) ≡ x → slots_from m d at ≡ set (slots_from m b at) n x
unfolding slots_from
slots-put zero b d at n x h lower upper e = absurd (not-suc-le-zero h)
slots-put (suc m) b d at zero x h lower upper e =
    let none : at + 3 * 0 ≡ at = omega arith in
    ap₂ ◌∷◌ (rw none at e) (slots_same m d b (at + 3) (at + 3) (λ j l. later j (omega (arith, l))))
  where
    later : (j : ℕ) → 3 + j < 3 * suc m → get_or d (at + 3 + j) 0 ≡ get_or b (at + 3 + j) 0
    later j l = let e : at + 3 + j ≡ at + (3 + j) = omega arith in rw e (upper (3 + j) (omega arith) l)
slots-put (suc m) b d at (suc n) x h lower upper e =
    let here : at + 3 * suc n ≡ at + 3 + 3 * n = omega arith in
    ap₂ ◌∷◌ head (slots-put m b d (at + 3) n x (le_of_suc-le-suc h) (λ j l. low j (omega (arith, l))) (λ j l k. up j (omega (arith, l)) (omega (arith, k))) (rw here at e))
  where
    low : (j : ℕ) → 3 + j < 3 * suc n → get_or d (at + 3 + j) 0 ≡ get_or b (at + 3 + j) 0
    low j l = let e : at + 3 + j ≡ at + (3 + j) = omega arith in rw e (lower (3 + j) l)

    up : (j : ℕ) → 3 * suc n + 3 ≤ 3 + j → 3 + j < 3 * suc m → get_or d (at + 3 + j) 0 ≡ get_or b (at + 3 + j) 0
    up j l k = let e : at + 3 + j ≡ at + (3 + j) = omega arith in rw e (upper (3 + j) l k)

    head : slot_at d at ≡ slot_at b at
    head =
        let none : at + 0 ≡ at = omega arith in
        let e0 : get_or d at 0 ≡ get_or b at 0 = ap (λ (k : ℕ). get_or d k 0) (sym none) ∙ lower 0 (omega arith) ∙ ap (λ (k : ℕ). get_or b k 0) none in
        rw (e0, lower 1 (omega arith), lower 2 (omega arith)) refl

-- ---- bytes as they stand

pub bytes-length : (n : ℕ) (b : List ℕ) (at : ℕ) → length (bytes_from n b at) ≡ n
unfolding bytes_from
bytes-length zero b at = refl
bytes-length (suc n) b at = ap suc (bytes-length n b (at + 1))

pub bytes-at : (n : ℕ) (b : List ℕ) (at i d : ℕ) → i < n → get_or (bytes_from n b at) i d ≡ get_or b (at + i) 0
unfolding bytes_from
bytes-at zero b at i d h = absurd (not-suc-le-zero h)
bytes-at (suc n) b at zero d h = let e : at + 0 ≡ at = omega arith in rw e refl
bytes-at (suc n) b at (suc i) d h = let e : at + suc i ≡ at + 1 + i = omega arith in rw e (bytes-at n b (at + 1) i d (le_of_suc-le-suc h))

pub bytes_same : (n : ℕ) (b d : List ℕ) (at to : ℕ) → ((j : ℕ) → j < n → get_or b (at + j) 0 ≡ get_or d (to + j) 0) → bytes_from n b at ≡ bytes_from n d to
unfolding bytes_from
bytes_same zero b d at to h = refl
bytes_same (suc n) b d at to h =
    let a0 : at + 0 ≡ at = omega arith in
    let t0 : to + 0 ≡ to = omega arith in
    let e0 : get_or b at 0 ≡ get_or d to 0 = ap (λ (k : ℕ). get_or b k 0) (sym a0) ∙ h 0 (omega arith) ∙ ap (λ (k : ℕ). get_or d k 0) t0 in
    ap₂ ◌∷◌ e0 (bytes_same n b d (at + 1) (to + 1) (λ j l. later j (omega (arith, l))))
  where
    later : (j : ℕ) → 1 + j < suc n → get_or b (at + 1 + j) 0 ≡ get_or d (to + 1 + j) 0
    later j l =
        let p : at + 1 + j ≡ at + (1 + j) = omega arith in
        let q : to + 1 + j ≡ to + (1 + j) = omega arith in
        rw (p, q) (h (1 + j) l)

-- ---- a signal put in, and the head taken out: the queue, and all bytes outside of it

module _ (b : List ℕ) (q : ℕ) where
  abbrev n : ℕ
  n = get_or b q 0

  pub pushed-length : (x : Signal) → length (pushed_at b q x) ≡ length b
  unfolding pushed_at
  pushed-length x = length-set (sets b (q + 1 + 3 * n) (signal_bytes x)) q (n + 1) ∙ length-sets b (q + 1 + 3 * n) (signal_bytes x)

  pub pushed-before : (x : Signal) (j : ℕ) → j < q → get_or (pushed_at b q x) j 0 ≡ get_or b j 0
  unfolding pushed_at
  pushed-before x j h =
      get_or-set_other (sets b (q + 1 + 3 * n) (signal_bytes x)) q j (n + 1) 0 (λ e. absurd (omega (arith, e, h)))
      ∙ before (signal_bytes x) b (q + 1 + 3 * n) j (omega (arith, h))

  pub pushed-past : (x : Signal) (j : ℕ) → n < 16 → q + 49 ≤ j → get_or (pushed_at b q x) j 0 ≡ get_or b j 0
  unfolding pushed_at
  pushed-past x j few h =
      get_or-set_other (sets b (q + 1 + 3 * n) (signal_bytes x)) q j (n + 1) 0 (λ e. absurd (omega (arith, e, h)))
      ∙ past (signal_bytes x) b (q + 1 + 3 * n) j (omega (arith, h, few))

  module _ (room : q + 49 ≤ length b) where
    pub pushed-count : (x : Signal) → get_or (pushed_at b q x) q 0 ≡ n + 1
    unfolding pushed_at
    pushed-count x = get_or-set_same (sets b (q + 1 + 3 * n) (signal_bytes x)) q (n + 1) 0 (lt-length-sets b (q + 1 + 3 * n) (signal_bytes x) (omega arith))

    pub pushed-queue : (x : Signal) → n < 16 → queue_at (pushed_at b q x) q ≡ push (queue_at b q) x
    unfolding pushed_at
    pushed-queue x few =
        rw (pushed-count x, slots-put 16 b (pushed_at b q x) (q + 1) n x few (λ j l. lower j l) (λ j l k. upper j l) here) refl
      where
        at : ℕ
        at = q + 1 + 3 * n

        off : (j : ℕ) → get_or (pushed_at b q x) (q + 1 + j) 0 ≡ get_or (sets b (q + 1 + 3 * n) (signal_bytes x)) (q + 1 + j) 0
        off j = get_or-set_other (sets b (q + 1 + 3 * n) (signal_bytes x)) q (q + 1 + j) (n + 1) 0 (λ e. absurd (omega (arith, e)))

        lower : (j : ℕ) → j < 3 * n → get_or (pushed_at b q x) (q + 1 + j) 0 ≡ get_or b (q + 1 + j) 0
        lower j l = off j ∙ before (signal_bytes x) b (q + 1 + 3 * n) (q + 1 + j) (omega (arith, l))

        upper : (j : ℕ) → 3 * n + 3 ≤ j → get_or (pushed_at b q x) (q + 1 + j) 0 ≡ get_or b (q + 1 + j) 0
        upper j l = off j ∙ past (signal_bytes x) b (q + 1 + 3 * n) (q + 1 + j) (omega (arith, l))

        byte : (i : ℕ) → i < 3 → get_or (pushed_at b q x) (q + 1 + 3 * n + i) 0 ≡ get_or (signal_bytes x) i 0
        byte i l =
            let e : q + 1 + 3 * n + i ≡ q + 1 + (3 * n + i) = omega arith in
            ap (λ (k : ℕ). get_or (pushed_at b q x) k 0) e ∙ off (3 * n + i) ∙ ap (λ (k : ℕ). get_or (sets b (q + 1 + 3 * n) (signal_bytes x)) k 0) (sym e)
            ∙ within (signal_bytes x) b (q + 1 + 3 * n) i l (omega (arith, few))

        here : slot_at (pushed_at b q x) (q + 1 + 3 * n) ≡ x
        here =
            let none : q + 1 + 3 * n + 0 ≡ q + 1 + 3 * n = omega arith in
            let e0 : get_or (pushed_at b q x) (q + 1 + 3 * n) 0 ≡ signal_number x = ap (λ (k : ℕ). get_or (pushed_at b q x) k 0) (sym none) ∙ byte 0 (omega arith) in
            rw (e0, byte 1 (omega arith), byte 2 (omega arith), signal-back x) refl

  abbrev down : List ℕ
  down = take 45 (drop (q + 4) b)

  pub popped-length : length (popped_at b q) ≡ length b
  unfolding popped_at
  popped-length = length-set (sets b (q + 1) (down ++ (0 ∷ 0 ∷ 0 ∷ []))) q (n - 1) ∙ length-sets b (q + 1) (down ++ (0 ∷ 0 ∷ 0 ∷ []))

  pub popped-before : (j : ℕ) → j < q → get_or (popped_at b q) j 0 ≡ get_or b j 0
  unfolding popped_at
  popped-before j h =
      get_or-set_other (sets b (q + 1) (down ++ (0 ∷ 0 ∷ 0 ∷ []))) q j (n - 1) 0 (λ e. absurd (omega (arith, e, h)))
      ∙ before (down ++ (0 ∷ 0 ∷ 0 ∷ [])) b (q + 1) j (omega (arith, h))

  module _ (room : q + 49 ≤ length b) where
    down-length : length down ≡ 45
    down-length =
        let left : 45 ≤ length (drop (q + 4) b) = simp length-drop (omega arith) in
        length-take-le 45 (drop (q + 4) b) left

    all-length : length (down ++ (0 ∷ 0 ∷ 0 ∷ [])) ≡ 48
    all-length = length-append down (0 ∷ 0 ∷ 0 ∷ []) ∙ rw down-length

    pub popped-past : (j : ℕ) → q + 49 ≤ j → get_or (popped_at b q) j 0 ≡ get_or b j 0
    unfolding popped_at
    popped-past j h =
        get_or-set_other (sets b (q + 1) (down ++ (0 ∷ 0 ∷ 0 ∷ []))) q j (n - 1) 0 (λ e. absurd (omega (arith, e, h)))
        ∙ past (down ++ (0 ∷ 0 ∷ 0 ∷ [])) b (q + 1) j (omega (arith, h, all-length))

    popped-count : get_or (popped_at b q) q 0 ≡ n - 1
    unfolding popped_at
    popped-count = get_or-set_same (sets b (q + 1) (down ++ (0 ∷ 0 ∷ 0 ∷ []))) q (n - 1) 0 (lt-length-sets b (q + 1) (down ++ (0 ∷ 0 ∷ 0 ∷ [])) (omega arith))

    popped-byte : (j : ℕ) → j < 48 → get_or (popped_at b q) (q + 1 + j) 0 ≡ get_or (down ++ (0 ∷ 0 ∷ 0 ∷ [])) j 0
    unfolding popped_at
    popped-byte j h =
        get_or-set_other (sets b (q + 1) (down ++ (0 ∷ 0 ∷ 0 ∷ []))) q (q + 1 + j) (n - 1) 0 (λ e. absurd (omega (arith, e)))
        ∙ within (down ++ (0 ∷ 0 ∷ 0 ∷ [])) b (q + 1) j (omega (arith, h, all-length)) (omega (arith, all-length))

    moved-byte : (j : ℕ) → j < 45 → get_or (popped_at b q) (q + 1 + j) 0 ≡ get_or b (q + 1 + 3 + j) 0
    moved-byte j h =
        let e : q + 4 + j ≡ q + 1 + 3 + j = omega arith in
        popped-byte j (omega (arith, h)) ∙ get_or-append down (0 ∷ 0 ∷ 0 ∷ []) 0 j (omega (arith, h, down-length)) ∙ get_or-take 45 (drop (q + 4) b) j 0 h ∙ get_or-drop (q + 4) b j 0 ∙ ap (λ (k : ℕ). get_or b k 0) e

    last_byte : (i : ℕ) → i < 3 → get_or (popped_at b q) (q + 1 + (45 + i)) 0 ≡ get_or (0 ∷ 0 ∷ 0 ∷ []) i 0
    last_byte i h =
        popped-byte (45 + i) (omega (arith, h)) ∙ ap (λ (k : ℕ). get_or (down ++ (0 ∷ 0 ∷ 0 ∷ [])) (k + i) 0) (sym down-length) ∙ get_or-append-add down (0 ∷ 0 ∷ 0 ∷ []) i 0

    pub popped-queue : queue_at (popped_at b q) q ≡ pop (queue_at b q)
    unfolding slots_from
    popped-queue = rw (popped-count, slots) refl
      where
        later : protocol.slots_from 15 1 (slots_from 16 b (q + 1)) ≡ slots_from 15 b (q + 1 + 3)
        later = refl

        last : slots_from 16 (popped_at b q) (q + 1) ≡ slots_from 15 (popped_at b q) (q + 1) ++ slot_at (popped_at b q) (q + 1 + 45) ∷ []
        last = slots-last 15 (popped_at b q) (q + 1)

        blank-last : slot_at (popped_at b q) (q + 1 + 45) ≡ blank
        blank-last =
            let e1 : q + 1 + 45 + 1 ≡ q + 1 + (45 + 1) = omega arith in
            let e2 : q + 1 + 45 + 2 ≡ q + 1 + (45 + 2) = omega arith in
            let e0 : q + 1 + 45 ≡ q + 1 + (45 + 0) = omega arith in
            rw (e1, e2, last_byte 1 (omega arith), last_byte 2 (omega arith), e0, last_byte 0 (omega arith)) refl

        slots : slots_from 16 (popped_at b q) (q + 1) ≡ protocol.slots_from 15 1 (slots_from 16 b (q + 1)) ++ blank ∷ []
        slots =
            last ∙ ap (λ (z : Signal). slots_from 15 (popped_at b q) (q + 1) ++ z ∷ []) blank-last
            ∙ ap (λ (z : List Signal). z ++ blank ∷ []) (slots_same 15 (popped_at b q) b (q + 1) (q + 1 + 3) (λ j l. moved-byte j (omega (arith, l))) ∙ sym later)
