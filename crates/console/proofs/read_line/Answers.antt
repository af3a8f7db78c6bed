-- Before the first byte nothing was read; a byte that is no newline goes in at n: none before it is one either, and what stood past it stays.
use Rattle.std.proofs.Common.{◌≡◌, ℕ, ◌+◌, ◌<◌, true, false, not, eqb, List, length, get_or, drop, set, sym, refl, ap, ◌∙◌, arith, get_or-set_other, get_or-set_same, drop-drop, drop-set-lt, ne_eqb}
use Rattle.typeset.specs.Sets.{every}
use Rattle.typeset.proofs.Below.{every-none, every_more, every-ext}
use Rattle.console.proofs.read_line.Goals as goal

no-newline : (l : List ℕ) (n b : ℕ) → n < length l → every n (λ i. not (eqb (get_or l i 0) 10)) ≡ true → eqb b 10 ≡ false → every (n + 1) (λ i. not (eqb (get_or (set l n b) i 0) 10)) ≡ true
no-newline l n b within before new =
    every_more n (λ i. not (eqb (get_or (set l n b) i 0) 10))
    (every-ext n (λ i. not (eqb (get_or (set l n b) i 0) 10)) (λ i. not (eqb (get_or l i 0) 10)) (λ t lt. ap (λ (z : ℕ). not (eqb z 10)) (get_or-set_other l n t b 0 (λ same. absurd (omega (arith, same, lt))))) ∙ before)
    (ap (λ (z : ℕ). not (eqb z 10)) (get_or-set_same l n b 0 within) ∙ ap not new)

rest-stays : (l l₀ : List ℕ) (n b : ℕ) → drop n l ≡ drop n l₀ → drop (n + 1) (set l n b) ≡ drop (n + 1) l₀
rest-stays l l₀ n b e = drop-set-lt (n + 1) l n b (omega arith) ∙ sym (drop-drop 1 n l) ∙ ap (drop 1) e ∙ drop-drop 1 n l₀

pub loop-n-init : goal.loop-n-init
loop-n-init g c = (every-none _, refl)

pub loop-n-preserved : goal.loop-n-preserved
loop-n-preserved g c = (no-newline _ _ _ (omega arith) c.loop-n.invariant.0 (ne_eqb (get_or c.read.new.buf 0 0) 10 (omega arith)), rest-stays c.loop-n.line c.args.line.now c.loop-n.n (get_or c.read.new.buf 0 0) c.loop-n.invariant.1)
