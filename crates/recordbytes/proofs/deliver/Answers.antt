-- `recordbytes::deliver` meets its contract. Assumes nothing.
use Prim.Native.Nat.{ℕ, ◌+◌, ◌<◌}
use lib.ListN.{get_or}
use mathlib.Core.List.{List}
use native.Mathlib.Omega.{arith}
use mathlib.Core.Logic.{⊎_elim, ◌≢◌}
use borrow.Author.Rules.{rules}
use Rattle.ends.specs.declared.Side.{Side}
use Rattle.recordbytes.specs.Numbers.{side_of}
use mathlib.Core.Path.{◌≡◌, refl, sym, ap, ◌∙◌}
use Rattle.ends.specs.declared.Signal.TheVariants.{Ordinary}
use Rattle.signalbytes.specs.Numbers.{status_said}
use Rattle.call.specs.Protocol.{queue_to}
use Rattle.recordbytes.specs.Records.{queue_place, call_at}
use Rattle.recordbytes.proofs.Acts.{deliver-empty, head-by, ordinary-said, own-count-of}
use Rattle.recordbytes.proofs.deliver.Goals as goal

-- something waits where the count is not 0
some-waits : (b : List ℕ) (at : ℕ) (s : Side) {q : ℕ} → q ≡ queue_place s → (get_or b (at + q) 0 ≡ 0 → ⊥) → 0 < (queue_to s (call_at b at)).count
some-waits b at s {q} e ne = let h : 0 < get_or b (at + q) 0 = omega arith in rw (own-count-of b at s e) at h

pub returns-then-row-q-eq0 : goal.returns-then-row-q-eq0
returns-then-row-q-eq0 c =
    let a = c.args in
    deliver-empty a.row.now a.at (side_of a.side) c.queue_to.ensures.0 c.if-row-q-eq0.true

pub deliver_teardown-requires : goal.deliver_teardown-requires
deliver_teardown-requires c =
    let a = c.args in
    (c.requires.0, some-waits a.row.now a.at (side_of a.side) c.queue_to.ensures.0 c.if-row-q-eq0.false, c.requires.1, head-by a.row.now a.at (side_of a.side) c.queue_to.ensures.0 (sym c.in-9.is) refl)

pub deliver_downack-requires : goal.deliver_downack-requires
deliver_downack-requires c =
    let a = c.args in
    (c.requires.0, some-waits a.row.now a.at (side_of a.side) c.queue_to.ensures.0 c.if-row-q-eq0.false, c.requires.1, head-by a.row.now a.at (side_of a.side) c.queue_to.ensures.0 (sym c.in-10.is) refl)

pub deliver_upack-requires : goal.deliver_upack-requires
deliver_upack-requires c =
    let a = c.args in
    (c.requires.0, some-waits a.row.now a.at (side_of a.side) c.queue_to.ensures.0 c.if-row-q-eq0.false, c.requires.1, ⊎_elim (λ e. head-by a.row.now a.at (side_of a.side) c.queue_to.ensures.0 (sym e) refl) (λ e. head-by a.row.now a.at (side_of a.side) c.queue_to.ensures.0 (sym e) refl) c.in-0.is)

pub deliver_ordinary-requires : goal.deliver_ordinary-requires
deliver_ordinary-requires c =
    let a = c.args in
    let m = get_or a.row.now (a.at + c.queue_to.result + 1) 0 in
    let n0 : m ≢ 0 = search rules in
    let n2 : m ≢ 2 = search rules in
    let n9 : m ≢ 9 = search rules in
    let n10 : m ≢ 10 = search rules in
    (c.requires.0, some-waits a.row.now a.at (side_of a.side) c.queue_to.ensures.0 c.if-row-q-eq0.false, c.requires.1, (head-by a.row.now a.at (side_of a.side) c.queue_to.ensures.0 refl (ordinary-said a.row.now a.at (side_of a.side) (get_or a.row.now (a.at + c.queue_to.result + 1) 0) _ _ n0 n2 n9 n10) ∙ ap (λ (q : ℕ). Ordinary (get_or a.row.now (a.at + queue_place (side_of a.side) + 2) 0) (status_said (get_or a.row.now (a.at + q + 1) 0) (get_or a.row.now (a.at + queue_place (side_of a.side) + 3) 0))) c.queue_to.ensures.0))
