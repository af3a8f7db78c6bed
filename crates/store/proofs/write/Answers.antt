-- `store::write` meets its contract. Assumes nothing.
use Rattle.std.proofs.Common.{refl, sym, ap, ◌∙◌, arith}
use mathlib.Core.Logic.{⊎_elim}
use Rattle.store.specs.Operations.{done, write}
use Rattle.store.proofs.Words.{stop-full, stop-for, stop-free, past-free}
use Rattle.store.proofs.Effects.{settled, rows-below, shut, opened, write-found, write-added, write-full}
use Rattle.store.proofs.Searches.{or_else}
use Rattle.store.proofs.write.Goals as goal

pub returns-in_default : goal.returns-in_default
returns-in_default c = let so = settled (shut _ _ _ (write _ _ _) (sym c.access_in.ensures ∙ c.in_default.is)) in (ap done so.0, so.1)

pub overflow_add-row : goal.overflow_add-row
overflow_add-row c = omega (arith, rows-below _ _ _ _ (sym c.access_in.ensures ∙ c.in-Some.is))

-- neither the row nor a free place
pub returns-in_default-stop : goal.returns-in_default-stop
returns-in_default-stop c =
    let full = stop-full _ _ _ _ _ c.in_default-stop.ensures (omega arith) in
    let so = settled (opened _ _ _ (write _ _ _) _ (sym c.access_in.ensures ∙ c.in-Some.is) refl ∙ write-full _ _ _ _ _ _ full.0 refl full.1) in
    (ap done so.0, so.1)

-- the row, before any free place
pub returns-then-rows-i-ne0 : goal.returns-then-rows-i-ne0
returns-then-rows-i-ne0 c =
    let at = c.in-Some-stop.ensures in
    let so = settled (opened _ _ _ (write _ _ _) _ (sym c.access_in.ensures ∙ c.in-Some.is) (stop-for _ _ _ _ _ at.0 at.1 c.if-rows-i-ne0.true) ∙ write-found _ _ _ _ _ _ at.1) in
    (ap done so.0, c.put_row.ensures ∙ so.1)

-- the row, past a free place, or that place
pub put_row-requires-2 : goal.put_row-requires-2
put_row-requires-2 c =
    let at = c.in-Some-stop.ensures in
    ⊎_elim (λ x. x.1) (λ x. omega (arith, x.0, at.1)) (or_else _ _ _ _ (c.row_from.ensures (past-free _ _ _ _ _ at.0 c.if-rows-i-ne0.false)) c.unwrap_or-at.ensures)

pub returns : goal.returns
returns c =
    let at = c.in-Some-stop.ensures in
    let so =
    settled (⊎_elim
    (λ x. opened _ _ _ (write _ _ _) _ (sym c.access_in.ensures ∙ c.in-Some.is) x.0 ∙ write-found _ _ _ _ _ _ x.1)
    (λ x. opened _ _ _ (write _ _ _) _ (sym c.access_in.ensures ∙ c.in-Some.is) refl ∙ write-added _ _ _ _ _ _ x.1 (x.0 ∙ stop-free _ _ _ _ _ at.0 at.1 c.if-rows-i-ne0.false) (omega (arith, x.0, at.1)))
    (or_else _ _ _ _ (c.row_from.ensures (past-free _ _ _ _ _ at.0 c.if-rows-i-ne0.false)) c.unwrap_or-at.ensures)) in
    (ap done so.0, c.put_row-2.ensures ∙ so.1)
