-- `store::delete` meets its contract. Assumes nothing.
use Rattle.std.proofs.Common.{refl, sym, ap, ◌∙◌, arith}
use borrow.Author.Count.{below_none}
use Rattle.store.specs.Operations.{done, delete}
use Rattle.store.proofs.Effects.{settled, rows-below, shut, opened, delete-found, delete-absent}
use Rattle.store.proofs.delete.Goals as goal

pub returns-in_default : goal.returns-in_default
returns-in_default c = let so = settled (shut _ _ _ (delete _ _) (sym c.access_in.ensures ∙ c.in_default.is)) in (ap done so.0, so.1)

pub overflow_add-row : goal.overflow_add-row
overflow_add-row c = omega (arith, rows-below _ _ _ _ (sym c.access_in.ensures ∙ c.in-Some.is))

pub returns-in_default-row_from : goal.returns-in_default-row_from
returns-in_default-row_from c =
    let so = settled (opened _ _ _ (delete _ _) _ (sym c.access_in.ensures ∙ c.in-Some.is) refl ∙ delete-absent _ _ _ _ _ (c.in_default-row_from.ensures (below_none _))) in
    (ap done so.0, so.1)

pub returns : goal.returns
returns c =
    let at = c.in-Some-row_from.ensures (below_none _) in
    let so = settled (opened _ _ _ (delete _ _) _ (sym c.access_in.ensures ∙ c.in-Some.is) at.0 ∙ delete-found _ _ _ _ _ at.1) in
    (ap done so.0, c.put_row.ensures ∙ so.1)
