-- `store::read` meets its contract. Assumes nothing.
use Rattle.std.proofs.Common.{refl, sym, ap, ◌∙◌, arith}
use borrow.Author.Count.{below_none}
use Rattle.store.specs.Words.{data_row_at}
use Rattle.store.specs.Operations.{number_read, read}
use Rattle.store.proofs.Effects.{settled, rows-below, shut, opened, read_found, read-absent}
use Rattle.store.proofs.read.Goals as goal

pub returns-in_default : goal.returns-in_default
returns-in_default c = ap number_read (settled (shut _ _ _ (read _ _) (sym c.access_in.ensures ∙ c.in_default.is))).0

pub overflow_add-row : goal.overflow_add-row
overflow_add-row c = omega (arith, rows-below _ _ _ _ (sym c.access_in.ensures ∙ c.in-Some.is))

pub returns-in_default-row_from : goal.returns-in_default-row_from
returns-in_default-row_from c = ap number_read (settled (opened _ _ _ (read _ _) _ (sym c.access_in.ensures ∙ c.in-Some.is) refl ∙ read-absent _ _ _ _ _ (c.in_default-row_from.ensures (below_none _)))).0

pub returns : goal.returns
unfolding data_row_at
returns c =
    let at = c.in-Some-row_from.ensures (below_none _) in
    ap number_read (settled (opened _ _ _ (read _ _) _ (sym c.access_in.ensures ∙ c.in-Some.is) at.0 ∙ read_found _ _ _ _ _ at.1)).0
