-- `dfc_store::dfc_data_delete` meets its contract. Assumes nothing.
use Rattle.std.proofs.Common.{◌≡◌, sym, ap, ◌∙◌, rules}
use Rattle.dfc_store.proofs.Told.{told_done, told-delete}
use Rattle.dfc_store.proofs.dfc_data_delete.Goals as goal

pub returns-in-Ok : goal.returns-in-Ok
returns-in-Ok c =
    let out : c.answered.result ≡ told_done c.delete.result = search rules in
    rw (sym c.who_in.ensures ∙ c.in-Ok.is) (out ∙ ap told_done c.delete.ensures.0 ∙ told-delete _ _ _ _ _, c.delete.ensures.1)
