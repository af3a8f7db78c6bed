-- `dfc_store::dfc_data_write` meets its contract. Assumes nothing.
use Rattle.std.proofs.Common.{◌≡◌, sym, ap, ◌∙◌, rules}
use Rattle.dfc_store.proofs.Told.{told_done, told-write}
use Rattle.dfc_store.proofs.dfc_data_write.Goals as goal

pub returns-in-Ok : goal.returns-in-Ok
returns-in-Ok c =
    let out : c.answered.result ≡ told_done c.write.result = search rules in
    rw (sym c.who_in.ensures ∙ c.in-Ok.is) (out ∙ ap told_done c.write.ensures.0 ∙ told-write _ _ _ _ _ _, c.write.ensures.1)
