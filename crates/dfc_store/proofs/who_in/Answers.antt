-- `dfc_store::who_in` meets its contract. Assumes nothing.
use Rattle.std.proofs.Common.{◌≡◌, Err, ◌∙◌, rules}
use Rattle.dfc_store.proofs.Told.{known-none, known-shown}
use Rattle.dfc_store.proofs.who_in.Goals as goal

pub returns-in_err-shown : goal.returns-in_err-shown
returns-in_err-shown c =
    let out : c.from_residual.result ≡ Err c.in_err-shown.field-0.0 = search rules in
    out ∙ known-none _ _ _ _ _ _ c.in_err-shown.ensures

pub returns : goal.returns
returns c = known-shown _ _ _ _ _ _ _ c.in_ok-shown.ensures c.who_by.ensures
