-- `links::sources` meets its contract. Assumes nothing.
use Rattle.std.proofs.Common.{◌≡◌, Err, rules}
use Rattle.links.specs.Sets.{formed}
use Rattle.links.proofs.Laws.{looked, looked_none, listed-no-set, listed-done}
use Rattle.links.proofs.sources.Goals as goal

pub returns-in_err-look : goal.returns-in_err-look
returns-in_err-look c =
    let none = looked_none (formed c.args.set.now) _ _ (c.in_err-look.ensures) in
    let out : c.from_residual.result ≡ Err c.in_err-look.field-0.0 = search rules in
    rw (out, none.1) (listed-no-set _ _ _ none.0)

pub gather-requires : goal.gather-requires
gather-requires c = (looked _ _ _ (c.in_ok-look.ensures)).0

pub returns : goal.returns
returns c =
    let m = c.args.set.now in
    let seen = looked (formed m) _ _ (c.in_ok-look.ensures) in
    rw (← c.termination_number.ensures, c.gather.ensures.0, c.gather.ensures.1) (listed-done _ m c.told-set seen.0 _)
