-- `links::remove` meets its contract. Assumes nothing.
use Rattle.std.proofs.Common.{◌≡◌, Err, refl, sym, ◌∙◌, rules}
use Rattle.links.specs.Sets.{formed}
use Rattle.links.proofs.Laws.{looked, looked_none, remove-no-set, remove_absent, remove-past, remove-missed, remove-found, one-port-absent}
use Rattle.links.proofs.remove.Goals as goal

pub returns-in_err-look : goal.returns-in_err-look
returns-in_err-look c =
    let none = looked_none (formed c.args.set.now) _ _ (c.in_err-look.ensures) in
    let out : c.from_residual.result ≡ Err c.in_err-look.field-0.0 = search rules in
    rw (out, none.1, ← c.link-x.ensures) (remove-no-set _ _ none.0)

pub returns-then-not-apart : goal.returns-then-not-apart
returns-then-not-apart c =
    let m = c.args.set.now in
    let seen = looked (formed m) _ _ (c.in_ok-look.ensures) in
    rw (← c.link-x.ensures) (remove_absent _ m c.told-set seen.0 (one-port-absent _ m seen.0 (sym c.apart.ensures ∙ c.if-not-apart.true)))

pub returns-in_default : goal.returns-in_default
returns-in_default c =
    let m = c.args.set.now in
    let seen = looked (formed m) _ _ (c.in_ok-look.ensures) in
    rw (← c.link-x.ensures) (remove-past _ m c.told-set seen.0 (sym c.apart.ensures ∙ c.if-not-apart.false) _ refl c.in_default.ensures)

pub returns-then-set-at : goal.returns-then-set-at
returns-then-set-at c =
    let m = c.args.set.now in
    let seen = looked (formed m) _ _ (c.in_ok-look.ensures) in
    rw (← c.link-x.ensures) (remove-missed _ m c.told-set seen.0 _ c.in-Some.ensures.0 c.if-set-at.true)

pub returns : goal.returns
returns c =
    let m = c.args.set.now in
    let seen = looked (formed m) _ _ (c.in_ok-look.ensures) in
    rw (← c.link-x.ensures, c.close_up.ensures) (remove-found _ m c.told-set seen.0 (sym c.apart.ensures ∙ c.if-not-apart.false) _ c.in-Some.ensures.0 c.in-Some.ensures.1 c.if-set-at.false)
