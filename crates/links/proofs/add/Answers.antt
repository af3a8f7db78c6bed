-- `links::add` meets its contract. Assumes nothing.
use Rattle.std.proofs.Common.{◌≡◌, Err, refl, sym, ◌∙◌, rules}
use Rattle.links.specs.Sets.{formed}
use Rattle.links.proofs.Laws.{looked, looked_none, add-no-set, add-one-port, add-found, add-full, add-no-room, add_done}
use Rattle.links.proofs.add.Goals as goal

pub returns-in_err-look : goal.returns-in_err-look
returns-in_err-look c =
    let none = looked_none (formed c.args.set.now) _ _ (c.in_err-look.ensures) in
    let out : c.from_residual.result ≡ Err c.in_err-look.field-0.0 = search rules in
    rw (out, none.1, ← c.link-x.ensures) (add-no-set _ _ none.0)

pub returns-then-not-apart : goal.returns-then-not-apart
returns-then-not-apart c =
    let m = c.args.set.now in
    let seen = looked (formed m) _ _ (c.in_ok-look.ensures) in
    rw (← c.link-x.ensures) (add-one-port _ m seen.0 (sym c.apart.ensures ∙ c.if-not-apart.true))

pub returns-in_default : goal.returns-in_default
returns-in_default c =
    let m = c.args.set.now in
    let seen = looked (formed m) _ _ (c.in_ok-look.ensures) in
    rw (← c.link-x.ensures) (add-full _ m c.told-set seen.0 (sym c.apart.ensures ∙ c.if-not-apart.false) _ refl c.in_default.ensures)

pub returns-then-set-at : goal.returns-then-set-at
returns-then-set-at c =
    let m = c.args.set.now in
    let seen = looked (formed m) _ _ (c.in_ok-look.ensures) in
    rw (← c.link-x.ensures) (add-found _ m c.told-set seen.0 (sym c.apart.ensures ∙ c.if-not-apart.false) _ c.in-Some.ensures.1 c.if-set-at.true)

pub returns-then-set-ne0 : goal.returns-then-set-ne0
returns-then-set-ne0 c =
    let m = c.args.set.now in
    let seen = looked (formed m) _ _ (c.in_ok-look.ensures) in
    rw (← c.link-x.ensures) (add-no-room _ m c.told-set seen.0 (sym c.apart.ensures ∙ c.if-not-apart.false) _ c.in-Some.ensures.0 c.if-set-at.false c.if-set-ne0.true)

pub returns : goal.returns
returns c =
    let m = c.args.set.now in
    let seen = looked (formed m) _ _ (c.in_ok-look.ensures) in
    rw (← c.link-x.ensures, c.put_in.ensures) (add_done _ m c.told-set seen.0 (sym c.apart.ensures ∙ c.if-not-apart.false) _ c.in-Some.ensures.0 c.if-set-at.false c.if-set-ne0.false)
