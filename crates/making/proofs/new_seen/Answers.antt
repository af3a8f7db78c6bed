-- `making::new_seen` meets its contract. Assumes nothing.
use Rattle.std.proofs.Common.{rules, ◌≡◌, ℕ, List, sym, ap, ◌∙◌}
use Rattle.std.specs.Prelude.{take, Ok}
use Rattle.plan.proofs.Sight.{seen_first}
use Rattle.making.proofs.Shown.{existing-seen}
use Rattle.making.specs.Making.{box_address, new_setup}
use Rattle.making.proofs.Outcomes.{legal-all, new-made-by}
use Rattle.making.proofs.new_seen.Goals as goal

pub returns-in_err-new_outcome : goal.returns-in_err-new_outcome
returns-in_err-new_outcome c p second shows = rw (sym (c.new_outcome.ensures p (existing-seen p _ second shows) (seen_first p _ second shows)) ∙ c.in_err-new_outcome.was) (search rules)

pub returns : goal.returns
returns c p second shows =
    let a = c.args in
    let s = a.string.now in
    let outcome = sym (c.new_outcome.ensures p (existing-seen p _ second shows) (seen_first p _ second shows)) ∙ c.in_ok-new_outcome.was in
    let all = legal-all s (new-made-by a.kept p a.maker s a.target_arg outcome).string-legal in
    let made : c.new_of.result ≡ new_setup (box_address a.maker) (take 32 s) a.target_arg = rw (← c.box_address.ensures) c.new_of.ensures in
    rw outcome (ap Ok (made ∙ ap (λ (l : List ℕ). new_setup (box_address a.maker) l a.target_arg) all))
