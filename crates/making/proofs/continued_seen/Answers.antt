-- `making::continued_seen` meets its contract. Assumes nothing.
use Rattle.std.proofs.Common.{rules, ◌≡◌, ℕ, List, sym, ap, ◌∙◌}
use Rattle.std.specs.Prelude.{take, Ok}
use Rattle.making.specs.Making.{box_address, continued_setup}
use Rattle.making.proofs.Outcomes.{legal-all, continued-made-by}
use Rattle.making.proofs.continued_seen.Goals as goal

pub returns-in_err-continued_outcome : goal.returns-in_err-continued_outcome
returns-in_err-continued_outcome c p shows = rw (sym (c.continued_outcome.ensures p shows) ∙ c.in_err-continued_outcome.was) (search rules)

pub returns : goal.returns
returns c p shows =
    let a = c.args in
    let s = a.string.now in
    let outcome = sym (c.continued_outcome.ensures p shows) ∙ c.in_ok-continued_outcome.was in
    let all = legal-all s (continued-made-by a.kept p a.maker a.s a.source_arg s a.target_arg outcome).string-legal in
    let made : c.continued_of.result ≡ continued_setup (box_address a.maker) a.s a.source_arg (take 32 s) a.target_arg = rw (← c.box_address.ensures) c.continued_of.ensures in
    rw outcome (ap Ok (made ∙ ap (λ (l : List ℕ). continued_setup (box_address a.maker) a.s a.source_arg l a.target_arg) all))
