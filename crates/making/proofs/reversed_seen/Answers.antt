-- `making::reversed_seen` meets its contract. Assumes nothing.
use Rattle.std.proofs.Common.{rules, ◌≡◌, ℕ, List, sym, ap, ◌∙◌}
use Rattle.std.specs.Prelude.{take, Ok}
use Rattle.making.specs.Making.{box_address, box_type, reversed_setup}
use Rattle.making.proofs.Outcomes.{legal-all, reversed-made-by}
use Rattle.making.proofs.reversed_seen.Goals as goal

pub returns-in_err-reversed_outcome : goal.returns-in_err-reversed_outcome
returns-in_err-reversed_outcome c p shows = rw (sym (c.reversed_outcome.ensures p shows) ∙ c.in_err-reversed_outcome.was) (search rules)

pub returns : goal.returns
returns c p shows =
    let a = c.args in
    let s = a.string.now in
    let outcome = sym (c.reversed_outcome.ensures p shows) ∙ c.in_ok-reversed_outcome.was in
    let all = legal-all s (reversed-made-by a.kept p a.maker a.s a.source_arg s a.target_arg outcome).string-legal in
    let made : c.reversed_of.result ≡ reversed_setup (box_type a.maker) (box_address a.maker) a.s a.source_arg (take 32 s) a.target_arg = rw (← c.box_address.ensures, ← c.box_type.ensures) c.reversed_of.ensures in
    rw outcome (ap Ok (made ∙ ap (λ (l : List ℕ). reversed_setup (box_type a.maker) (box_address a.maker) a.s a.source_arg l a.target_arg) all))
