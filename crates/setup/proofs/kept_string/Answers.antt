-- `setup::kept_string` meets its contract. Assumes nothing.
use Rattle.std.proofs.Common.{rules, ◌≡◌, length, ap, ◌∙◌}
use Rattle.setup.specs.Dialling.{dialled, string_of}
use Rattle.setup.proofs.Stored.{cut-again}
use Rattle.setup.proofs.kept_string.Goals as goal

pub returns : goal.returns
unfolding string_of
returns c =
    let d = c.args.d in
    let long : length d.symbols ≡ 32 = search rules in
    c.dial.ensures ∙ ap dialled (rw c.as_slice.ensures (cut-again d.len d.symbols long))
