-- `setup::legal_dialled` meets its contract. Assumes nothing.
use Rattle.std.proofs.Common.{rules, ◌≡◌, length, sym, ◌∙◌}
use borrow.Author.Tests.{le-leb, lt-leb}
use Rattle.setup.specs.Dialling.{legal_dialled}
use Rattle.setup.proofs.Faults.{dialled-is}
use Rattle.setup.proofs.legal_dialled.Goals as goal

pub returns-then-d-le32 : goal.returns-then-d-le32
returns-then-d-le32 c =
    let d = c.args.d in
    let long : length d.symbols ≡ 32 = search rules in
    rw c.as_slice.ensures at c.legal_string.ensures ∙ sym (dialled-is d long c.if-d-le32.true)

pub returns-else-d-le32 : goal.returns-else-d-le32
unfolding legal_dialled
returns-else-d-le32 c = rw (lt-leb _ 32 c.if-d-le32.false)
