-- `dfc_index::sets` meets its contract. Assumes nothing.
use Rattle.std.proofs.Common.{◌≡◌, ℕ, ◌/◌, refl, arith}
use Rattle.planbytes.specs.Numbers.{high}
use Rattle.dfc_index.proofs.sets.Goals as goal

two : (n : ℕ) → n / 256 / 256 ≡ n / 65536
two n = omega arith

three : (n : ℕ) → n / 256 / 256 / 256 ≡ n / 16777216
three n = omega arith

pub returns : goal.returns
unfolding high
returns c = rw (c.to_be_bytes.ensures, c.to_be_bytes-2.ensures, three c.args.source, three c.args.target, two c.args.source, two c.args.target) refl
