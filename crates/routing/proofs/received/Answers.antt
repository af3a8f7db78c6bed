-- `routing::received` meets its contract. Assumes nothing.
use Prim.Native.Nat.{◌≤◌}
use lib.ListN.{length}
use native.Mathlib.Omega.{arith}
use Rattle.setup.proofs.Stored.{all-32}
use Rattle.routing.specs.Steps.{tail, received4}
use Rattle.routing.proofs.Parts.{tail-length}
use Rattle.routing.proofs.received.Goals as goal

pub returns : goal.returns
unfolding received4
returns c =
    let rest = c.args.rest.now in
    let asked : length rest ≤ 32 = c.requires in
    let short : length (tail rest) ≤ 32 = omega (arith, tail-length rest) in
    rw (c.kept_string-dialled.ensures, c.listed-list.ensures, c.tail.ensures, all-32 (tail rest) short)
