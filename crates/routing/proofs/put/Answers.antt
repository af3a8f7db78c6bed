-- `routing::put` meets its contract. Assumes nothing.
use Rattle.std.proofs.Common.{rules, ◌≡◌, ◌≤◌, length, arith, sym}
use Rattle.std.proofs.lemmas.List.{length-take-le}
use Rattle.zone.specs.Order.{list_of}
use Rattle.routing.proofs.Parts.{list-short, stored-front}
use Rattle.routing.proofs.put.Goals.{After-as_slice-types}
use Rattle.routing.proofs.put.Goals as goal

-- the zone fits in
fits : (c : After-as_slice-types) → length c.as_slice-types.result.now ≤ length c.args.list.now
fits c =
    let long : length c.args.zone.types ≡ 32 = search rules in
    rw c.as_slice-types.ensures (omega (arith, list-short c.args.zone long, c.requires))

pub slice_bounds-copy_from_slice-end : goal.slice_bounds-copy_from_slice-end
slice_bounds-copy_from_slice-end c = fits c

pub slice_bounds-copy_from_slice-end-2 : goal.slice_bounds-copy_from_slice-end-2
slice_bounds-copy_from_slice-end-2 c = sym (length-take-le _ c.args.list.now (fits (goal.at.slice_bounds-copy_from_slice-end-2 c).After-as_slice-types))

pub copy_from_slice-requires : goal.copy_from_slice-requires
copy_from_slice-requires c = length-take-le _ c.args.list.now (fits (goal.at.copy_from_slice-requires c).After-as_slice-types)

pub returns : goal.returns
returns c =
    let short = fits (goal.at.returns c).After-as_slice-types in
    rw (c.copy_from_slice.ensures.after, c.as_slice-types.ensures) (sym (stored-front (list_of c.args.zone) c.args.list.now (rw c.as_slice-types.ensures at short)))
