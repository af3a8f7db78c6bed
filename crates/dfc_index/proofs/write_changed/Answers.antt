-- `dfc_index::write_changed` meets its contract. Assumes nothing.
use mathlib.Core.Path.{ap, ◌∙◌}
use mathlib.Core.List.{◌++◌}
use Prim.Native.Nat.{ℕ, ◌+◌, ◌-◌, ◌≤◌}
use native.Mathlib.Omega.{arith}
use lib.ListN.{length, drop}
use Rattle.dfc_index.specs.Steps.{reset_bytes}
use Rattle.dfc_index.proofs.Bytes.{written_over}
use Rattle.dfc_index.proofs.write_changed.Goals as goal

pub returns : goal.returns
returns c =
    let at = c.sets_at-at.ensures.0 in
    let file = c.args.file.now in
    let room = c.args.room.now in
    let source = c.args.source in
    let target = c.args.target in
    let in-file : c.sets_at-at.result + 8 ≤ length file = rw at c.requires.2 in
    written_over file room _ _ _ c.sets_at-at.result (c.sets_at-at.result + 8 - c.sets_at-at.result) source target c.copy_from_slice.ensures.after c.copy_from_slice-2.ensures.after c.sets-eight.ensures (omega arith) in-file
    ∙ ap (λ (n : ℕ). reset_bytes n source target file ++ drop (length file) room) at
