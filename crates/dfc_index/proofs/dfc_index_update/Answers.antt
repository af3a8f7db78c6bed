-- `dfc_index::dfc_index_update` meets its contract. Assumes nothing.
use Rattle.std.proofs.Common.{◌≡◌, ℕ, ◌++◌, List, true, Some, length, drop, refl, sym, ap, ◌∙◌}
use Rattle.plan.proofs.Lookup.{found_below}
use Rattle.planbytes.specs.Format.{bytes_of}
use Rattle.index.specs.Said.{updated_by, plan_by}
use Rattle.dfc_index.proofs.Over.{all-bytes, update-file, update-short, update-refused, update-done, done-found, done-plan, inside, reset-file, with-plan, with-refusal}
use Rattle.dfc_index.proofs.dfc_index_update.Goals as goal

pub returns-then-room-file : goal.returns-then-room-file
returns-then-room-file c =
    let p = c.in-Ok.plan in
    let e = sym c.read.ensures.0 ∙ c.in-Ok.is in
    rw c.refused.ensures (update-short c.args.file.now c.args.index.now c.args.address c.args.source c.args.target c.args.room.now p e c.if-room-file.true)

pub unwrap-i-requires : goal.unwrap-i-requires
unwrap-i-requires c =
    let p = c.in-Ok.plan in
    let e = sym c.read.ensures.0 ∙ c.in-Ok.is in
    let file = c.args.file.now in
    let index = c.args.index.now in
    let a = c.args.address in
    let source = c.args.source in
    let target = c.args.target in
    let said = with-plan (updated_by true p a source target index) (plan_by true p a source target index) _ (sym c.in-Ok-update_tested.is ∙ c.update_tested.ensures.0) in
    let found = done-found p a source target index said in
    rw (c.find.ensures, found.1) refl

pub write_changed-requires : goal.write_changed-requires
write_changed-requires c =
    let p = c.in-Ok.plan in
    let e = sym c.read.ensures.0 ∙ c.in-Ok.is in
    let file = c.args.file.now in
    let index = c.args.index.now in
    let a = c.args.address in
    let source = c.args.source in
    let target = c.args.target in
    let said = with-plan (updated_by true p a source target index) (plan_by true p a source target index) _ (sym c.in-Ok-update_tested.is ∙ c.update_tested.ensures.0) in
    let found = done-found p a source target index said in
    let same : c.find.result ≡ Some found.0 = c.find.ensures ∙ found.1 in
    let there : c.unwrap-i.result ≡ found.0 = let u = sym c.unwrap-i.ensures ∙ same in cc in
    (rw there (found_below p a _ found.1), c.if-room-file.false, rw there (inside file (all-bytes file (λ i. (c.type_inv.file i).fits)) p e a found.0 source target found.1))

pub returns-in-Ok-update_tested : goal.returns-in-Ok-update_tested
returns-in-Ok-update_tested c =
    let p = c.in-Ok.plan in
    let e = sym c.read.ensures.0 ∙ c.in-Ok.is in
    let file = c.args.file.now in
    let index = c.args.index.now in
    let a = c.args.address in
    let source = c.args.source in
    let target = c.args.target in
    let said = with-plan (updated_by true p a source target index) (plan_by true p a source target index) _ (sym c.in-Ok-update_tested.is ∙ c.update_tested.ensures.0) in
    let found = done-found p a source target index said in
    let room = c.args.room.now in
    let same : c.find.result ≡ Some found.0 = c.find.ensures ∙ found.1 in
    let there : c.unwrap-i.result ≡ found.0 = let u = sym c.unwrap-i.ensures ∙ same in cc in
    let leaves = update-done file index a source target room p e c.if-room-file.false c.in-Ok.ensures.1 said in
    rw (c.accepted.ensures, c.update_tested.ensures.1, c.write_changed.ensures, there)
    (leaves.0, leaves.1, ap (λ (l : List ℕ). l ++ drop (length file) room) (reset-file file (all-bytes file (λ i. (c.type_inv.file i).fits)) p e a found.0 source target found.1 ∙ ap bytes_of (sym (done-plan p a source target index said found.0 found.1))) ∙ leaves.2)

pub returns-in-Err-update_tested : goal.returns-in-Err-update_tested
returns-in-Err-update_tested c =
    let p = c.in-Ok.plan in
    let e = sym c.read.ensures.0 ∙ c.in-Ok.is in
    let said = with-refusal (updated_by true p c.args.address c.args.source c.args.target c.args.index.now) (plan_by true p c.args.address c.args.source c.args.target c.args.index.now) _ (sym c.in-Err-update_tested.is ∙ c.update_tested.ensures.0) in
    rw (c.refused-in-Err-update_tested.ensures, c.update_tested.ensures.1)
    (update-refused c.args.file.now c.args.index.now c.args.address c.args.source c.args.target c.args.room.now p e c.if-room-file.false c.in-Ok.ensures.1 _ said)

pub returns-in-Err : goal.returns-in-Err
returns-in-Err c =
    rw c.refused-in-Err.ensures (update-file c.args.file.now c.args.index.now c.args.address c.args.source c.args.target c.args.room.now _ (sym c.read.ensures.0 ∙ c.in-Err.is))
