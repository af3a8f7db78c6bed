-- `rowbytes::clear` meets its contract. Assumes nothing.
use Rattle.std.proofs.Common.{◌≡◌, ◌*◌, ℕ, ◌++◌, replicate, drop, ap, ◌∙◌, arith}
use Rattle.std.proofs.lemmas.List.{length-take-le}
use Rattle.rowbytes.specs.Rows.{records_in, row_in, cleared_in}
use Rattle.rowbytes.proofs.Rows.{zeros-all, row-cleared}
use Rattle.rowbytes.proofs.clear.Goals as goal

pub returns : goal.returns
returns c =
    let row = c.args.row.now in
    let end = records_in row * 614 in
    let zeros : c.fill.new.self ≡ replicate end 0 = c.fill.ensures.after (λ y e. e) ∙ ap (λ (k : ℕ). replicate k 0) (length-take-le end row (omega arith)) in
    let all : c.fill.new.self ++ drop end row ≡ cleared_in row = rw zeros (zeros-all row) in
    (all, ap row_in all ∙ row-cleared row)
