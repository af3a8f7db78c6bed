-- `store::put_row` meets its contract. Assumes nothing.
use Rattle.store.proofs.Words.{put-code}
use Rattle.store.proofs.put_row.Goals as goal

pub returns : goal.returns
returns c = put-code _ _ _ _ _ _
