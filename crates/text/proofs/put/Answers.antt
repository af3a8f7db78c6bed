-- `text::put` meets its contract. Assumes nothing.
use Rattle.text.proofs.Stores.{put-is}
use Rattle.text.proofs.put.Goals as goal

pub returns : goal.returns
returns c = rw c.store.ensures (put-is c.args.room.now c.args.bytes.now c.args.at c.min-from.result c.min-n.result c.min-from.ensures c.min-n.ensures)
