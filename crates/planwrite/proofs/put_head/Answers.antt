-- `planwrite::put_head` meets its contract. Assumes nothing.
use Rattle.planwrite.proofs.Puts.{head-put}
use Rattle.planwrite.proofs.Puts.{head-put}
use Rattle.planwrite.proofs.put_head.Goals as goal

pub returns : goal.returns
returns c = (
  head-put c.args.room.now c.args.types c.args.source c.args.target c.put_order.ensures.1 c.put_version.ensures c.put_types.ensures c.put_order.ensures.0 c.put_order-2.ensures.0,
  c.put_order.ensures.1,
  c.put_order-2.ensures.1,
)
