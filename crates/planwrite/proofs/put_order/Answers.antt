-- `planwrite::put_order` meets its contract. Assumes nothing.
use mathlib.Core.Path.{◌≡◌}
use lib.ListN.{length}
use Rattle.planwrite.proofs.Puts.{order-put}
use borrow.Author.Rules.{rules}
use Rattle.planwrite.proofs.put_order.Goals as goal

pub returns : goal.returns
returns c =
    let long : length c.args.rows ≡ 32 = search rules in
    (order-put c.args.room.now c.args.at c.args.tag c.args.rows long c.put_header.ensures c.put_rows.ensures, long)
