-- `setupbytes::put_places` meets its contract. Assumes nothing.
use mathlib.Core.Path.{◌≡◌}
use lib.ListN.{length}
use Rattle.setupbytes.proofs.Stores.{places-put}
use borrow.Author.Rules.{rules}
use Rattle.setupbytes.proofs.put_places.Goals as goal

pub returns : goal.returns
returns c =
    let long : length c.args.places ≡ 32 = search rules in
    (places-put c.args.room.now c.args.places c.args.at c.args.tag c.args.len (search rules) long c.put.ensures c.put-2.ensures, long)
