-- `setupbytes::setup_bytes` meets its contract. Assumes nothing.
use mathlib.Core.Path.{◌≡◌}
use lib.ListN.{length}
use Rattle.setupbytes.specs.Codec.{setup_bytes}
use Rattle.setupbytes.proofs.Stores.{built}
use borrow.Author.Rules.{rules}
use Rattle.setupbytes.proofs.setup_bytes.Goals as goal

pub returns : goal.returns
unfolding setup_bytes
returns c =
    let s = c.args.s in
    let lf : length c.head-front.result ≡ 35 = search rules in
    rw (← c.head-front.ensures)
    (built c.head-front.result s.dialled.symbols s.list.types s.dialled.len s.list.len lf c.put_places.ensures.1 c.put_places-2.ensures.1 c.put.ensures c.put_places.ensures.0 c.put_places-2.ensures.0 c.put-2.ensures)
