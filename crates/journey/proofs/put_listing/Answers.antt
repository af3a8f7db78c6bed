-- `journey::put_listing` meets its contract. Assumes nothing.
use Rattle.journey.specs.Hops.{journey}
use Rattle.journey.specs.Listing.{head_line, lines, listing}
use Rattle.journey.proofs.Texts.{and_then, from_start}
use Rattle.journey.proofs.put_listing.Goals as goal

pub returns : goal.returns
unfolding listing head_line
returns c =
    let a = c.args in
    from_start a.room.now (listing (journey a.plan a.first)) c.put_hops.result c.put_hops.new.room
    (and_then a.room.now 0 head_line c.put_bytes-next.result c.put_bytes-next.new.room (lines 1 (journey a.plan a.first)) c.put_hops.result c.put_hops.new.room c.put_bytes-next.ensures c.put_hops.ensures)
