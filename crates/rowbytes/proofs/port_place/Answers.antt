-- `rowbytes::port_place` meets its contract. Assumes nothing.
use Rattle.std.proofs.Common.{rules}
use Rattle.rowbytes.proofs.Turns.{one-record, one_left}
use Rattle.rowbytes.proofs.port_place.Goals as goal

pub returns : goal.returns
returns c = record {
  value = λ p shows.
      let a = c.args in
      let it = c.place.ensures.value p shows in
      let one = one-record a.port.now (search rules) in
      (rw one at it.0, rw one at it.1, one_left _ (search rules) (rw one at it.2), rw one at it.3, rw one at it.4);
  unchanged = c.place.ensures.unchanged;
}
