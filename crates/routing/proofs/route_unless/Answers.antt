-- `routing::route_unless` meets its contract: it hands on the verdict that it has found. Assumes nothing.
use Rattle.routing.proofs.route_unless.Goals as goal

pub returns : goal.returns
returns c =
    let tested = c.route_tested.ensures in
    let kept = c.sound-kept.ensures in
    (rw kept at tested.0, rw kept at tested.1, rw kept at tested.2)
