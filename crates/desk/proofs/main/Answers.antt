-- What the desk answers fits its room, which keeps its length.
use Rattle.std.proofs.Common.{◌≡◌, ℕ, ◌≤◌, List, length, arith, sym, length-take-le}
use Rattle.plan.specs.declared.Plan.{Plan}
use Rattle.journey.specs.Desk.{desk_text}
use Rattle.journey.proofs.Desks.{desk-fits}
use Rattle.desk.proofs.main.Goals as goal

fits : (p : Plan) (line : List ℕ) (n : ℕ) → n ≡ length (desk_text p line) → n ≤ 4096
fits p line n e = omega (arith, desk-fits p line)

pub slice_bounds-room-end : goal.slice_bounds-room-end
slice_bounds-room-end c =
    let n : c.desk-len.result ≤ 4096 = fits _ _ _ c.desk-len.ensures.0 in
    omega arith

pub slice_bounds-write_all-end : goal.slice_bounds-write_all-end
slice_bounds-write_all-end c =
    let n : c.desk-len.result ≤ 4096 = fits _ _ _ c.desk-len.ensures.0 in
    sym (length-take-le c.desk-len.result c.desk-len.new.room (omega arith))
