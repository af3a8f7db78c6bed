-- `planback::there_and_back` meets its contract. Assumes nothing.
use Rattle.std.proofs.Common.{rules, ◌≤◌, length, sym}
use Rattle.std.proofs.lemmas.List.{length-take-le}
use Rattle.planback.proofs.Again.{back-room, back_read, back-refused}
use Rattle.planback.proofs.there_and_back.Goals.{In_ok-n}
use Rattle.planback.proofs.there_and_back.Goals as goal

pub returns-in_err-n : goal.returns-in_err-n
returns-in_err-n c = (back-refused c.args.plan c.args.room.now c.write.ensures.value.0 c.in_err-n.was (search rules), c.write.ensures.value.1)

-- the bytes written are in the room
inside : (c : In_ok-n) → c.in_ok-n.n ≤ length c.write.new.room
inside c = back-room c.args.plan c.args.room.now c.write.ensures.value.0 c.in_ok-n.was c.write.ensures.value.1

pub slice_bounds-read-end : goal.slice_bounds-read-end
slice_bounds-read-end c = inside (goal.at.slice_bounds-read-end c).In_ok-n

pub slice_bounds-read-end-2 : goal.slice_bounds-read-end-2
slice_bounds-read-end-2 c = sym (length-take-le _ c.write.new.room (inside (goal.at.slice_bounds-read-end-2 c).In_ok-n))

pub returns : goal.returns
returns c = (back_read c.args.plan c.args.room.now c.write.ensures.value.0 c.in_ok-n.was c.write.ensures.value.1 c.held.ensures c.read.ensures.value, c.write.ensures.value.1)
