-- `journey::desk` meets its contract. Assumes nothing.
use mathlib.Core.Path.{◌≡◌, sym, ap, ◌∙◌}
use Prim.Native.Nat.{ℕ, ◌+◌, ◌-◌, ◌≤◌, ◌<◌}
use native.Mathlib.Omega.{arith}
use lib.ListN.{length, take, drop, length-take}
use Rattle.embedded.specs.Embedded.{writes_address, number_from}
use Rattle.embedded.proofs.Digits.{part-from}
use Rattle.journey.specs.Desk.{space_in, address_text, string_text}
use Rattle.journey.proofs.Desks.{nobody-writes, somebody-writes, space-within, no-space, no_address, line_read, new-fine}
use Rattle.journey.proofs.desk.Goals as goal

pub returns-then-line-space : goal.returns-then-line-space
returns-then-line-space c =
    let a = c.args in
    let none : length a.line.now ≤ space_in a.line.now = rw c.space_in-space.ensures at c.if-line-space.true in
    rw (no-space a.plan a.line.now none) c.put_refused.ensures

pub slice_bounds-written-end : goal.slice_bounds-written-end
slice_bounds-written-end c = simp length-take (omega (arith, c.space_in-space.ensures, space-within c.args.line.now))

pub put_told-requires : goal.put_told-requires
put_told-requires c = rw c.new_setup-made.ensures.value (new-fine c.args.plan _ _ 0)

pub returns-in-None : goal.returns-in-None
unfolding address_text
returns-in-None c =
    let a = c.args in
    let some : space_in a.line.now < length a.line.now = rw c.space_in-space.ensures at c.if-line-space.false in
    let t = take c.space_in-space.result a.line.now in
    let nobody = nobody-writes (writes_address t) (number_from 0 t) (sym c.written.ensures ∙ c.in-None.is) in
    rw (no_address a.plan a.line.now some (rw c.space_in-space.ensures at nobody)) c.put_refused-in-None.ensures

pub returns-in-Some : goal.returns-in-Some
unfolding address_text string_text
returns-in-Some c =
    let a = c.args in
    let l = a.line.now in
    let some : space_in l < length l = rw c.space_in-space.ensures at c.if-line-space.false in
    let t = take c.space_in-space.result l in
    let writes = somebody-writes (writes_address t) (number_from 0 t) c.in-Some.a (sym c.written.ensures ∙ c.in-Some.is) in
    let address = rw c.space_in-space.ensures at writes.1 in
    let told = rw c.new_setup-made.ensures.value at c.put_told.ensures in
    let string : take (length l - (c.space_in-space.result + 1)) (drop (c.space_in-space.result + 1) l) ≡ drop (space_in l + 1) l =
    part-from (c.space_in-space.result + 1) l ∙ ap (λ (k : ℕ). drop (k + 1) l) c.space_in-space.ensures in
    rw (line_read a.plan l some (rw c.space_in-space.ensures at writes.0), address) (rw string at told)
