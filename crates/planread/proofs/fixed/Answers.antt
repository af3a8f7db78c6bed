-- `planread::fixed` meets its contract. Assumes nothing.
use mathlib.Core.Path.{sym, ◌∙◌}
use native.Mathlib.Omega.{arith}
use Rattle.planread.proofs.Turns.{version-room, version-broken, version-on, version-refused}
use borrow.Author.Tests.{eq-eqb, ne_eqb}
use Rattle.planread.proofs.Onward.{not_on}
use Rattle.std.proofs.Common.{rules, refl}
use Rattle.planread.proofs.fixed.Goals as goal

pub bounds-bytes-3 : goal.bounds-bytes-3
bounds-bytes-3 c = omega (arith, version-room c.args.bytes.now (sym c.header.ensures ∙ c.in_ok-header.was))

pub returns-then-bytes-ne1 : goal.returns-then-bytes-ne1
returns-then-bytes-ne1 c = not_on c.args.bytes.now refl (version-broken c.args.bytes.now (sym c.header.ensures ∙ c.in_ok-header.was) (ne_eqb _ 1 c.if-bytes-ne1.true))

pub fixed_types-requires : goal.fixed_types-requires
fixed_types-requires c = version-room c.args.bytes.now (sym c.header.ensures ∙ c.in_ok-header.was)

pub returns-in_err-header : goal.returns-in_err-header
returns-in_err-header c = not_on c.args.bytes.now (search rules) (version-refused c.args.bytes.now (sym c.header.ensures ∙ c.in_err-header.was))

pub returns : goal.returns
returns c = (c.fixed_types.ensures.0 ∙ sym (version-on c.args.bytes.now (sym c.header.ensures ∙ c.in_ok-header.was) (eq-eqb _ 1 c.if-bytes-ne1.false)), c.fixed_types.ensures.1)
