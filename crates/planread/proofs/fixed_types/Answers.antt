-- `planread::fixed_types` meets its contract. Assumes nothing.
use mathlib.Core.Path.{sym, ◌∙◌}
use native.Mathlib.Omega.{arith}
use Rattle.typeset.proofs.Bools.{passed, failed}
use Rattle.planread.proofs.Turns.{types-room, types-broken, types-on}
use Rattle.planread.proofs.Turns.{types-refused}
use Rattle.planread.proofs.Onward.{not_on}
use Rattle.std.proofs.Common.{rules, refl}
use Rattle.planread.proofs.fixed_types.Goals as goal

pub types_at-types-requires : goal.types_at-types-requires
types_at-types-requires c = omega (arith, types-room c.args.bytes.now (sym c.header.ensures ∙ c.in_ok-header.was))

pub returns-then-not-types_sound : goal.returns-then-not-types_sound
returns-then-not-types_sound c = not_on c.args.bytes.now refl (types-broken c.args.bytes.now (sym c.header.ensures ∙ c.in_ok-header.was) c.types_at-types.ensures (failed c.types_sound.ensures c.if-not-types_sound.true-raw))

pub fixed_source-requires : goal.fixed_source-requires
fixed_source-requires c = types-room c.args.bytes.now (sym c.header.ensures ∙ c.in_ok-header.was)

pub returns-in_err-header : goal.returns-in_err-header
returns-in_err-header c = not_on c.args.bytes.now (search rules) (types-refused c.args.bytes.now (sym c.header.ensures ∙ c.in_err-header.was))

pub returns : goal.returns
returns c = (c.fixed_source.ensures.0 ∙ sym (types-on c.args.bytes.now (sym c.header.ensures ∙ c.in_ok-header.was) c.types_at-types.ensures (passed c.types_sound.ensures c.if-not-types_sound.false-raw)), c.fixed_source.ensures.1)
