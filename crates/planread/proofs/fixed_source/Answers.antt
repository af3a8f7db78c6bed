-- `planread::fixed_source` meets its contract. Assumes nothing.
use mathlib.Core.Path.{sym, ◌∙◌}
use native.Mathlib.Omega.{arith}
use Rattle.typeset.proofs.Bools.{passed, failed}
use Rattle.planread.specs.Reading.{plan_of}
use Rattle.plan.specs.Parts.{no_subscriber}
use lib.ListN.{drop, replicate}
use Rattle.planread.proofs.Turns.{source-room, source-broken, source-on}
use Rattle.planread.proofs.Steps.{read-refused}
use Rattle.planread.proofs.Onward.{not_on}
use Rattle.std.proofs.Common.{rules, refl}
use Rattle.planread.proofs.fixed_source.Goals as goal

pub order_at-source-requires : goal.order_at-source-requires
order_at-source-requires c = omega (arith, source-room c.args.bytes.now (sym c.header.ensures ∙ c.in_ok-header.was))

pub returns-then-not-source_sound : goal.returns-then-not-source_sound
returns-then-not-source_sound c = not_on c.args.bytes.now refl (source-broken c.args.bytes.now (sym c.header.ensures ∙ c.in_ok-header.was) c.args.types (replicate 32 0) (replicate 256 no_subscriber) c.order_at-source.ensures _ (failed c.source_sound.ensures c.if-not-source_sound.true-raw))

pub fixed_target-requires : goal.fixed_target-requires
fixed_target-requires c = source-room c.args.bytes.now (sym c.header.ensures ∙ c.in_ok-header.was)

pub returns-in_err-header : goal.returns-in_err-header
returns-in_err-header c = not_on c.args.bytes.now (search rules) (read-refused 258 2 (plan_of c.args.types (replicate 32 0) (replicate 32 0) (replicate 256 no_subscriber) 0) 27 (drop 27 c.args.bytes.now) (sym c.header.ensures ∙ c.in_err-header.was))

pub returns : goal.returns
returns c = (c.fixed_target.ensures.0 ∙ sym (source-on c.args.bytes.now (sym c.header.ensures ∙ c.in_ok-header.was) c.args.types (replicate 32 0) (replicate 256 no_subscriber) c.order_at-source.ensures _ (passed c.source_sound.ensures c.if-not-source_sound.false-raw)), c.fixed_target.ensures.1)
