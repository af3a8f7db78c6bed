-- `planread::fixed_target` meets its contract. Assumes nothing.
use mathlib.Core.Path.{sym, ◌∙◌}
use native.Mathlib.Omega.{arith}
use Rattle.typeset.proofs.Bools.{passed, failed}
use Rattle.planread.specs.Reading.{plan_of}
use Rattle.plan.specs.Parts.{no_subscriber}
use lib.ListN.{drop, replicate}
use Rattle.planread.proofs.Turns.{target_room, target-broken, target-on}
use Rattle.planread.proofs.Steps.{read-refused}
use Rattle.planread.proofs.Onward.{not_on}
use Rattle.std.proofs.Common.{rules, refl}
use Rattle.planread.proofs.fixed_target.Goals as goal

pub order_at-target-requires : goal.order_at-target-requires
order_at-target-requires c = omega (arith, target_room c.args.bytes.now (sym c.header.ensures ∙ c.in_ok-header.was))

pub returns-then-not-target_sound : goal.returns-then-not-target_sound
returns-then-not-target_sound c = not_on c.args.bytes.now refl (target-broken c.args.bytes.now (sym c.header.ensures ∙ c.in_ok-header.was) c.args.types c.args.source (replicate 256 no_subscriber) c.order_at-target.ensures _ (failed c.target_sound.ensures c.if-not-target_sound.true-raw))

pub returns-in_err-header : goal.returns-in_err-header
returns-in_err-header c = not_on c.args.bytes.now (search rules) (read-refused 257 3 (plan_of c.args.types c.args.source (replicate 32 0) (replicate 256 no_subscriber) 0) 158 (drop 158 c.args.bytes.now) (sym c.header.ensures ∙ c.in_err-header.was))

pub returns : goal.returns
returns c = (sym (target-on c.args.bytes.now (sym c.header.ensures ∙ c.in_ok-header.was) c.args.types c.args.source (replicate 256 no_subscriber) c.order_at-target.ensures _ (passed c.target_sound.ensures c.if-not-target_sound.false-raw)), λ ok. target_room c.args.bytes.now (sym c.header.ensures ∙ c.in_ok-header.was))
