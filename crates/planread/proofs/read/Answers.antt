-- `planread::read` meets its contract. Assumes nothing.
use Rattle.std.proofs.Common.{rules, ap, ◌∙◌, Result}
use Rattle.std.specs.Prelude.{is_ok}
use Rattle.refusal.specs.declared.Refusal.{Refusal}
use Rattle.planread.specs.declared.Head.{Head}
use Rattle.planread.proofs.Said.{said}
use Rattle.planread.proofs.Onward.{on-refused, on-sound}
use Rattle.planread.proofs.read.Goals as goal

pub read_subscribers-requires : goal.read_subscribers-requires
read_subscribers-requires c = c.fixed.ensures.1 (ap (λ (h : Result Head Refusal). is_ok h) c.in_ok-head.was)

pub returns-in_err-head : goal.returns-in_err-head
returns-in_err-head c =
    let t = said c.args.bytes.now {r = c.from_residual.result} (rw (on-refused c.args.bytes.now c.fixed.ensures.0 c.in_err-head.was) (search rules)) in
    record { value = t.0; numbered = t.1 }

pub returns : goal.returns
returns c =
    let t = said c.args.bytes.now (c.read_subscribers.ensures ∙ on-sound c.args.bytes.now c.fixed.ensures.0 c.in_ok-head.was) in
    record { value = t.0; numbered = t.1 }
