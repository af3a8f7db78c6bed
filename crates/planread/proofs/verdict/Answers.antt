-- `planread::verdict` meets its contract. Assumes nothing.
use Rattle.std.proofs.Common.{rules, ◌≡◌, Result, sym, ap, ◌∙◌}
use Rattle.refusal.specs.declared.Refusal.{Refusal}
use Rattle.plan.specs.declared.Plan.{Plan}
use Rattle.plan.specs.declared.Subscriber.{Subscriber}
use Rattle.planread.specs.Scanning.{judged}
use Rattle.planread.specs.Reading.{read_of}
use Rattle.planread.proofs.Said.{verdict-said}
use Rattle.planread.proofs.Passing.{passed, passed-answer}
use Rattle.planread.proofs.Onward.{on-refused, on-sound}
use Rattle.planread.proofs.verdict.Goals.{After-pass_subscribers}
use Rattle.planread.proofs.verdict.Goals as goal

-- whether the subscribers were passed is whether the file is read
same : (c : After-pass_subscribers) → passed c.pass_subscribers.result ≡ judged (read_of c.args.bytes.now)
same c =
    passed-answer c.pass_subscribers.result _ _ _ 0 0 _ (c.pass_subscribers.ensures c.in_ok-types.field-0.source c.in_ok-types.field-0.target)
    ∙ ap (λ (r : Result Plan Refusal). judged r) (on-sound c.args.bytes.now c.fixed.ensures.0 c.in_ok-types.was)

pub returns-in_err-types : goal.returns-in_err-types
returns-in_err-types c =
    let refused = ap (λ (r : Result Plan Refusal). judged r) (on-refused c.args.bytes.now c.fixed.ensures.0 c.in_err-types.was) in
    let t = verdict-said c.args.bytes.now {v = c.from_residual.result} (rw refused (search rules)) in
    record { value = t.0; numbered = t.1 }

pub returns-in_err-pass_subscribers : goal.returns-in_err-pass_subscribers
returns-in_err-pass_subscribers c =
    let refused = sym (same (goal.at.returns-in_err-pass_subscribers c).After-pass_subscribers) ∙ ap (λ (r : Result (Subscriber × Subscriber) Refusal). passed r) c.in_err-pass_subscribers.was in
    let t = verdict-said c.args.bytes.now {v = c.from_residual-in_err-pass_subscribers.result} (rw refused (search rules)) in
    record { value = t.0; numbered = t.1 }

pub returns : goal.returns
returns c =
    let fine = sym (same (goal.at.returns c).After-pass_subscribers) ∙ ap (λ (r : Result (Subscriber × Subscriber) Refusal). passed r) c.in_ok-pass_subscribers.was in
    let t = verdict-said c.args.bytes.now (sym fine) in
    record { value = t.0; numbered = t.1 }
