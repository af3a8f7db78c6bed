-- `making::new_tested` meets its contract: it looks at the plan, and hands on what it has seen. Assumes nothing.
use mathlib.Core.Path.{sym, ap, ◌∙◌}
use Prim.Native.Nat.{ℕ}
use Rattle.plan.specs.Find.{seen}
use Rattle.making.proofs.new_tested.Goals as goal

pub returns : goal.returns
returns c =
    let p = c.args.plan in
    c.new_seen.ensures p 0 (sym (c.look-v.ensures ∙ ap (λ (a : ℕ). seen p a 0) c.box_address.ensures))
