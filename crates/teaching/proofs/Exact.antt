-- Any two results that a contract of this crate allows are equal: read off the contracts themselves, as the functions in src/ state them.
-- Assumes nothing.
use mathlib.Core.Path.{◌≡◌, sym, ◌∙◌}
use Rattle.plan.specs.declared.Plan.{Plan}
use Rattle.teaching.proofs.teaching_plan.Reads as teaching-plan

pub teaching-plan-exact : (r s : Plan) → teaching-plan.Post tt tt r tt → teaching-plan.Post tt tt s tt → r ≡ s
teaching-plan-exact r s p q = p ∙ sym q
