-- What a C program is told over a plan file, and how it names regions and makers: by numbers. Assumes nothing.
use Rattle.std.specs.Prelude.{ℕ, cond, List, eqb, Result, Ok, Err}
use Rattle.plan.specs.declared.Region.{Region}
use Rattle.plan.specs.declared.Region.TheVariants.{Source, Target}
use Rattle.making.specs.declared.Maker.{Maker}
use Rattle.making.specs.declared.Maker.TheVariants.{Feature, Line, Trunk, Resource, Error}
use Rattle.answers.specs.declared.Answer.{Answer}
use Rattle.answers.specs.Said.{refusal}
use Rattle.refusal.specs.declared.Refusal.{Refusal}

-- Every operation is over a plan file. What is told of a result: its value by f, or its refusal
abbrev pub answer_over : {A : Type 0} → Result A Refusal → (A → Answer) → Answer
answer_over (Ok a) f = f a
answer_over (Err r) f = refusal r

-- and lent memory is as it was beside a refusal
abbrev pub lent_over : {A : Type 0} → Result A Refusal → (A → List ℕ) → List ℕ → List ℕ
lent_over (Ok a) after before = after a
lent_over (Err r) after before = before

-- 0 is the source region, any other number the target region
abbrev pub region_of : ℕ → Region
region_of n = cond (eqb n 0) Source Target

-- the box that makes a setup: 0 a feature box with this type and address, 1 a line box, 2 a trunk box, 3 a resource box, any other number the error box
abbrev pub maker_of : ℕ → ℕ → ℕ → Maker
maker_of kind type address =
    cond (eqb kind 0) (Feature type address)
    (cond (eqb kind 1) (Line address)
    (cond (eqb kind 2) (Trunk address)
    (cond (eqb kind 3) Resource Error)))
