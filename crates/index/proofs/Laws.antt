-- What an update answers and leaves, case by case. Assumes nothing.
use Rattle.std.specs.Prelude.{Some, None}
use mathlib.Core.Path.{◌≡◌, refl}
use mathlib.Core.Bool.{Bool, true, false}
use mathlib.Core.List.{List}
use Prim.Native.Nat.{ℕ}
use Rattle.refusal.specs.declared.Refusal.TheVariants.{RuleBroken, NotInPlan, SetsBreakRule, OtherIndex}
use Rattle.plan.specs.declared.Plan.{Plan}
use Rattle.plan.specs.Find.{lookup}
use Rattle.std.specs.Prelude.{Result, ⊤}
use Rattle.refusal.specs.declared.Refusal.{Refusal}
use Rattle.std.specs.Prelude.{Ok, Err}
use Rattle.index.specs.Index.{index_of, changed}
use Rattle.index.specs.Said.{sets_fit, matches, updated_by, plan_by, index_by}

module _ (kept : Bool) (p : Plan) (a source target : ℕ) (index : List (List ℕ)) where
  -- the answer, the plan and the index are these
  abbrev pub Leaves : Result ⊤ Refusal → Plan → List (List ℕ) → Type 0
  Leaves r q rows = (r ≡ updated_by kept p a source target index) × (q ≡ plan_by kept p a source target index) × (rows ≡ index_by kept p a source target index)

  pub update-23 : kept ≡ false → Leaves (Err (RuleBroken 0)) p index
  unfolding updated_by plan_by index_by
  update-23 e = rw e (refl, refl, refl)

  pub update-45 : kept ≡ true → lookup p a ≡ None → Leaves (Err NotInPlan) p index
  unfolding updated_by plan_by index_by
  update-45 e f = rw (e, f) (refl, refl, refl)

  module _ (i : ℕ) (e : kept ≡ true) (f : lookup p a ≡ Some i) where
    pub update-46 : sets_fit p.types source target ≡ false → Leaves (Err SetsBreakRule) p index
    unfolding updated_by plan_by index_by
    update-46 s = rw (e, f, s) (refl, refl, refl)

    pub update-47 : sets_fit p.types source target ≡ true → matches p index ≡ false → Leaves (Err OtherIndex) p index
    unfolding updated_by plan_by index_by
    update-47 s m = rw (e, f, s, m) (refl, refl, refl)

    pub update-done : sets_fit p.types source target ≡ true → matches p index ≡ true → Leaves (Ok tt) (changed p i source target) (index_of (changed p i source target))
    unfolding updated_by plan_by index_by
    update-done s m = rw (e, f, s, m) (refl, refl, refl)
