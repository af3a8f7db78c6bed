-- What building and updating answer, and what they leave in the index: 23, 45, 46, 47 in that order; a refusal changes nothing. Assumes nothing.
use Rattle.std.specs.Prelude.{ℕ, Bool, true, false, ◌&&◌, cond, List, [], eqb, get_or, Option, Some, None, Result, Ok, Err, ⊤}
use Rattle.typeset.specs.Sets.{has, every, within, implies, same}
use Rattle.refusal.specs.declared.Refusal.{Refusal}
use Rattle.refusal.specs.declared.Refusal.TheVariants.{RuleBroken, NotInPlan, SetsBreakRule, OtherIndex}
use Rattle.plan.specs.declared.Region.TheVariants.{Source, Target}
use Rattle.plan.specs.declared.Types.{Types}
use Rattle.plan.specs.declared.Plan.{Plan}
use Rattle.plan.specs.Parts.{choice}
use Rattle.plan.specs.Sound.{sound}
use Rattle.plan.specs.Find.{lookup}
use Rattle.index.specs.Index.{row, list_of, index_of, changed}

abbrev pub is_done : Result ⊤ Refusal → Bool
is_done (Ok _) = true
is_done (Err _) = false

-- ---- building. `kept` says whether the plan is sound

abbrev pub built_by : Bool → Result ⊤ Refusal
built_by true = Ok tt
built_by false = Err (RuleBroken 0)

abbrev pub left_by : Bool → Plan → List (List ℕ) → List (List ℕ)
left_by kept p index = cond kept (index_of p) index

unfoldable pub built : Plan → Result ⊤ Refusal
built p = built_by (sound p)

-- the index afterwards
unfoldable pub left : Plan → List (List ℕ) → List (List ℕ)
left p index = left_by (sound p) p index

-- ---- updating

-- the new sets fit the plan: each lies in its choice, and a reversible type is in both or in neither. Else 46
unfoldable pub sets_fit : Types → ℕ → ℕ → Bool
sets_fit t source target =
    within source (choice Source t) && within target (choice Target t)
    && every 32 (λ u. implies (has u t.reversible) (same (has u source) (has u target)))

-- two rows have the same number in each place
unfoldable pub same_row : List ℕ → List ℕ → Bool
same_row a b = every 257 (λ j. eqb (get_or a j 0) (get_or b j 0))

-- the index is the plan's, in each of its places. Else 47
unfoldable pub matches : Plan → List (List ℕ) → Bool
matches p index = every 64 (λ k. same_row (get_or index k []) (row (list_of p k)))

-- by whether the new sets fit, and whether the index is the plan's
abbrev pub said_sets : Bool → Bool → Result ⊤ Refusal
said_sets false m = Err SetsBreakRule
said_sets true false = Err OtherIndex
said_sets true true = Ok tt

-- by whether the plan is sound, and who has the address
abbrev pub said_found : Bool → Option ℕ → Bool → Bool → Result ⊤ Refusal
said_found false f fit m = Err (RuleBroken 0)
said_found true None fit m = Err NotInPlan
said_found true (Some i) fit m = said_sets fit m

-- a change of one subscriber's sets: whose, and the new ones
unfoldable pub updated_by : Bool → Plan → ℕ → ℕ → ℕ → List (List ℕ) → Result ⊤ Refusal
updated_by kept p a source target index = said_found kept (lookup p a) (sets_fit p.types source target) (matches p index)

abbrev pub changed_at : Option ℕ → Plan → ℕ → ℕ → Plan
changed_at None p source target = p
changed_at (Some i) p source target = changed p i source target

-- the plan afterwards
unfoldable pub plan_by : Bool → Plan → ℕ → ℕ → ℕ → List (List ℕ) → Plan
plan_by kept p a source target index = cond (is_done (updated_by kept p a source target index)) (changed_at (lookup p a) p source target) p

-- the index afterwards: that of the changed plan, as if built afresh
unfoldable pub index_by : Bool → Plan → ℕ → ℕ → ℕ → List (List ℕ) → List (List ℕ)
index_by kept p a source target index =
    cond (is_done (updated_by kept p a source target index)) (index_of (changed_at (lookup p a) p source target)) index

unfoldable pub updated : Plan → ℕ → ℕ → ℕ → List (List ℕ) → Result ⊤ Refusal
updated p a source target index = updated_by (sound p) p a source target index

unfoldable pub plan_after : Plan → ℕ → ℕ → ℕ → List (List ℕ) → Plan
plan_after p a source target index = plan_by (sound p) p a source target index

unfoldable pub index_after : Plan → ℕ → ℕ → ℕ → List (List ℕ) → List (List ℕ)
index_after p a source target index = index_by (sound p) p a source target index

-- what updating answers: the plan afterwards, or the refusal
abbrev pub said_with : Result ⊤ Refusal → Plan → Result Plan Refusal
said_with (Ok _) p = Ok p
said_with (Err r) p = Err r
