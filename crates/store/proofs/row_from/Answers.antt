-- `store::row_from` meets its contract. Assumes nothing.
use Rattle.std.proofs.Common.{◌≡◌, ℕ, ◌+◌, ◌-◌, ◌<◌, ◌≤◌, Bool, false, true, List, Option, Some, None, refl, arith, rules, tests, ltb, ltb-true, ltb-false}
use Rattle.std.specs.Prelude.{MatchOption}
use Rattle.std.proofs.lemmas.Iterator.{YieldsList-from_range}
use Rattle.std.proofs.lemmas.Iterator.Search.{find_from_yields_List}
use Rattle.store.specs.Words.{data_row_at, is_for, first_for}
use Rattle.store.proofs.Words.{first_found, first-none}
use Rattle.store.proofs.Searches.{NonePasses, FirstPasses, first_in}
use Rattle.store.proofs.row_from.Goals as goal

-- with those below the first place looked at
module _ (q : ℕ → Bool) (from : ℕ) (before : (j : ℕ) → j < from → q j ≡ false) where
  all-below : (e : ℕ) → NonePasses from e q → (j : ℕ) → j < e → q j ≡ false
  all-below e h j l = by (ltb j from) refl
    where
      by : (b : Bool) → ltb j from ≡ b → q j ≡ false
      by true t = before j (ltb-true j from t)
      by false t = h j (ltb-false j from t) l

module _ (b : List ℕ) (m o k from : ℕ) (h : from ≤ 1024) (before : (j : ℕ) → j < from → is_for m o k (data_row_at b j) ≡ false) where
  abbrev asked : ℕ → Bool
  asked j = is_for m o k (data_row_at b j)

  found : (r : Option ℕ) → MatchOption r (NonePasses from (from + (1024 - from)) asked) (FirstPasses from (from + (1024 - from)) asked)
      → MatchOption r (1024 ≤ first_for b m o k) (λ i. (i ≡ first_for b m o k) × (i < 1024))
  found None f = omega (arith, first-none b m o k (all-below asked from before 1024 (λ j l s. f j l (omega arith))))
  found (Some i) f = (first_found b m o k i (all-below asked from before i f.3) (omega (arith, f.1)) f.2, omega (arith, f.1))

pub returns : goal.returns
returns c before =
    let from = c.args.from in
    let row = c.args.row in
    let test = asked c.args.rows.now row.mark row.owner row.key from c.requires before in
    let e = find_from_yields_List test _ _ c.find.result c.find.ensures.ran (YieldsList-from_range from 1024 (1024 - from) refl refl) (λ i b q k. search (rules, tests)) in
    found c.args.rows.now row.mark row.owner row.key from c.requires before _ (first_in from (1024 - from) test _ e)
