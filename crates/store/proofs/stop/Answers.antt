-- `store::stop` meets its contract. Assumes nothing.
use Rattle.std.proofs.Common.{◌≡◌, ℕ, ◌*◌, ◌<◌, Bool, false, true, ◌||◌, List, Option, Some, None, refl, arith, rules, tests, eqb, get_or}
use mathlib.Core.Logic.{inl, inr, ⊎_elim}
use Rattle.std.specs.Prelude.{MatchOption}
use Rattle.std.proofs.lemmas.Iterator.{YieldsList-from_range}
use Rattle.std.proofs.lemmas.Iterator.Search.{find_from_yields_List}
use Rattle.typeset.proofs.Bools.{or_cases}
use Rattle.store.specs.Words.{data_row_at, is_free_place, is_for}
use Rattle.store.specs.Seen.{Stops}
use Rattle.store.proofs.Searches.{NonePasses, FirstPasses, first_in}
use Rattle.store.proofs.stop.Goals as goal

or-no : (a b : Bool) → (a || b) ≡ false → (a ≡ false) × (b ≡ false)
or-no true b e = let z : ◌≡◌ {A = ℕ} 0 1 = cc in absurd (omega arith)
or-no false b e = (refl, e)

module _ (b : List ℕ) (m o k : ℕ) where
  abbrev stops : ℕ → Bool
  stops j = eqb (get_or b (4 * j) 0) 0 || is_for m o k (data_row_at b j)

  found : (r : Option ℕ) → MatchOption r (NonePasses 0 1024 stops) (FirstPasses 0 1024 stops) → MatchOption r (Stops b m o k 1024) (λ i. Stops b m o k i × (i < 1024))
  unfolding is_free_place data_row_at
  found None f =
      record {
        low = omega arith;
        not_for = λ j l. (or-no _ _ (f j (omega arith) l)).1;
        not_free = λ j l. (or-no _ _ (f j (omega arith) l)).0;
        here = λ h. absurd (omega arith);
      }
  found (Some i) f = (
    record {
      low = omega (arith, f.1);
      not_for = λ j l. (or-no _ _ (f.3 j (omega arith) l)).1;
      not_free = λ j l. (or-no _ _ (f.3 j (omega arith) l)).0;
      here = λ h. ⊎_elim (λ e. inr e) (λ e. inl e) (or_cases _ _ f.2);
    },
    f.1,
  )

pub returns : goal.returns
returns c =
    let row = c.args.row in
    let test = stops c.args.rows.now row.mark row.owner row.key in
    let e = find_from_yields_List test _ _ c.find.result c.find.ensures.ran (YieldsList-from_range 0 1024 1024 refl refl) (λ i b q k. search (rules, tests)) in
    found c.args.rows.now row.mark row.owner row.key _ (first_in 0 1024 test _ e)
