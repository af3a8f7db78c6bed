-- `owners::pair_of` meets its contract. Assumes nothing.
use Rattle.std.proofs.Common.{◌≡◌, ℕ, ◌*◌, ◌<◌, Bool, List, Option, Some, None, eqb, get_or, refl, sym, arith, rules, tests}
use Rattle.std.specs.Prelude.{MatchOption}
use Rattle.std.proofs.lemmas.Iterator.{YieldsList-from_range}
use Rattle.std.proofs.lemmas.Iterator.Search.{find_from_yields_List}
use Rattle.typeset.proofs.Below.{least-found, least-none}
use Rattle.store.proofs.Searches.{NonePasses, FirstPasses, first_in}
use Rattle.owners.specs.Who.{pair_of}
use Rattle.owners.proofs.pair_of.Goals as goal

module _ (owners : List ℕ) (a : ℕ) where
  abbrev has_address : ℕ → Bool
  has_address i = eqb (get_or owners (2 * i) 0) a

  found : (r : Option ℕ) → MatchOption r (NonePasses 0 256 has_address) (FirstPasses 0 256 has_address) → MatchOption r (pair_of owners a ≡ 256) (λ i. (i ≡ pair_of owners a) × (i < 256))
  unfolding pair_of
  found None f = least-none 256 has_address (λ j l. f j (omega arith) l)
  found (Some i) f = (sym (least-found 256 has_address i (λ j l. f.3 j (omega arith) l) f.1 f.2), f.1)

pub returns : goal.returns
returns c =
    let test = has_address c.args.owners.now c.args.address in
    let e = find_from_yields_List test _ _ c.find.result c.find.ensures.ran (YieldsList-from_range 0 256 256 refl refl) (λ i b q k. search (rules, tests)) in
    found c.args.owners.now c.args.address _ (first_in 0 256 test _ e)
