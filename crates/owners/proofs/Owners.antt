-- The owner of the first pair with an address; a box by what a plan shows. Assumes nothing.
use mathlib.Core.Path.{◌≡◌, ap}
use mathlib.Core.Bool.{true, false}
use mathlib.Core.List.{List}
use Prim.Native.Nat.{ℕ, ◌+◌, ◌*◌, ◌<◌}
use lib.Dec.{eqb}
use lib.ListN.{get_or}
use borrow.Author.Tests.{lt-ltb}
use Rattle.typeset.specs.Sets.{least}
use Rattle.typeset.proofs.Below.{least-found}
use Rattle.plan.specs.declared.Plan.{Plan}
use Rattle.plan.specs.declared.Seen.{Seen}
use Rattle.plan.specs.Find.{seen}
use Rattle.owners.specs.Who.{pair_of, owner_in, who_by, who_of}

-- the owner of an address is the customer of the first pair that has it
pub pair_found : (owners : List ℕ) (a i : ℕ) → ((j : ℕ) → j < i → eqb (get_or owners (2 * j) 0) a ≡ false) → i < 256 → eqb (get_or owners (2 * i) 0) a ≡ true
    → get_or owners (2 * i + 1) 0 ≡ owner_in owners a
unfolding owner_in pair_of
pair_found owners a i f h e =
    let at : least 256 (λ j. eqb (get_or owners (2 * j) 0) a) ≡ i = least-found 256 (λ j. eqb (get_or owners (2 * j) 0) a) i f h e in
    rw (at, lt-ltb i 256 h)

-- by what a plan shows of the address
pub by-shown : (p : Plan) (features owners : List ℕ) (t a : ℕ) (v : Seen) → v ≡ seen p a 0 → who_by v.types.existing v.first.kind features owners t a ≡ who_of p features owners t a
unfolding who_of seen
by-shown p features owners t a v e = ap (λ (v : Seen). who_by v.types.existing v.first.kind features owners t a) e
