-- Who a box is to the store (manual 7): the feature that its type provides, and the customer who owns its address. Both are provisioned beside the plan, in lent words; any numbers will do. Assumes nothing.
--
-- FEATURES. 32 words: the word t is the feature that the type t provides; 0: none. So each type provides at most one.
-- OWNERS. 256 pairs of words, the pair i from the word 2i on: an address, and the customer who owns it; 0: nobody. Of pairs with one address the first counts, so an address has at most one owner; where it says 0, the later ones are hidden.
-- They go by address and not by the place in the plan, so that a plan with a subscriber more or less needs no other owners. A pair outlives its subscriber: clear it when an address is given to somebody else.
use Rattle.std.specs.Prelude.{ℕ, ◌+◌, ◌*◌, Bool, cond, ◌||◌, List, eqb, ltb, get_or}
use Rattle.typeset.specs.Sets.{has, least}
use Rattle.plan.specs.declared.Plan.{Plan}
use Rattle.plan.specs.Find.{holder_at}
use Rattle.store.specs.declared.Who.{Who}

-- a type that does not exist provides none
unfoldable pub feature_of : ℕ → List ℕ → ℕ → ℕ
feature_of existing features t = cond (has t existing) (get_or features t 0) 0

-- the first pair with the address; 256 where there is none
unfoldable pub pair_of : List ℕ → ℕ → ℕ
pair_of owners a = least 256 (λ i. eqb (get_or owners (2 * i) 0) a)

unfoldable pub owner_in : List ℕ → ℕ → ℕ
owner_in owners a = cond (ltb (pair_of owners a) 256) (get_or owners (2 * pair_of owners a + 1) 0) 0

-- "owner: (LAddress + TAddress + MAddress) -> Customer ?": a line's, a trunk's or a mobile's address can be owned; a resource's can't, nor one that nobody has, whose kind is 0
unfoldable pub can_be_owned : ℕ → Bool
can_be_owned kind = eqb kind 1 || (eqb kind 2 || eqb kind 4)

-- a box of the type t at the address a, by the types that exist and the kind of the address
unfoldable pub who_by : ℕ → ℕ → List ℕ → List ℕ → ℕ → ℕ → Who
who_by existing kind features owners t a =
    record {
      feature = feature_of existing features t;
      owner = cond (can_be_owned kind) (owner_in owners a) 0;
    }

-- the same by any plan
unfoldable pub who_of : Plan → List ℕ → List ℕ → ℕ → ℕ → Who
who_of p features owners t a = who_by p.types.existing (holder_at p a).kind features owners t a
