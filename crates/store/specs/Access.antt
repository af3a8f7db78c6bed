-- What a box may use of a relation (manual 7, and 02's ask 12). A box is known by two numbers, `Who`: the feature that its type provides, and the customer who owns its address; 0 for none. Assumes nothing.
use Rattle.std.specs.Prelude.{ℕ, ◌≡◌, ◌⊎◌, cond, ◌&&◌, ◌||◌, List, eqb, ltb, Option, Some, None}
use Rattle.store.specs.declared.Who.{Who}
use Rattle.store.specs.Words.{Relation, relation_at}

-- the second restriction, by customer: where rows belong to customers, the box has those of the customer who owns its address; else those that belong to nobody
unfoldable pub whose : ℕ → Who → Option ℕ
whose customers w = cond (eqb customers 0) (Some 0) (cond (eqb w.owner 0) None (Some w.owner))

-- the first, by feature: the relation belongs to no feature, or to the one that the box provides. A relation that belongs to neither a feature nor customers is not there
unfoldable pub access_to : Relation → Who → Option ℕ
access_to x w =
    cond (eqb x.feature 0 && eqb x.customers 0) None
    (cond (eqb x.feature 0 || eqb x.feature w.feature) (whose x.customers w) None)

-- the relation r, of 64
unfoldable pub access_in : List ℕ → Who → ℕ → Option ℕ
access_in relations w r = cond (ltb r 64) (access_to (relation_at relations r) w) None

-- ---- the same in the words of the request, held against the above by `access-rule` and `access-rule-back` (proofs/Rules)

-- a box may use the rows of the owner o in a relation
pub record Allowed (x : Relation) (w : Who) (o : ℕ) : Type 0 where
  -- "never to neither"
  pub either : x.feature ≡ 0 → x.customers ≡ 0 → ⊥
  -- "its type provides that feature, where there is one"
  pub feature : (x.feature ≡ 0) ⊎ (x.feature ≡ w.feature)
  -- "its address is owned by the row's customer, where rows have one"
  pub customer : (x.customers ≡ 0 → ⊥) → (w.owner ≡ 0 → ⊥) × (o ≡ w.owner)
  -- where they have none, the rows are nobody's
  pub nobody : x.customers ≡ 0 → o ≡ 0
