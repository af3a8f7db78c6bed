-- The index of a plan: for each type and region the addresses that subscribe to the type there, and how many. Assumes nothing.
use Rattle.std.specs.Prelude.{ℕ, zero, suc, ◌+◌, ◌-◌, min, cond, List, [], ◌∷◌, ◌++◌, map, ltb, length, get_or, set, take, replicate}
use Rattle.typeset.specs.Sets.{has}
use Rattle.lists.specs.Lists.{keep}
use Rattle.plan.specs.declared.Region.{Region}
use Rattle.plan.specs.declared.Region.TheVariants.{Source, Target}
use Rattle.plan.specs.declared.Subscriber.{Subscriber}
use Rattle.plan.specs.declared.Plan.{Plan}
use Rattle.plan.specs.Parts.{subscribed, at}
use Rattle.plan.specs.Find.{used}

abbrev pub address_of : Subscriber → ℕ
address_of s = s.address

-- who subscribes to the type in the region, in the order of the plan: in a sound plan by ascending addresses
unfoldable pub subscribers_to : Plan → Region → ℕ → List ℕ
subscribers_to p r t = map address_of (keep (λ s. has t (subscribed r s)) (take (used p) p.subscribers))

-- ---- in memory: 64 rows of 257 numbers

-- a list of at most 256 addresses: then 0 in each place that is left of 256, and how many addresses there are
unfoldable pub row : List ℕ → List ℕ
row l = l ++ replicate (256 - length l) 0 ++ (length l ∷ [])

-- the list of row k: below 32 that of the type k in the source region, from 32 on that of the type k - 32 in the target region
unfoldable pub list_of : Plan → ℕ → List ℕ
list_of p k = cond (ltb k 32) (subscribers_to p Source k) (subscribers_to p Target (k - 32))

-- f 0 to f (n - 1)
unfoldable pub tab : ℕ → (ℕ → List ℕ) → List (List ℕ)
tab zero f = []
tab (suc n) f = f 0 ∷ tab n (λ k. f (suc k))

unfoldable pub index_of : Plan → List (List ℕ)
index_of p = tab 64 (λ k. row (list_of p k))

-- ---- looked up in any memory

-- the row of a type below 32 in a region
abbrev pub row_for : Region → ℕ → ℕ
row_for Source t = t
row_for Target t = 32 + t

-- row 0 for a type above 31, which has none
abbrev pub row_or : Region → ℕ → ℕ
row_or r t = cond (ltb t 32) (row_for r t) 0

-- as many places as the row's last place says, 256 at most; nothing for a type above 31
unfoldable pub looked_up : List (List ℕ) → Region → ℕ → List ℕ
looked_up index r t =
    let places = get_or index (row_for r t) [] in
    cond (ltb t 32) (take (min (get_or places 256 0) 256) places) []

-- ---- a plan with other sets of the subscriber at place i

abbrev pub resubscribed : ℕ → ℕ → Subscriber → Subscriber
resubscribed source target s =
    record { address = s.address; source = source; target = target; boxes = s.boxes; kind = s.kind; count = s.count }

unfoldable pub changed : Plan → ℕ → ℕ → ℕ → Plan
changed p i source target =
    record {
      types = p.types;
      source_order = p.source_order;
      target_order = p.target_order;
      subscribers = set p.subscribers i (resubscribed source target (at p.subscribers i));
      count = p.count;
    }
