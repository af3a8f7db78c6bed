-- When two stores differ only in what is closed to a box; when a store has no doubles, and how many data rows it holds; and what the box gets from a run of operations. Assumes nothing.
use Rattle.std.specs.Prelude.{ℕ, zero, suc, ◌+◌, ◌-◌, ◌<◌, ◌≤◌, ◌≡◌, ◌⊎◌, Bool, true, false, cond, not, ◌&&◌, List, [], ◌∷◌, eqb, ltb, length, Option, Ok, Err, Some, None}
use Rattle.typeset.specs.Sets.{count}
use Rattle.refusal.specs.Numbers.{number_of}
use Rattle.store.specs.declared.Who.{Who}
use Rattle.store.specs.Words.{DataRow, relation_at, data_row_at, is_free_place, is_for, first_free}
use Rattle.store.specs.Access.{access_in}
use Rattle.store.specs.Operations.{Answer, StoreOperation, effect}

-- ---- in the request's words

abbrev pub is_rows_of : ℕ → Option ℕ → Bool
is_rows_of o None = false
is_rows_of o (Some o') = eqb o' o

-- what stands at a place is a data row that the box may use: `open-rule` and `open-rule-back` (proofs/Closed) hold it against `Allowed`
unfoldable pub is_open_to : List ℕ → Who → DataRow → Bool
is_open_to relations w x = not (is_free_place x) && is_rows_of x.owner (access_in relations w (x.mark - 1))

-- the data row of the relation r, the owner o and the key k is there, is open to the box and says n
pub record OpenRow (R : List ℕ) (w : Who) (b : List ℕ) (r o k n : ℕ) : Type 0 where
  pub place : ℕ
  pub low : place < 1024
  pub is_for : is_for (r + 1) o k (data_row_at b place) ≡ true
  pub is_open : is_open_to R w (data_row_at b place) ≡ true
  pub says : (data_row_at b place).number ≡ n

-- "two stores that differ only in rows and relations closed to a box"
pub record DifferInClosed (w : Who) (relations relations' b b' : List ℕ) : Type 0 where
  pub of_relations : (r : ℕ) → r < 64
      → (relation_at relations r ≡ relation_at relations' r) ⊎ ((access_in relations w r ≡ None) × (access_in relations' w r ≡ None))
  pub of_rows : (i : ℕ) → i < 1024
      → (data_row_at b i ≡ data_row_at b' i) ⊎ ((is_open_to relations w (data_row_at b i) ≡ false) × (is_open_to relations' w (data_row_at b' i) ≡ false))

-- ---- the same wherever the rows stand: what an added row's place is depends on closed rows, so after an operation open rows may stand at different places

-- the values v t of the t below n that pass p, in order
unfoldable pub gather : ℕ → (ℕ → Bool) → (ℕ → ℕ) → List ℕ
gather zero p v = []
gather (suc n) p v = cond (p 0) (v 0 ∷ gather n (λ t. p (suc t)) (λ t. v (suc t))) (gather n (λ t. p (suc t)) (λ t. v (suc t)))

-- the numbers that a store has for a mark, an owner and a key, lowest place first: none or one, where there are no doubles
unfoldable pub numbers_for : List ℕ → ℕ → ℕ → ℕ → List ℕ
numbers_for b m o k = gather 1024 (λ i. is_for m o k (data_row_at b i)) (λ i. (data_row_at b i).number)

-- each relation gives the box the same access, and where that is to the rows of an owner, the stores have the same numbers for each of his keys
pub record Agree (w : Who) (relations relations' b b' : List ℕ) : Type 0 where
  pub access : (r : ℕ) → access_in relations w r ≡ access_in relations' w r
  pub same : (r o : ℕ) → access_in relations w r ≡ Some o → (k : ℕ) → numbers_for b (r + 1) o k ≡ numbers_for b' (r + 1) o k

-- ---- doubles and room

-- "no owner and key twice in one" relation
unfoldable pub NoDoubles : List ℕ → Type 0
NoDoubles b = (r o k : ℕ) → length (numbers_for b (r + 1) o k) ≤ 1

-- how many data rows there are
unfoldable pub rows_held : List ℕ → ℕ
rows_held b = count 1024 (λ i. not (is_free_place (data_row_at b i)))

-- there is a free place
abbrev pub has_room : List ℕ → Bool
has_room b = ltb (first_free b) 1024

-- ---- runs

-- the refusal 71
abbrev pub says_full : Answer → Bool
says_full (Ok (Some n)) = false
says_full (Ok None) = false
says_full (Err x) = eqb (number_of x) 71

-- a box's operations, one after the other: the answers, and the data rows left
unfoldable pub all_answers : List ℕ → List ℕ → Who → List StoreOperation → List Answer
all_answers relations b w [] = []
all_answers relations b w (c ∷ cs) = (effect relations b w c).answer ∷ all_answers relations (effect relations b w c).rows w cs

unfoldable pub rows_after : List ℕ → List ℕ → Who → List StoreOperation → List ℕ
rows_after relations b w [] = b
rows_after relations b w (c ∷ cs) = rows_after relations (effect relations b w c).rows w cs
