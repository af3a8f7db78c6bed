-- What the proofs go by: an operation by what its box sees; where a search stops. No public promise and no theorem for the reader cites this. Assumes nothing.
use Rattle.std.specs.Prelude.{ℕ, suc, ◌-◌, ◌≤◌, ◌<◌, ◌≡◌, ◌⊎◌, Bool, true, false, cond, List, [], ◌∷◌, Ok, Err, Some, None}
use Rattle.refusal.specs.declared.Refusal.TheVariants.{Closed, StoreFull}
use Rattle.store.specs.Words.{data_row_at, is_free_place, is_for}
use Rattle.store.specs.Operations.{Answer, StoreOperation, read, write, delete}

-- ---- an operation by the numbers l that the store has for its row, and by whether there is a free place

-- the answer
abbrev pub answer_seen : StoreOperation → Bool → List ℕ → Answer
answer_seen (read r k) room [] = Err Closed
answer_seen (read r k) room (n ∷ l) = Ok (Some n)
answer_seen (write r k n) room [] = cond room (Ok None) (Err StoreFull)
answer_seen (write r k n) room (x ∷ l) = Ok None
answer_seen (delete r k) room [] = Err Closed
answer_seen (delete r k) room (n ∷ l) = Ok None

-- the numbers that are then there for that row
abbrev pub numbers_left : StoreOperation → Bool → List ℕ → List ℕ
numbers_left (read r k) room l = l
numbers_left (write r k n) room [] = cond room (n ∷ []) []
numbers_left (write r k n) room (x ∷ l) = n ∷ l
numbers_left (delete r k) room [] = []
numbers_left (delete r k) room (n ∷ l) = l

-- and how many data rows there are then, of h
abbrev pub held_left : StoreOperation → Bool → List ℕ → ℕ → ℕ
held_left (read r k) room l h = h
held_left (write r k n) room [] h = cond room (suc h) h
held_left (write r k n) room (x ∷ l) h = h
held_left (delete r k) room [] h = h
held_left (delete r k) room (n ∷ l) h = h - 1

-- ---- where a search for a data row or a free place stops: at the first of these, at 1,024 where there is none

pub record Stops (b : List ℕ) (m o k i : ℕ) : Type 0 where
  pub low : i ≤ 1024
  pub not_for : (j : ℕ) → j < i → is_for m o k (data_row_at b j) ≡ false
  pub not_free : (j : ℕ) → j < i → is_free_place (data_row_at b j) ≡ false
  pub here : i < 1024 → (is_for m o k (data_row_at b i) ≡ true) ⊎ (is_free_place (data_row_at b i) ≡ true)
