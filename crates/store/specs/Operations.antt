-- What a box does with a data row: it reads, writes or deletes it. The row is named by its relation and its key; to whom it belongs the box does not say, since only one owner's rows are open to it there. Assumes nothing.
use Rattle.std.specs.Prelude.{ℕ, ◌+◌, cond, List, ltb, Option, Result, Ok, Err, Some, None, ⊤}
use Rattle.refusal.specs.declared.Refusal.{Refusal}
use Rattle.refusal.specs.declared.Refusal.TheVariants.{Closed, StoreFull}
use Rattle.store.specs.declared.Who.{Who}
use Rattle.store.specs.Words.{DataRow, data_row, no_row, data_row_at, with_row, first_for, first_free}
use Rattle.store.specs.Access.{access_in}

pub data StoreOperation : Type 0 where
  read : (r k : ℕ) → StoreOperation
  write : (r k n : ℕ) → StoreOperation
  delete : (r k : ℕ) → StoreOperation

abbrev pub relation_of : StoreOperation → ℕ
relation_of (read r k) = r
relation_of (write r k n) = r
relation_of (delete r k) = r

abbrev pub key_of : StoreOperation → ℕ
key_of (read r k) = k
key_of (write r k n) = k
key_of (delete r k) = k

-- what is answered: the number read, nothing, or a refusal
abbrev pub Answer : Type 0
Answer = Result (Option ℕ) Refusal

-- what an operation does: its answer, and the data rows after it
pub record Effect : Type 0 where
  pub answer : Answer
  pub rows : List ℕ

abbrev pub gives : Answer → List ℕ → Effect
gives a b = record { answer = a; rows = b }

-- a data row is added at the free place f, where there is one; 71 where there is none
unfoldable pub added_at : List ℕ → ℕ → DataRow → Effect
added_at b f x = cond (ltb f 1024) (gives (Ok None) (with_row b f x)) (gives (Err StoreFull) b)

-- the operation on the row of the owner o that stands at the place i, or is absent, if i is not below 1,024: 70 for a read or a delete, and a write adds it at the lowest free place
unfoldable pub effect_at : List ℕ → ℕ → ℕ → StoreOperation → Effect
effect_at b i o (read r k) = cond (ltb i 1024) (gives (Ok (Some (data_row_at b i).number)) b) (gives (Err Closed) b)
effect_at b i o (write r k n) = cond (ltb i 1024) (gives (Ok None) (with_row b i (data_row (r + 1) o k n))) (added_at b (first_free b) (data_row (r + 1) o k n))
effect_at b i o (delete r k) = cond (ltb i 1024) (gives (Ok None) (with_row b i no_row)) (gives (Err Closed) b)

-- 70 where nothing of the relation is open to the box
unfoldable pub effect_by : List ℕ → Option ℕ → StoreOperation → Effect
effect_by b None c = gives (Err Closed) b
effect_by b (Some o) c = effect_at b (first_for b (relation_of c + 1) o (key_of c)) o c

unfoldable pub effect : List ℕ → List ℕ → Who → StoreOperation → Effect
effect relations b w c = effect_by b (access_in relations w (relation_of c)) c

-- ---- the answers of each operation: a read has a number, and a write and a delete have none

abbrev pub number_read : Answer → Result ℕ Refusal
number_read (Ok (Some n)) = Ok n
number_read (Ok None) = Ok 0
number_read (Err r) = Err r

abbrev pub done : Answer → Result ⊤ Refusal
done (Ok a) = Ok tt
done (Err r) = Err r
