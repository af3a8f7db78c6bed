-- What the words of a store mean. A store is two pieces of lent memory: 128 words for relations and 4,096 words for data rows. Any numbers are a store: every content has a meaning, and this file says it. Assumes nothing.
--
-- RELATIONS. There are 64, numbered from 0. The relation r is two words, from the word 2r on:
--   feature    the feature that the relation belongs to; 0: it belongs to no feature
--   customers  0: its data rows belong to nobody; any other number: each of them belongs to a customer
-- A relation that belongs to neither (0 and 0) is not there.
--
-- DATA ROWS. There is room for 1,024. The place i is four words, from the word 4i on:
--   mark       0: the place is free, whatever its other words are; 1 to 64: there is a data row of the relation mark - 1;
--              above 64: there is a data row of no relation; it takes room, and is open to nobody
--   owner      the customer to whom the data row belongs; 0: nobody
--   key        what it is found by
--   number     what it says
-- DOUBLES are data rows of one relation, owner and key. Of these the one at the lowest place counts; when it is deleted, the next one does. No operation makes a double.
use Rattle.std.specs.Prelude.{ℕ, ◌+◌, ◌*◌, Bool, ◌&&◌, List, [], ◌∷◌, eqb, get_or}
use Rattle.std.proofs.lemmas.List.Edits.{sets}
use Rattle.typeset.specs.Sets.{least}

pub record Relation : Type 0 where
  pub feature : ℕ
  pub customers : ℕ

abbrev pub relation : ℕ → ℕ → Relation
relation f c = record { feature = f; customers = c }

unfoldable pub relation_at : List ℕ → ℕ → Relation
relation_at relations r = relation (get_or relations (2 * r) 0) (get_or relations (2 * r + 1) 0)

pub record DataRow : Type 0 where
  pub mark : ℕ
  pub owner : ℕ
  pub key : ℕ
  pub number : ℕ

abbrev pub data_row : ℕ → ℕ → ℕ → ℕ → DataRow
data_row m o k n = record { mark = m; owner = o; key = k; number = n }

unfoldable pub data_row_at : List ℕ → ℕ → DataRow
data_row_at b i = data_row (get_or b (4 * i) 0) (get_or b (4 * i + 1) 0) (get_or b (4 * i + 2) 0) (get_or b (4 * i + 3) 0)

-- what a delete leaves
abbrev pub no_row : DataRow
no_row = data_row 0 0 0 0

unfoldable pub is_free_place : DataRow → Bool
is_free_place x = eqb x.mark 0

-- the data row is the one of this mark, owner and key
unfoldable pub is_for : ℕ → ℕ → ℕ → DataRow → Bool
is_for m o k x = eqb x.mark m && (eqb x.owner o && eqb x.key k)

-- the words with a data row stored at the place i; the others stay
unfoldable pub with_row : List ℕ → ℕ → DataRow → List ℕ
with_row b i x = sets b (4 * i) (x.mark ∷ x.owner ∷ x.key ∷ x.number ∷ [])

-- the lowest place that has it; 1,024 where none does
unfoldable pub first_for : List ℕ → ℕ → ℕ → ℕ → ℕ
first_for b m o k = least 1024 (λ i. is_for m o k (data_row_at b i))

-- the lowest free place; 1,024 where none is
unfoldable pub first_free : List ℕ → ℕ
first_free b = least 1024 (λ i. is_free_place (data_row_at b i))
