-- The sentences of 02's ask 12 on what a box may learn, for stores that differ only in rows and relations that are closed to it, as the ask says it. Any numbers are a store; the lengths are those of the lent memory. Assumes nothing.
use Rattle.std.specs.Prelude.{Ok, Some}
use mathlib.Core.Path.{◌≡◌}
use mathlib.Core.List.{List, map}
use Prim.Native.Nat.{ℕ}
use lib.ListN.{length}
use Rattle.store.specs.declared.Who.{Who}
use Rattle.store.specs.Operations.{StoreOperation, read, write, delete, effect}
use Rattle.store.specs.Agree.{DifferInClosed, rows_held, says_full, all_answers}
use Rattle.store.proofs.Isolation as agreeing
use Rattle.store.proofs.Held.{closed-differ-agree}
use Rattle.store.proofs.Counts as agreeing-counts

module _ (w : Who) (R R' b b' : List ℕ) (long : length b ≡ 4096) (long' : length b' ≡ 4096) (d : DifferInClosed w R R' b b') where
  -- "give it equal answers to reads"
  pub equal-reads : (r k : ℕ) → (effect R b w (read r k)).answer ≡ (effect R' b' w (read r k)).answer
  equal-reads r k = agreeing.reads-alike w R R' b b' long long' (closed-differ-agree w R R' b b' d) r k

  -- "and to writes over an existing row": one that a read finds
  pub equal-writes-over : (r k x n : ℕ) → (effect R b w (read r k)).answer ≡ Ok (Some x) → (effect R b w (write r k n)).answer ≡ (effect R' b' w (write r k n)).answer
  equal-writes-over r k x n e = agreeing.writes-over-alike w R R' b b' long long' (closed-differ-agree w R R' b b' d) r k x n e

  -- and to deletes
  pub equal-deletes : (r k : ℕ) → (effect R b w (delete r k)).answer ≡ (effect R' b' w (delete r k)).answer
  equal-deletes r k = agreeing.deletes-alike w R R' b b' long long' (closed-differ-agree w R R' b b' d) r k

  -- "that refusal is the only thing it may learn": along any operations of the box, where the same of them are refused by 71, all answers are equal
  pub only-full-is-learnt : (cs : List StoreOperation) → map says_full (all_answers R b w cs) ≡ map says_full (all_answers R' b' w cs) → all_answers R b w cs ≡ all_answers R' b' w cs
  only-full-is-learnt cs e = (agreeing.isolation w R R' b b' long long' (closed-differ-agree w R R' b b' d) cs e).0

  -- "adding a row also depends on the shared 1,024": and on nothing else; with equally many data rows in both, all answers are equal
  pub only-the-count-decides : rows_held b ≡ rows_held b' → (cs : List StoreOperation) → all_answers R b w cs ≡ all_answers R' b' w cs
  only-the-count-decides even cs = agreeing-counts.alike-with-as-many w R R' b b' long long' (closed-differ-agree w R R' b b' d) even cs
