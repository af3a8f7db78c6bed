-- A command in a row is the row's own turn (the call's `Row.turn`); what it leaves. Assumes nothing.
use Prim.Native.Nat.{ℕ}
use mathlib.Core.Path.{◌≡◌, refl, ap}
use mathlib.Core.Bool.{Bool, true, false, cond}
use mathlib.Core.List.{List}
use lib.ListN.{length, length-set}
use lib.Seq.{get_or-set_other}
use lib.Dec.{ltb}
use borrow.Author.Tests.{ltb-true, ltb-false}
use Rattle.std.specs.Prelude.{Ok, None, ◌&&◌}
use Rattle.std.proofs.lemmas.Option.{slice_get-get_or, slice_get_past}
use Rattle.refusal.specs.declared.Refusal.TheVariants.{NoSuchCall, RowTooLong}
use Rattle.call.specs.declared.Call.{Call}
use Rattle.call.specs.declared.Command.{Command}
use Rattle.call.specs.Protocol.{Answer, step, cleared}
use Rattle.call.specs.Row.{Turn, Reply, placed_at, says, command, record_at, in_use, named, refuses, put, turn}
use Rattle.exchange.specs.Lent.{answering, taken_at, answers_to}
use Rattle.commanding.specs.Lent.{commanded}

-- a record that can be commanded is one that is named
answers-named : (row : List Call) (r u : ℕ) → answers_to (taken_at row r) u ≡ named row r u
answers-named row r u = go (ltb r (length row)) refl
  where
    go : (b : Bool) → ltb r (length row) ≡ b → answers_to (taken_at row r) u ≡ (b && in_use (record_at row r) u)
    go true e = rw (slice_get-get_or row r cleared (ltb-true r (length row) e))
    go false e = rw (slice_get_past row r (ltb-false r (length row) e))

pub commanded-is : (row : List Call) (r u : ℕ) (k : Command) → commanded row r u k ≡ turn row (command r u k)
commanded-is row r u k = rw (answers-named row r u)

-- the answer and the row can be read off the two together
abbrev pub answer_of : Reply → Answer
answer_of (placed_at r n) = Ok None
answer_of (says a) = a

pub answering-fixes : (a b : Answer) (xs ys : List Call) → answering a xs ≡ answering b ys → (a ≡ b) × (xs ≡ ys)
answering-fixes a b xs ys e = (ap (λ (t : Turn). answer_of t.reply) e, ap (λ (t : Turn). t.row) e)

-- EVERY OTHER RECORD is as it was after a command, and there are as many.
module _ (row : List Call) (r u : ℕ) (k : Command) where
  pub others : (j : ℕ) → (j ≡ r → ⊥) → record_at (turn row (command r u k)).row j ≡ record_at row j
  others j ne = go (ltb 1024 (length row)) (named row r u)
    where
      go : (long is_named : Bool)
          → record_at (cond long (refuses RowTooLong row) (cond is_named (put row r (step (record_at row r) k)) (refuses NoSuchCall row))).row j ≡ record_at row j
      go true is_named = refl
      go false true = get_or-set_other row r j (step (record_at row r) k).call cleared ne
      go false false = refl

  pub as_many : length (turn row (command r u k)).row ≡ length row
  as_many = go (ltb 1024 (length row)) (named row r u)
    where
      go : (long is_named : Bool)
          → length (cond long (refuses RowTooLong row) (cond is_named (put row r (step (record_at row r) k)) (refuses NoSuchCall row))).row ≡ length row
      go true is_named = refl
      go false true = length-set row r (step (record_at row r) k).call
      go false false = refl
