-- The lowest free record as the first that passes a test. Assumes nothing.
use Rattle.std.proofs.Common.{◌≡◌, ◌≤◌, Bool, true, false, cond, List, [], ◌∷◌, length, refl, sym, arith, Some, None, ltb, ltb-false, suc, ◌+◌}
use Rattle.std.specs.Option.{unwrap_or}
use Rattle.std.specs.List.{position_or_len}
use Rattle.std.proofs.lemmas.List.Recursion.{is_position_or_len}
use Rattle.call.specs.declared.Call.{Call}
use Rattle.call.specs.Protocol.{is_free}
use Rattle.call.specs.Row.{lowest_free}

within : (row : List Call) → lowest_free row ≤ length row
within [] = omega arith
within (c ∷ cs) = go (is_free c) (within cs)
  where
    go : (free : Bool) → lowest_free cs ≤ length cs → cond free 0 (suc (lowest_free cs)) ≤ suc (length cs)
    go true h = omega arith
    go false h = omega arith

pub found_or_end : (row : List Call)
    → unwrap_or (cond (ltb (position_or_len is_free row) (length row)) (Some (position_or_len is_free row)) None) (length row) ≡ lowest_free row
found_or_end row =
    rw (sym (is_position_or_len lowest_free is_free refl step row)) (go (ltb (lowest_free row) (length row)) refl)
  where
    step : (c : Call) (cs : List Call) → lowest_free (c ∷ cs) ≡ cond (is_free c) 0 (1 + lowest_free cs)
    step c cs = let e : suc (lowest_free cs) ≡ 1 + lowest_free cs = omega arith in rw e

    go : (b : Bool) → ltb (lowest_free row) (length row) ≡ b → unwrap_or (cond b (Some (lowest_free row)) None) (length row) ≡ lowest_free row
    go true e = refl
    go false e = let h = within row in let k = ltb-false (lowest_free row) (length row) e in omega arith
