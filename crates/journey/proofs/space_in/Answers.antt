-- `journey::space_in` meets its contract. Assumes nothing.
use Rattle.std.proofs.Common.{rules, tests, arith, Option, Some, None, ◌≡◌, true, false, eqb, sym, ◌∙◌, ℕ, List, get_or}
use Rattle.std.proofs.lemmas.Iterator.{IsFirst-from_position, YieldsList-from_slice}
use Rattle.std.specs.Prelude.{MatchOption, HoldsAt, length, ◌<◌}
use Rattle.std.specs.List.{AllWithin}
use Rattle.std.specs.Option.{unwrap_or}
use Rattle.typeset.proofs.Below.{least-found, least-none}
use Rattle.journey.specs.Desk.{space_in}
use Rattle.journey.proofs.space_in.Goals as goal

module _ (l : List ℕ) where
  said : (r : Option ℕ) → MatchOption r (AllWithin (λ u. eqb u 32 ≡ false) l 0 (length l))
      (λ i. (i < length l) × HoldsAt (λ u. eqb u 32 ≡ true) l i × AllWithin (λ u. eqb u 32 ≡ false) l 0 i)
      → unwrap_or r (length l) ≡ space_in l
  unfolding space_in
  said None none = sym (least-none (length l) (λ k. eqb (get_or l k 0) 32) (λ k h. none k 0 (omega arith) h))
  said (Some i) (h, here, none) = sym (least-found (length l) (λ k. eqb (get_or l k 0) 32) i (λ k h. none k 0 (omega arith) h) h (here 0))

pub returns : goal.returns
returns c =
    c.unwrap_or.ensures ∙ said c.args.line.now _
    (IsFirst-from_position _ _ _ (λ u. eqb u 32 ≡ true) (λ u. eqb u 32 ≡ false) c.position.ensures.ran (YieldsList-from_slice _ c.iter.ensures.rest)
    (λ x q k. search (rules, tests)) (λ x q k. search (rules, tests)))
