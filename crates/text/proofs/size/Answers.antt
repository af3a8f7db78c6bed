-- `text::size` meets its contract. Assumes nothing.
use native.Mathlib.Numerals.{add-one}
use Rattle.std.proofs.Common.{rules, tests, arith, Option, Some, None, ◌≡◌, true, false, ltb, ap, ◌∙◌, ℕ, ◌+◌, drop}
use Rattle.std.proofs.lemmas.Iterator.{IsFirst-from_position, YieldsList-from_slice}
use Rattle.std.specs.Prelude.{MatchOption, HoldsAt, ◌<◌}
use Rattle.std.specs.List.{AllWithin}
use Rattle.std.specs.Option.{unwrap_or}
use Rattle.text.specs.Decimal.{tens, size}
use Rattle.text.proofs.Tens.{size-found, size-ten}
use Rattle.text.proofs.size.Goals as goal

module _ (n : ℕ) where
  said : (r : Option ℕ) → MatchOption r (AllWithin (λ u. ltb n u ≡ false) (drop 1 tens) 0 9)
      (λ i. (i < 9) × HoldsAt (λ u. ltb n u ≡ true) (drop 1 tens) i × AllWithin (λ u. ltb n u ≡ false) (drop 1 tens) 0 i)
      → unwrap_or r 9 + 1 ≡ size n
  unfolding tens
  said None none = size-ten n (λ j h. rw (add-one j) (none j 0 (omega arith) h))
  said (Some i) (h, here, none) = size-found n i (λ j l. rw (add-one j) (none j 0 (omega arith) l)) h (rw (add-one i) (here 0))

pub returns : goal.returns
unfolding tens
returns c =
    ap (λ m. m + 1) c.unwrap_or.ensures ∙ said c.args.n _
    (IsFirst-from_position _ _ _ (λ u. ltb c.args.n u ≡ true) (λ u. ltb c.args.n u ≡ false) c.position.ensures.ran (YieldsList-from_slice _ c.iter.ensures.rest)
    (λ x q k. search (rules, tests)) (λ x q k. search (rules, tests)))
