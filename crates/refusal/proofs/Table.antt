-- A table of tests as the loop of `first_unmet` goes through it. Assumes nothing.
use Rattle.std.proofs.Common.{◌≡◌, ℕ, ◌+◌, ◌<◌, Bool, true, false, List, length, get_or, Result, Ok, Err, sym, ap, ◌∙◌}
use Rattle.std.specs.Prelude.{drop, ⊤}
use lib.Seq.{drop-cons, drop-length}
use native.Mathlib.Numerals.{add-one}
use Rattle.refusal.specs.declared.Refusal.{Refusal}
use Rattle.refusal.specs.Numbers.{unless, first_unmet}

module _ (rows : List (Bool × Refusal)) (i : ℕ) (d : Bool × Refusal) (h : i < length rows) where
  next : first_unmet (drop i rows) ≡ unless (get_or rows i d).0 (get_or rows i d).1 (first_unmet (drop (i + 1) rows))
  next = rw (drop-cons rows i d h, add-one i)

  -- a test that fails
  pub unmet-here : (get_or rows i d).0 ≡ false → Err (get_or rows i d).1 ≡ first_unmet (drop i rows)
  unmet-here e = sym (next ∙ ap (λ (b : Bool). unless b (get_or rows i d).1 (first_unmet (drop (i + 1) rows))) e)

  -- one that passes
  pub unmet-past : (get_or rows i d).0 ≡ true → first_unmet (drop (i + 1) rows) ≡ first_unmet (drop i rows)
  unmet-past e = sym (next ∙ ap (λ (b : Bool). unless b (get_or rows i d).1 (first_unmet (drop (i + 1) rows))) e)

pub unmet-done : (rows : List (Bool × Refusal)) → Ok tt ≡ first_unmet (drop (length rows) rows)
unmet-done rows = rw (drop-length rows)
