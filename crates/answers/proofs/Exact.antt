-- Any two results that a contract of this crate allows are equal: read off the contracts themselves, as the functions in src/ state them. Assumes nothing.
use Rattle.std.specs.Prelude.{Option, Result}
use mathlib.Core.Path.{◌≡◌, sym, ◌∙◌}
use Prim.Native.Nat.{ℕ}
use Rattle.refusal.specs.declared.Refusal.{Refusal}
use Rattle.answers.specs.declared.Answer.{Answer}
use Rattle.answers.proofs.accepted.Reads as accepted
use Rattle.answers.proofs.place_number.Reads as place-number
use Rattle.answers.proofs.refused.Reads as refused
use Rattle.answers.proofs.answered.Reads as answered

pub accepted-exact : (value : ℕ) (r s : Answer) → accepted.Post tt (value, tt) r (value, tt) → accepted.Post tt (value, tt) s (value, tt) → r ≡ s
accepted-exact value r s p q = p ∙ sym q

pub place-number-exact : (place : (Option ℕ)) (r s : ℕ) → place-number.Post tt (place, tt) r (place, tt) → place-number.Post tt (place, tt) s (place, tt) → r ≡ s
place-number-exact place r s p q = p ∙ sym q

pub refused-exact : (x : Refusal) (r s : Answer) → refused.Post tt (x, tt) r (x, tt) → refused.Post tt (x, tt) s (x, tt) → r ≡ s
refused-exact x r s p q = p ∙ sym q

pub answered-exact : (x : Result ℕ Refusal) (r s : Answer) → answered.Post tt (x, tt) r (x, tt) → answered.Post tt (x, tt) s (x, tt) → r ≡ s
answered-exact x r s p q = p ∙ sym q
