-- A fixed field that is refused ends the reading. Assumes nothing.
use Rattle.std.proofs.Common.{◌≡◌, ℕ, ◌≤◌, true, List, length, Result, Ok, Err, sym, ap, ◌∙◌}
use Rattle.std.specs.Prelude.{drop, replicate, is_ok}
use mathlib.Core.Bool.{false≢true}
use Rattle.refusal.specs.declared.Refusal.{Refusal}
use Rattle.plan.specs.declared.Plan.{Plan}
use Rattle.plan.specs.Parts.{no_subscriber}
use Rattle.planread.specs.declared.Head.{Head}
use Rattle.planread.specs.Reading.{plan_of, read_from}
use Rattle.planread.specs.Scanning.{onward}

pub not_on : {h : Result Head Refusal} (bs : List ℕ) {r : Refusal} {x : Result Plan Refusal} → h ≡ Err r → x ≡ Err r → (onward h bs ≡ x) × (is_ok h ≡ true → 289 ≤ length bs)
not_on bs e k = (ap (λ (w : Result Head Refusal). onward w bs) e ∙ sym k, λ s. absurd (false≢true (sym (ap (λ (w : Result Head Refusal). is_ok w) e) ∙ s)))

-- reading on by what the fixed fields gave
module _ (bs : List ℕ) {h : Result Head Refusal} {x : Result Plan Refusal} (e : onward h bs ≡ x) where
  pub on-refused : {r : Refusal} → h ≡ Err r → x ≡ Err r
  on-refused k = sym e ∙ ap (λ (w : Result Head Refusal). onward w bs) k

  pub on-sound : {f : Head} → h ≡ Ok f → read_from 257 4 (plan_of f.types f.source f.target (replicate 256 no_subscriber) 0) 289 (drop 289 bs) ≡ x
  on-sound k = ap (λ (w : Result Head Refusal). onward w bs) (sym k) ∙ e
