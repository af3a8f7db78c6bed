-- What two things that a contract allows have in common. Assumes nothing.
use seplogic.Ra.Ura.{Ura}
use base.Logic.{ent, id⊢, via}
use contract.Monad.{conj, fact, fact_mono}
use denote.Laws.{both_say}
use types.Logic.{Logic}

-- φ is what the contract says of the first, ψ of the second
pub any-two : {M : Type 1} {𝓤 : Ura M} (𝓛 : Logic 𝓤) {φ ψ : Type 0} (θ : Type 0) → (φ → ψ → θ) → ent 𝓤 (conj 𝓤 (fact 𝓤 φ) (fact 𝓤 ψ)) (fact 𝓤 θ)
any-two {𝓤 = 𝓤} 𝓛 {φ} {ψ} θ f = via 𝓤 (fact 𝓤 (φ × ψ)) (both_say 𝓛 φ ψ (id⊢ 𝓤 _) (id⊢ 𝓤 _)) (fact_mono 𝓤 (φ × ψ) θ (λ p. f p.0 p.1))
