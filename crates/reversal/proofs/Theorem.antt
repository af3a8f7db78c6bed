-- A reversal meets each reversible box once, in the reverse order. Assumes nothing.
use Rattle.std.specs.Prelude.{Some}
use mathlib.Core.Path.{◌≡◌, sym, ap, ◌∙◌}
use mathlib.Core.Logic.{⊎_elim}
use mathlib.Core.Bool.{true, false}
use mathlib.Core.List.{List, reverse, reverse-reverse}
use Prim.Native.Nat.{ℕ, ◌<◌}
use Rattle.typeset.specs.Sets.{has}
use Rattle.typeset.proofs.Bools.{clash}
use Rattle.plan.specs.declared.Region.{Region}
use Rattle.plan.specs.declared.Region.TheVariants.{Source, Target}
use Rattle.plan.specs.declared.Plan.{Plan}
use Rattle.plan.specs.Parts.{order, subscribed, at}
use Rattle.plan.specs.Sound.{sound}
use Rattle.plan.specs.Find.{lookup}
use Rattle.plan.proofs.Laws.{never-itself, one_way, reversible-opposed, reversible-twice, found-own}
use Rattle.order.specs.Rules.{precedes}
use Rattle.zone.specs.Answer.{zone_at}
use Rattle.zone.proofs.Precedence.{strict-order}
use Rattle.zone.proofs.Members.{elem}
use Rattle.zone.proofs.PlanZones.{zone-found, zone-types, members, in-both-zones}
use Rattle.reversal.specs.Reversal.{types_after, those, reversible_before, reversible_after, Mirrored, Reversal}
use Rattle.reversal.proofs.Sorted.{Sorted, sorted-weaker, sorted-reverse, sorted-one, after-reverse, in-reverse, those-in, in-those, those-after, those-before}
use Rattle.reversal.proofs.Left.{suffix-after}
use Rattle.reversal.proofs.Zones.{Comes, sorted-zone}

module _ (p : Plan) (𝓢 : sound p ≡ true) where
  abbrev In : Region → ℕ → ℕ → Type 0
  In r a b = Comes (order r p) p.types.reversible a b

  total : (r : Region) (a b : ℕ) → a < 32 → b < 32 → has a p.types.reversible ≡ true → has b p.types.reversible ≡ true → ¬ (a ≡ b)
      → precedes (order r p) b a ≡ false → precedes (order r p) a b ≡ true
  total Source a b la lb ra rb ne f = ⊎_elim (λ o. o.0) (λ o. absurd (clash o.0 f)) (reversible-opposed p 𝓢 a b la lb ra rb ne)
  total Target a b la lb ra rb ne f = ⊎_elim (λ o. absurd (clash o.2 f)) (λ o. o.2) (reversible-opposed p 𝓢 a b la lb ra rb ne)

  never : (r : Region) (a b : ℕ) → In r a b → In r b a → ⊥
  never r a b f g = clash g.first (one_way p 𝓢 r a b f.first_below f.second_below f.first)

  -- what comes first in the source order comes last in the target order
  turned : (a b : ℕ) → In Source b a → In Target a b
  turned a b f =
      let other : ¬ (b ≡ a) = λ e. clash f.first (ap (precedes (order Source p) b) (sym e) ∙ never-itself p 𝓢 Source b f.first_below) in
      record {
        first_below = f.second_below;
        second_below = f.first_below;
        first-in = f.second-in;
        second-in = f.first-in;
        first = ⊎_elim (λ o. o.2) (λ o. absurd (clash f.first o.1))
            (reversible-opposed p 𝓢 b a f.first_below f.second_below f.first-in f.second-in other);
      }

  module _ (i : ℕ) (h : i < p.count) where
    own : ℕ
    own = (at p.subscribers i).address

    found : lookup p own ≡ Some i
    unfolding own
    found = found-own p 𝓢 i h

    -- the reversible types of the subscriber's zone
    way : Region → List ℕ
    way r = those p.types.reversible (zone_at p r own)

    way-sorted : (r : Region) → Sorted (In r) (way r)
    unfolding way
    way-sorted r =
        rw (zone-found p r own i found)
        (sorted-zone (order r p) (strict-order p 𝓢 r) p.types.reversible (total r) (subscribed r (at p.subscribers i)))

    same-members : (y : ℕ) → elem y (way Source) ≡ true → elem y (way Target) ≡ true
    unfolding way
    same-members y e =
        let both = those-in p.types.reversible y (zone_at p Source own) e in
        in-those p.types.reversible y (zone_at p Target own)
        (sym (in-both-zones p 𝓢 own i found y (zone-types p Source own y both.0) both.1) ∙ both.0) both.1

    members-same : (y : ℕ) → elem y (way Target) ≡ true → elem y (way Source) ≡ true
    unfolding way
    members-same y e =
        let both = those-in p.types.reversible y (zone_at p Target own) e in
        in-those p.types.reversible y (zone_at p Source own)
        (in-both-zones p 𝓢 own i found y (zone-types p Target own y both.0) both.1 ∙ both.0) both.1

    -- the way back is the way there, turned round
    way_back : way Target ≡ reverse (way Source)
    way_back =
        sorted-one (In Target) (never Target) (way-sorted Target)
        (sorted-weaker (λ a b. In Source b a) (In Target) turned (sorted-reverse (In Source) (way-sorted Source)))
        (λ y e. in-reverse y (way Source) ∙ members-same y e)
        (λ y e. same-members y (sym (in-reverse y (way Source)) ∙ e))

    module _ (t : ℕ) (l : t < 32) (e : has t p.types.reversible ≡ true) where
      module _ (s : has t (at p.subscribers i).source ≡ true) where
        there : elem t (way Source) ≡ true
        unfolding way
        there = in-those p.types.reversible t (zone_at p Source own) (members p 𝓢 own i found Source t l ∙ s) e

        mirrored : Mirrored p own t
        unfolding reversible_before reversible_after way
        mirrored = record {
          in_target =
              those-after p.types.reversible t e (zone_at p Target own) ∙ ap (types_after t) way_back
              ∙ after-reverse (In Source) (never Source) t (way-sorted Source) there
              ∙ ap reverse (sym (those-before p.types.reversible t e (zone_at p Source own)));
          in_source =
              those-after p.types.reversible t e (zone_at p Source own) ∙ ap (types_after t) (sym (reverse-reverse (way Source)) ∙ ap reverse (sym way_back))
              ∙ after-reverse (In Target) (never Target) t (way-sorted Target) (same-members t there)
              ∙ ap reverse (sym (those-before p.types.reversible t e (zone_at p Target own)));
          suffix_in_target = suffix-after t (zone_at p Target own) (members p 𝓢 own i found Target t l ∙ sym (reversible-twice p 𝓢 i h t l e) ∙ s);
          suffix_in_source = suffix-after t (zone_at p Source own) (members p 𝓢 own i found Source t l ∙ s);
        }

pub reversal : Reversal
unfolding own
reversal p 𝓢 i h t l e has-it =
    mirrored p 𝓢 i h t l e (⊎_elim (λ s. s) (λ s. reversible-twice p 𝓢 i h t l e ∙ s) has-it)
