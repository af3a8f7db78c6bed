-- An update that is accepted leaves the index that is built afresh from the plan that it answers; the lists of types that are not touched are as they were. Assumes nothing.
use Rattle.std.specs.Prelude.{Option, Some, None}
use mathlib.Core.Path.{◌≡◌, refl, sym, ap, ◌∙◌}
use mathlib.Core.Bool.{Bool, true, false, cond}
use mathlib.Core.List.{List, []}
use Prim.Native.Nat.{ℕ, ◌<◌}
use native.Mathlib.Omega.{arith}
use lib.ListN.{length, get_or}
use Rattle.typeset.specs.Sets.{has}
use Rattle.plan.specs.declared.Region.{Region}
use Rattle.plan.specs.declared.Plan.{Plan}
use Rattle.plan.specs.Parts.{at, subscribed}
use Rattle.plan.specs.Sound.{sound}
use Rattle.plan.specs.Find.{used, lookup}
use Rattle.plan.proofs.Lookup.{found-used}
use Rattle.std.specs.Prelude.{Ok}
use Rattle.index.specs.Index.{row, list_of, index_of, subscribers_to, row_for, resubscribed, changed}
use Rattle.index.specs.Said.{sets_fit, matches, said_found, left, updated_by, updated, plan_after, index_after}
use Rattle.index.specs.Steps.{wants}
use Rattle.index.proofs.Rows.{tab-at}
use Rattle.index.proofs.Built.{list-is}
use Rattle.index.proofs.Moved.{Shaped, matches-is, members_kept, used_le}
use Rattle.index.proofs.Subscribing.{list-for, wants-for, row_below}
use Rattle.index.proofs.Fits.{still-sound}
use Rattle.index.proofs.Laws.{update-done}

module _ (p : Plan) (i source target : ℕ) (long : length p.subscribers ≡ 256) (h : i < used p) where
  -- the list of a row in which the subscriber is as before
  list-kept : (k : ℕ) → wants k (resubscribed source target (at p.subscribers i)) ≡ wants k (at p.subscribers i) → list_of (changed p i source target) k ≡ list_of p k
  unfolding changed used
  list-kept k e =
      sym (list-is (changed p i source target) k) ∙ members_kept p.subscribers (used p) i source target long (used_le p) h k e ∙ list-is p k

  -- who subscribes to a type that the subscriber has as before in the region
  pub untouched : (r : Region) (t : ℕ) → t < 32 → has t (subscribed r (resubscribed source target (at p.subscribers i))) ≡ has t (subscribed r (at p.subscribers i))
      → subscribers_to (changed p i source target) r t ≡ subscribers_to p r t
  untouched r t low e = sym (list-for (changed p i source target) r t low) ∙ list-kept (row_for r t) (wants-for r t low (resubscribed source target (at p.subscribers i)) ∙ e ∙ sym (wants-for r t low (at p.subscribers i))) ∙ list-for p r t low

-- ---- what an update that was accepted found: a sound plan, sets that fit, the plan's index, and who has the address

done-needs : (kept : Bool) (f : (Option ℕ)) (fit m : Bool) → said_found kept f fit m ≡ Ok tt → (kept ≡ true) × (fit ≡ true) × (m ≡ true)
done-needs false f fit m e = let z : ◌≡◌ {A = ℕ} 0 1 = cc in let no : ⊥ = omega arith in absurd no
done-needs true None fit m e = let z : ◌≡◌ {A = ℕ} 0 1 = cc in let no : ⊥ = omega arith in absurd no
done-needs true (Some i) false m e = let z : ◌≡◌ {A = ℕ} 0 1 = cc in let no : ⊥ = omega arith in absurd no
done-needs true (Some i) true false e = let z : ◌≡◌ {A = ℕ} 0 1 = cc in let no : ⊥ = omega arith in absurd no
done-needs true (Some i) true true e = (refl, refl, refl)

done-found : {C : Type 0} (kept : Bool) (f : (Option ℕ)) (fit m : Bool) → said_found kept f fit m ≡ Ok tt → ((i : ℕ) → f ≡ Some i → C) → C
done-found false f fit m e found = let z : ◌≡◌ {A = ℕ} 0 1 = cc in let no : ⊥ = omega arith in absurd no
done-found true None fit m e found = let z : ◌≡◌ {A = ℕ} 0 1 = cc in let no : ⊥ = omega arith in absurd no
done-found true (Some i) fit m e found = found i refl

-- ---- what it leaves

module _ (p : Plan) (index : List (List ℕ)) (a source target : ℕ) (long : length p.subscribers ≡ 256) (done : updated p a source target index ≡ Ok tt) where
  found_all : (sound p ≡ true) × (sets_fit p.types source target ≡ true) × (matches p index ≡ true)
  unfolding updated updated_by
  found_all = done-needs (sound p) (lookup p a) (sets_fit p.types source target) (matches p index) done

  found-who : {C : Type 0} → ((i : ℕ) → lookup p a ≡ Some i → C) → C
  unfolding updated updated_by
  found-who = done-found (sound p) (lookup p a) (sets_fit p.types source target) (matches p index) done

  module _ (i : ℕ) (f : lookup p a ≡ Some i) where
    leaves : (plan_after p a source target index ≡ changed p i source target) × (index_after p a source target index ≡ index_of (changed p i source target))
    unfolding plan_after index_after
    leaves =
        let all = update-done (sound p) p a source target index i found_all.0 f found_all.1 found_all.2 in
        (sym all.1, sym all.2)

    afresh-at : (other : List (List ℕ)) → index_after p a source target index ≡ left (plan_after p a source target index) other
    unfolding left
    afresh-at other =
        leaves.1
        ∙ sym (ap (λ (x : Plan). cond (sound x) (index_of x) other) leaves.0 ∙ rw (still-sound p i source target found_all.0 (found-used p a i f) long ∙ found_all.1))

  -- what building leaves in any memory, from the plan that the update answers
  pub afresh : (other : List (List ℕ)) → index_after p a source target index ≡ left (plan_after p a source target index) other
  afresh other = found-who (λ i f. afresh-at i f other)

  -- the list of a type that the subscriber has as before in the region: as it was, place by place
  pub lists-kept : Shaped index → (i : ℕ) → lookup p a ≡ Some i → (r : Region) (t : ℕ) → t < 32
      → has t (subscribed r (resubscribed source target (at p.subscribers i))) ≡ has t (subscribed r (at p.subscribers i))
      → get_or (index_after p a source target index) (row_for r t) [] ≡ get_or index (row_for r t) []
  unfolding index_of
  lists-kept 𝓢 i f r t low e =
      let k : ℕ = row_for r t in
      let below : k < 64 = row_below r t low in
      let lists : list_of (changed p i source target) k ≡ list_of p k =
      list-for (changed p i source target) r t low ∙ untouched p i source target long (found-used p a i f) r t low e ∙ sym (list-for p r t low) in
      ap (λ (l : List (List ℕ)). get_or l k []) (leaves i f).1
      ∙ tab-at 64 k (λ k. row (list_of (changed p i source target) k)) below
      ∙ ap row lists
      ∙ sym (tab-at 64 k (λ k. row (list_of p k)) below)
      ∙ ap (λ (l : List (List ℕ)). get_or l k []) (sym (matches-is p index 𝓢 found_all.2))
