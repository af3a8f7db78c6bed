-- The rules of a plan that are not rules of an order: L1, L6, L7 of the five sets, L10 to L16 of a subscriber, L17 to L19 of a subscriber and those before it, and L20.
-- (L2 to L5, L8 and L9 are in the crate `order`.) Assumes nothing.
use Rattle.std.specs.Prelude.{ℕ, ◌-◌, Bool, true, not, ◌&&◌, cond, List, eqb, ltb, leb}
use Rattle.typeset.specs.Sets.{has, every, some, within, meet, implies, same}
use Rattle.plan.specs.declared.Region.TheVariants.{Source, Target}
use Rattle.plan.specs.declared.Types.{Types}
use Rattle.plan.specs.declared.Subscriber.{Subscriber}
use Rattle.plan.specs.Parts.{choice, given, box_number, at, box}

-- ---- the five sets (manual 3.3)

-- L1: the bound and the reversible types, and those of each choice, exist
unfoldable pub types_exist : Types → Bool
types_exist t =
    within t.bound t.existing && within t.reversible t.existing
    && within (choice Source t) t.existing && within (choice Target t) t.existing

-- L6: the reversible types are in both choices
unfoldable pub reversible_in_both : Types → Bool
reversible_in_both t = within t.reversible (choice Source t) && within t.reversible (choice Target t)

-- L7: a bound type that is in both choices is reversible
unfoldable pub bound_in_both : Types → Bool
bound_in_both t = within (meet t.bound (meet (choice Source t) (choice Target t))) t.reversible

-- ---- a subscriber by itself (manual 2.3, 2.5, 3.5)

-- L10: its kind is 1 line, 2 trunk, 3 resource or 4 mobile
unfoldable pub kind_known : Subscriber → Bool
kind_known s = leb 1 s.kind && leb s.kind 4

-- L11: its address is legal, and not 0
unfoldable pub address_given : Subscriber → Bool
address_given s = given s.address

-- L12: box numbers by kind: a line has exactly 1, a trunk 0 to 4, a resource 1 to 4, a mobile 0. Any other kind breaks L10, and this rule says nothing of it
unfoldable pub count_fits : Subscriber → Bool
count_fits s =
    cond (eqb s.kind 1) (eqb s.count 1)
    (cond (eqb s.kind 2) (leb s.count 4)
    (cond (eqb s.kind 3) (leb 1 s.count && leb s.count 4)
    (cond (eqb s.kind 4) (eqb s.count 0) true)))

-- L13: its box numbers are 1 to 65,535
unfoldable pub numbers_given : Subscriber → Bool
numbers_given s = every 4 (λ x. implies (ltb x s.count) (box_number (box s x)))

-- L14: its sets lie within the choices
unfoldable pub sets_in_choices : Types → Subscriber → Bool
sets_in_choices t s = within s.source (choice Source t) && within s.target (choice Target t)

-- L15: it has a reversible type in both sets or in neither
unfoldable pub reversible_twice : Types → Subscriber → Bool
reversible_twice t s = every 32 (λ u. implies (has u t.reversible) (same (has u s.source) (has u s.target)))

-- L16: its box numbers differ
unfoldable pub numbers_differ : Subscriber → Bool
numbers_differ s = every 4 (λ x. every x (λ y. implies (ltb x s.count) (not (eqb (box s x) (box s y)))))

-- L20, first part: the places past its count of box numbers are 0
unfoldable pub boxes_blank : Subscriber → Bool
boxes_blank s = every 4 (λ x. implies (leb s.count x) (eqb (box s x) 0))

-- ---- a subscriber and those before it (manual 2.5)

-- n is one of its box numbers
unfoldable pub holds : ℕ → Subscriber → Bool
holds n s = some 4 (λ x. ltb x s.count && eqb (box s x) n)

-- two subscribers share a box number
unfoldable pub shares : Subscriber → Subscriber → Bool
shares a b = some 4 (λ x. ltb x a.count && holds (box a x) b)

-- L17: two lines never share one
unfoldable pub lines_apart : Subscriber → Subscriber → Bool
lines_apart a b = not (eqb a.kind 1 && eqb b.kind 1 && shares a b)

-- L18: a number serves one kind only
unfoldable pub one_kind : Subscriber → Subscriber → Bool
one_kind a b = implies (shares a b) (eqb a.kind b.kind)

-- L19: addresses strictly ascend
unfoldable pub ascends : List Subscriber → ℕ → Bool
ascends subs i = implies (ltb 0 i) (ltb (at subs (i - 1)).address (at subs i).address)

-- ---- the places that are not in use

-- a place where everything is 0
unfoldable pub blank : Subscriber → Bool
blank s =
    eqb s.kind 0 && eqb s.address 0 && eqb s.source 0 && eqb s.target 0 && eqb s.count 0
    && every 4 (λ x. eqb (box s x) 0)

-- L20, second part: the places past the count of subscribers are blank
unfoldable pub rest_blank : List Subscriber → ℕ → Bool
rest_blank subs count = every 256 (λ i. implies (leb count i) (blank (at subs i)))
