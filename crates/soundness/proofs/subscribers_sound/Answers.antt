-- `soundness::subscribers_sound` meets its contract. Assumes nothing.
use Rattle.std.proofs.Common.{◌≡◌, ℕ, zero, suc, ◌+◌, ◌<◌, Bool, true, false, ◌&&◌, List, length-take, refl, sym, ap, ◌∙◌, rules, arith, add-one}
use Rattle.std.proofs.lemmas.List.{get_or-take}
use Rattle.typeset.specs.Sets.{every}
use Rattle.typeset.proofs.Below.{every-none, every_more, every-no}
use Rattle.plan.specs.declared.Types.{Types}
use Rattle.plan.specs.declared.Subscriber.{Subscriber}
use Rattle.plan.specs.Parts.{at, nobody}
use Rattle.plan.specs.Rules.{ascends}
use Rattle.plan.specs.Sound.{own_sound, subscriber_sound}
use Rattle.plan.specs.Steps.{above}
use Rattle.plan.specs.Table.{fits}
use Rattle.plan.proofs.Numbers.{Taken, taken_none}
use Rattle.plan.proofs.Subscribers.{above-code, fits-code, table-next}
use Rattle.soundness.proofs.subscribers_sound.Goals as goal

-- the subscriber at place i, with the address before it and the table of those before it
module _ (t : Types) (subs : List Subscriber) (before : ℕ) (taken : List ℕ) where
  above-is : (i : ℕ) → ((k : ℕ) → i ≡ k + 1 → before ≡ (at subs k).address) → above i before (at subs i).address ≡ ascends subs i
  unfolding above ascends
  above-is zero e = refl
  above-is (suc i) e = above-code subs (suc i) i (omega arith) (ap (λ (b : ℕ). above (suc i) b (at subs (suc i)).address) (e i (sym (add-one i))))

  both-of : (b x y z : Bool) → (b ≡ true → x ≡ y) → (b && z && x) ≡ (b && z && y)
  both-of true x y z f = ap (λ (a : Bool). z && a) (f refl)
  both-of false x y z f = refl

  joins-is : (i : ℕ) → every i (subscriber_sound t subs) ≡ true → Taken taken subs i → ((k : ℕ) → i ≡ k + 1 → before ≡ (at subs k).address)
      → (own_sound t (at subs i) && above i before (at subs i).address && fits taken (at subs i)) ≡ subscriber_sound t subs i
  unfolding subscriber_sound
  joins-is i e 𝓣 f = rw (above-is i f) (both-of (own_sound t (at subs i)) _ _ (ascends subs i) (λ own. fits-code t subs i e taken 𝓣 own))

pub loop-i-init : goal.loop-i-init
loop-i-init c = (search rules, every-none _, taken_none _, λ k e. absurd (omega arith))

pub returns-then-not-joins : goal.returns-then-not-joins
returns-then-not-joins c =
    let i = c.loop-i.invariant in
    let subs = c.args.subscribers.now in
    let below : c.loop-i.i < c.args.count = omega (arith, length-take c.args.count subs, c.loop-i-test.true) in
    let here : c.joins.result ≡ subscriber_sound c.args.t subs c.loop-i.i =
    rw (get_or-take c.args.count subs c.loop-i.i nobody below) at c.joins.ensures.test
    ∙ joins-is c.args.t subs c.loop-i.before c.loop-i.taken c.loop-i.i i.1 i.2 i.3 in
    sym (every-no _ _ _ below (sym here ∙ c.if-not-joins.true))

pub loop-i-preserved : goal.loop-i-preserved
loop-i-preserved c =
    let i = c.loop-i.invariant in
    let subs = c.args.subscribers.now in
    let below : c.loop-i.i < c.args.count = omega (arith, length-take c.args.count subs, c.loop-i-test.true) in
    let item = get_or-take c.args.count subs c.loop-i.i nobody below in
    let here : c.joins.result ≡ subscriber_sound c.args.t subs c.loop-i.i =
    rw item at c.joins.ensures.test ∙ joins-is c.args.t subs c.loop-i.before c.loop-i.taken c.loop-i.i i.1 i.2 i.3 in (
      omega arith,
      every_more _ _ i.1 (sym here ∙ c.if-not-joins.false),
      rw (c.claim.ensures, item) (table-next c.args.t subs c.loop-i.i i.1 c.loop-i.taken (rw item at c.joins.ensures.places) i.2 (sym here ∙ c.if-not-joins.false)),
      λ k e. let same : c.loop-i.i ≡ k = omega (arith, e) in ap (λ s. s.address) item ∙ ap (λ j. (at subs j).address) same,
    )
