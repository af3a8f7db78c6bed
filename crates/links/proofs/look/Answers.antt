-- `links::look` meets its contract. Assumes nothing.
use Rattle.std.proofs.Common.{◌≡◌, ℕ, true, false, List, Ok, Err, ◌-◌, ◌<◌, ◌≤◌, drop, length-drop, length, get_or, refl, sym, ap, ◌∙◌, arith, ne_eqb}
use Rattle.refusal.specs.declared.Refusal.TheVariants.{NotLinks}
use Rattle.std.proofs.lemmas.List.{take_all}
use Rattle.lists.proofs.Places.{count-more, keep-end}
use Rattle.links.specs.Sets.{blank, taken, links, formed}
use Rattle.links.specs.Said.{said_listing}
use Rattle.links.proofs.Loops.{formed-free, formed-low, formed-one, formed-more, formed-end, keep-free}
use Rattle.links.proofs.look.Goals as goal

holds : (m : List ℕ) (n : ℕ) → formed m ≡ true → n ≡ length (links m) → Ok n ≡ said_listing (formed m) (length (links m))
holds m n f e = rw (f, e) refl

holds-none : (m : List ℕ) → formed m ≡ false → Err NotLinks ≡ said_listing (formed m) (length (links m))
holds-none m f = rw f refl

pub returns-then-blank : goal.returns-then-blank
unfolding formed links
returns-then-blank c =
    let below : c.loop-i.i < length c.args.set.now = omega (arith, c.told-set, c.loop-i-test.true) in
    let rest = take_all (64 - c.loop-i.i) (drop c.loop-i.i c.args.set.now) (omega (arith, c.told-set, length-drop c.loop-i.i c.args.set.now)) in
    let m = c.args.set.now in
    let f : formed m ≡ true = sym c.loop-i.invariant.0 ∙ formed-free _ _ _ below c.if-l-eq0.true ∙ ap blank (sym rest) ∙ sym c.blank.ensures ∙ c.if-blank.true in
    holds m _ f (omega (arith, c.loop-i.invariant.1, ap length (keep-free taken refl m c.loop-i.i f below c.if-l-eq0.true)))

pub returns-then-l-eq0 : goal.returns-then-l-eq0
unfolding formed
returns-then-l-eq0 c =
    let below : c.loop-i.i < length c.args.set.now = omega (arith, c.told-set, c.loop-i-test.true) in
    let rest = take_all (64 - c.loop-i.i) (drop c.loop-i.i c.args.set.now) (omega (arith, c.told-set, length-drop c.loop-i.i c.args.set.now)) in
    holds-none c.args.set.now (sym c.loop-i.invariant.0 ∙ formed-free _ _ _ below c.if-l-eq0.true ∙ ap blank (sym rest) ∙ sym c.blank.ensures ∙ c.if-blank.false)

pub returns-then-l-before : goal.returns-then-l-before
unfolding formed
returns-then-l-before c =
    let below : c.loop-i.i < length c.args.set.now = omega (arith, c.told-set, c.loop-i-test.true) in
    holds-none c.args.set.now (sym c.loop-i.invariant.0 ∙ formed-low _ _ _ below c.if-l-eq0.false c.if-l-before.true)

pub returns-then-not-apart : goal.returns-then-not-apart
unfolding formed
returns-then-not-apart c =
    let below : c.loop-i.i < length c.args.set.now = omega (arith, c.told-set, c.loop-i-test.true) in
    holds-none c.args.set.now (sym c.loop-i.invariant.0 ∙ formed-one _ _ _ below c.if-l-eq0.false c.if-l-before.false (sym c.apart.ensures ∙ c.if-not-apart.true))

pub loop-i-preserved : goal.loop-i-preserved
loop-i-preserved c =
    let below : c.loop-i.i < length c.args.set.now = omega (arith, c.told-set, c.loop-i-test.true) in
    let m = c.args.set.now in
    let some : taken (get_or m c.loop-i.i 0) ≡ true = rw (ne_eqb (get_or m c.loop-i.i 0) 0 c.if-l-eq0.false) refl in (
      sym (formed-more _ _ _ below c.if-l-eq0.false c.if-l-before.false (sym c.apart.ensures ∙ c.if-not-apart.false)) ∙ c.loop-i.invariant.0,
      count-more taken m c.loop-i.i 0 _ _ below some c.loop-i.invariant.1,
    )

pub returns : goal.returns
unfolding formed links
returns c =
    let past : length c.args.set.now ≤ c.loop-i.i = omega (arith, c.told-set, c.loop-i-test.false) in
    let m = c.args.set.now in
    let long : length m ≡ 64 = c.told-set in
    holds m _ (sym c.loop-i.invariant.0 ∙ formed-end _ _ _ past)
    (omega (arith, c.loop-i.auto.i-end, c.loop-i.invariant.1, ap length (keep-end taken m c.loop-i.i past)))
