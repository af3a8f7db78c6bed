-- `soundness::claim` meets its contract. Assumes nothing.
use Rattle.std.proofs.Common.{◌≡◌, ℕ, ◌+◌, ◌<◌, List, [], refl, length, get_or, take, drop, ap, ◌∙◌, rules, add-one, drop-cons}
use Rattle.std.proofs.lemmas.List.{take_min}
use Rattle.std.proofs.Math.ListN.{drop_of_length-le}
use Prim.Native.Nat.{min}
use Rattle.plan.specs.Table.{entered, takes, claimed}
use Rattle.soundness.proofs.claim.Goals as goal

takes-next : (taken : List ℕ) (kind : ℕ) (ns : List ℕ) (i : ℕ) → i < length ns → takes (entered taken (get_or ns i 0) kind) kind (drop (i + 1) ns) ≡ takes taken kind (drop i ns)
unfolding takes
takes-next taken kind ns i h = rw (add-one i, drop-cons ns i 0 h) refl

pub loop-n-preserved : goal.loop-n-preserved
loop-n-preserved c = rw c.take_number.ensures (takes-next _ _ _ _ c.loop-n-test.true ∙ c.loop-n.invariant)

pub returns : goal.returns
unfolding claimed takes
returns c =
    let numbers = take c.min.result c.args.s.boxes in
    let least : c.min.result ≡ min c.args.s.count (length c.args.s.boxes) = search rules in
    let all : numbers ≡ take c.args.s.count c.args.s.boxes = rw least (take_min _ _) in
    let end : drop c.loop-n.n-index numbers ≡ [] = drop_of_length-le numbers c.loop-n-test.false in
    rw end at c.loop-n.invariant ∙ ap (takes c.args.taken.now c.args.s.kind) all
