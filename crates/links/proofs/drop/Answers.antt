-- `links::drop` meets its contract. Assumes nothing.
use Rattle.std.proofs.Common.{◌≡◌, ◌≤◌, Err, ◌+◌, ◌-◌, ℕ, List, drop, take, append_assoc, length, sym, ap, ◌∙◌, rules, arith}
use lib.Seq.{sets, sets-eq, drop-drop}
use lib.ListN.{replicate, length-replicate}
use borrow.Rule.Slice.PartMut.{put_mid, post_of}
use Rattle.links.specs.Sets.{formed}
use Rattle.links.proofs.Memory.{links-few}
use Rattle.links.proofs.Laws.{remaining-few, looked, looked_none, drop-no-set, drop-done}
use Rattle.links.proofs.drop.Goals as goal

pub returns-in_err-count : goal.returns-in_err-count
returns-in_err-count c =
    let none = looked_none (formed c.args.set.now) _ _ (c.in_err-count.ensures) in
    let out : c.from_residual.result ≡ Err c.in_err-count.field-0.0 = search rules in
    rw (out, none.1) (drop-no-set _ _ none.0)

pub to_front-n-requires : goal.to_front-n-requires
to_front-n-requires c = looked _ _ _ (c.in_ok-count.ensures)

-- zeros put into the k places from n on
put-zeros : (xs : List ℕ) (n k : ℕ) → n + k ≤ length xs → put_mid n k xs (replicate k 0) ≡ sets xs n (replicate k 0)
put-zeros xs n k h =
    let many : length (replicate {A = ℕ} k 0) ≡ k = length-replicate {A = ℕ} k 0 in
    let rest : post_of n k xs ≡ drop (n + length (replicate {A = ℕ} k 0)) xs = drop-drop k n xs ∙ ap (λ j. drop j xs) (omega (arith, many)) in
    rw rest (sym (sets-eq (replicate k 0) xs n (rw many h) ∙ append_assoc (take n xs) (replicate k 0) _))

pub slice_bounds-fill-count : goal.slice_bounds-fill-count
slice_bounds-fill-count c =
    let seen = looked _ _ _ (c.in_ok-count.ensures) in
    omega (arith, c.to_front-n.ensures.0, seen.1, remaining-few c.args.port c.args.set.now)

pub slice_bounds-fill-start : goal.slice_bounds-fill-start
slice_bounds-fill-start c =
    let seen = looked _ _ _ (c.in_ok-count.ensures) in
    omega (arith, c.to_front-n.ensures.0, seen.1, remaining-few c.args.port c.args.set.now)

pub slice_bounds-fill-end : goal.slice_bounds-fill-end
slice_bounds-fill-end c =
    let seen = looked _ _ _ (c.in_ok-count.ensures) in
    omega (arith, c.told-set, seen.1, links-few c.args.set.now c.told-set)

pub returns : goal.returns
returns c =
    let m = c.args.set.now in
    let n = c.to_front-n.result in
    let k = c.in_ok-count.count - n in
    let seen = looked (formed m) _ _ (c.in_ok-count.ensures) in
    let fits : n + k ≤ length c.to_front-n.new.set = omega (arith, c.to_front-n.array_long, c.to_front-n.ensures.0, seen.1, remaining-few c.args.port m, links-few m c.told-set) in
    let zeros : c.fill.new.self ≡ replicate k 0 = search rules in
    rw (zeros, put-zeros c.to_front-n.new.set n k fits, c.to_front-n.ensures.2, c.to_front-n.ensures.0, seen.1) (drop-done _ m c.told-set seen.0)
