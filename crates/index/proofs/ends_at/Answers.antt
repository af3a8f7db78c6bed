-- `index::ends_at` meets its contract. Assumes nothing.
use Rattle.std.proofs.Common.{◌≡◌, ℕ, ◌&&◌, ◌+◌, ◌-◌, ◌<◌, length, get_or, take, drop, eqb, sym, ap, ◌∙◌, rules, arith, add-one, length-take, length-drop}
use Rattle.std.proofs.lemmas.List.{get_or-drop, get_or-take}
use Prim.Native.Nat.{min}
use Rattle.typeset.specs.Sets.{every}
use Rattle.typeset.proofs.Below.{every-last, every-ext, every-none}
use Rattle.index.specs.Steps.{ends_at}
use Rattle.index.proofs.ends_at.Goals as goal

pub loop-place-init : goal.loop-place-init
loop-place-init c = sym (every-none _)

pub loop-place-preserved : goal.loop-place-preserved
loop-place-preserved c = rw (add-one c.loop-place.place-index, c.loop-place.invariant) (sym (every-last c.loop-place.place-index _))

pub returns : goal.returns
unfolding ends_at
returns c =
    let row = c.args.row.now in
    let n = c.args.n in
    let m = c.min.result in
    let past = take (256 - m) (drop m row) in
    let least : m ≡ min n 256 = search rules in
    let many : length past ≡ 256 - m = omega (arith, length-take (256 - m) (drop m row), length-drop m row, c.told-row) in
    let end : c.loop-place.place-index ≡ 256 - n = omega (arith, many, least, c.loop-place-test.false, c.loop-place.auto.place-index-end) in
    let there : (u : ℕ) → u < 256 - n → eqb (get_or past u 0) 0 ≡ eqb (get_or row (n + u) 0) 0 =
    λ u h. let same : m ≡ n = omega (arith, least, h) in
    let before : u < 256 - m = omega (arith, same, h) in
    ap (λ x. eqb x 0) (get_or-take _ _ _ _ before ∙ get_or-drop m row u 0 ∙ ap (λ k. get_or row (k + u) 0) same) in
    ap (λ b. b && eqb (get_or row 256 0) n) (c.loop-place.invariant ∙ ap (λ k. every k (λ u. eqb (get_or past u 0) 0)) end ∙ every-ext (256 - n) _ _ there)
